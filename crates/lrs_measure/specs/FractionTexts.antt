-- How a fraction is printed.
use Rattle.std.specs.Prelude.{ℕ, ℤ, pos, negsuc, List, ◌∷◌, ◌++◌, if◌then◌else◌, ◌==◌, ◌+◌, ◌/◌, ◌%◌}
use Rattle.std.specs.Fmt.{decimal}
use Rattle.lrs_measure.specs.Fraction.{Fraction}

-- the digits of a whole number, after a minus where it is negative
abbrev pub signed_text : ℤ → List ℕ
signed_text (pos n) = decimal n
signed_text (negsuc n) = 45 ∷ decimal (n + 1)

-- n, or n/d where the fraction is not whole
abbrev pub fraction_text : Fraction → List ℕ
fraction_text q = if q.den == 1 then signed_text q.num else signed_text q.num ++ 47 ∷ decimal q.den

-- millimetres in metres with three decimals
abbrev pub metres_text : ℕ → List ℕ
metres_text mm = decimal (mm / 1000) ++ 46 ∷ decimal (mm / 100 % 10) ++ decimal (mm / 10 % 10) ++ decimal (mm % 10)
