-- The measure at a chainage: the line of a route's marks, read where a millimetre begins, in lowest terms.
use Rattle.std.specs.Prelude.{ℕ, zero, suc, ◌+◌, ◌-◌, ◌*◌, ◌/◌, ◌%◌, pos, Bool, nat_eq, nat_le, if◌then◌else◌, List, [], ◌∷◌, Option, Some, None}
use Rattle.std.specs.Option.{option_map, option_map_or}
use Rattle.lrs_measure.specs.Fraction.{Fraction}
use Rattle.lrs_measure.specs.FractionTexts.{fraction_text, metres_text}
use Rattle.lrs_element.specs.declared.marks.Mark.{Mark}
use Rattle.lrs_machine.specs.Lines.{Text}

-- the first number that passes, of so many from k on; where none does, the number behind them
abbrev pub first_passing : (ℕ → Bool) → ℕ → ℕ → ℕ
first_passing test k zero = k
first_passing test k (suc more) = if test k then k else first_passing test (k + 1) more

-- the least denominator with which n/d can be written
abbrev pub least_denominator : ℕ → ℕ → ℕ
least_denominator n d = first_passing (λ e. nat_eq (n * e % d) 0) 1 d

-- n/d, d above 0, in lowest terms
unfoldable pub lowest_terms : ℕ → ℕ → Fraction
lowest_terms n d = record { num = pos (n * least_denominator n d / d); den = least_denominator n d }

-- the measure n/d at the chainage c between two marks, where the line is straight
abbrev pub measure_between : Mark → Mark → ℕ → ℕ × ℕ
measure_between p q c = (p.measure * (q.chainage - p.chainage) + (c - p.chainage) * (q.measure - p.measure), q.chainage - p.chainage)

-- the measure n/d at the chainage c: on the first stretch between two marks that does not end before it
abbrev pub measure_pair : List Mark → ℕ → Option (ℕ × ℕ)
measure_pair [] c = None
measure_pair (p ∷ []) c = None
measure_pair (p ∷ q ∷ rest) c = if nat_le c q.chainage then Some (measure_between p q c) else measure_pair (q ∷ rest) c

-- The measure at the chainage c, where that is not behind the last mark.
unfoldable pub measure_on : List Mark → ℕ → Option Fraction
measure_on marks c = option_map (λ m. lowest_terms m.0 m.1) (measure_pair marks c)

-- a whole number as a fraction
abbrev pub whole : ℕ → Fraction
whole n = record { num = pos n; den = 1 }

-- as it is printed: n, or n/d where it is not whole; an empty field behind the last mark
abbrev pub measure_text : List Mark → ℕ → Text
measure_text marks c = option_map_or fraction_text (measure_on marks c) []

-- n/d in thousandths, a half going up
abbrev pub thousandths : ℕ → ℕ → ℕ
thousandths n d = (2000 * n + d) / (2 * d)

-- the measure at the chainage c in thousandths, where that is not behind the last mark
unfoldable pub decimal_measure : List Mark → ℕ → Option ℕ
decimal_measure marks c = option_map (λ m. thousandths m.0 m.1) (measure_pair marks c)

-- as it is printed, a decimal with three places; an empty field behind the last mark
abbrev pub decimal_measure_text : List Mark → ℕ → Text
decimal_measure_text marks c = option_map_or metres_text (decimal_measure marks c) []

-- a measure as it is asked for
abbrev pub measure_field : Bool → List Mark → ℕ → Text
measure_field exact marks c = if exact then measure_text marks c else decimal_measure_text marks c
