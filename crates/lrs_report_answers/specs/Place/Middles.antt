-- The middle of a millimetre.
use Rattle.std.specs.Prelude.{ℕ, ◌+◌, ◌*◌, pos}
use Rattle.lrs_measure.specs.Fraction.{Fraction}

-- half a millimetre behind its start
abbrev pub middle : ℕ → Fraction
middle mm = record { num = pos (2 * mm + 1); den = 2 }
