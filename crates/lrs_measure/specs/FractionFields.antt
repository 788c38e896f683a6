-- How the fields of a fraction are its value.
use Rattle.lrs_measure.specs.Fraction.{Fraction, IsLowest, IsInRange}
use Rattle.lrs_measure.specs.declared.fraction.Frac.TheInside.{Inside}

-- the value of the fields
abbrev pub fraction_of : Inside → Fraction
fraction_of f = record { num = f.num; den = f.den }

-- the fields of a value
abbrev pub held : Fraction → Inside
held q = record { num = q.num; den = q.den }

-- in lowest terms, and in range
pub record IsReduced (f : Inside) : Type 0 where
  pub lowest : IsLowest (fraction_of f)
  pub in_range : IsInRange f.num f.den
