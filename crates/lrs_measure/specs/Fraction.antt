-- Exact fractions: values in lowest terms, and what it is to be a quotient, a floor or the nearest whole number.
use Rattle.std.specs.Prelude.{◌≡◌, ℕ, ◌*◌, ◌<◌, ◌≤◌, ℤ, pos, ◌+ℤ◌, ◌*ℤ◌, ◌≤ℤ◌, ◌<ℤ◌, negsuc, neg_ℤ, unsigned_abs}
use Rattle.std.specs.Int.{IsGcd}

-- a whole number over a whole number
pub record Fraction : Type 0 where
  pub num : ℤ
  pub den : ℕ

-- the denominator is positive and shares no divisor with the numerator
pub record IsLowest (q : Fraction) : Type 0 where
  pub positive : 0 < q.den
  pub coprime : IsGcd (unsigned_abs q.num) q.den 1

-- the fraction is the value of n / d
abbrev pub IsQuotient : Fraction → ℤ → ℕ → Type 0
IsQuotient q n d = q.num *ℤ pos d ≡ n *ℤ pos q.den

-- two fractions have one value
abbrev pub IsEqual : Fraction → Fraction → Type 0
IsEqual p q = p.num *ℤ pos q.den ≡ q.num *ℤ pos p.den

-- no numerator or denominator of a fraction is larger
abbrev pub largest : ℕ
largest = 100_000_000_000_000_000_000_000_000_000_000_000_000

-- what a fraction is made of
pub record IsInRange (n : ℤ) (d : ℕ) : Type 0 where
  pub positive : 0 < d
  pub denominator : d ≤ largest
  pub numerator : unsigned_abs n ≤ largest

-- the greatest whole number that is not above the fraction
pub record IsFloor (q : Fraction) (k : ℤ) : Type 0 where
  pub reached : (k *ℤ pos q.den) ≤ℤ q.num
  pub next : q.num <ℤ ((k +ℤ pos 1) *ℤ pos q.den)

-- the nearest whole number, a half going up: the floor of (2 n + d) / 2 d
pub record IsNearest (q : Fraction) (k : ℤ) : Type 0 where
  pub reached : (k *ℤ pos (2 * q.den)) ≤ℤ (q.num *ℤ pos 2 +ℤ pos q.den)
  pub next : (q.num *ℤ pos 2 +ℤ pos q.den) <ℤ ((k +ℤ pos 1) *ℤ pos (2 * q.den))

-- a number of this size, with the sign of another
abbrev pub signed_as : ℤ → ℕ → ℤ
signed_as (pos _) size = pos size
signed_as (negsuc _) size = neg_ℤ (pos size)
