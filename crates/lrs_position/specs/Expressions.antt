-- Which position expressions can be entered (ISO 19148: position expression, distance expression).
use Rattle.std.specs.Prelude.{ℕ, ℤ, pos, negsuc, Bool, true, false, ◌&&◌, not, nat_le, nat_eq, Option, Some, None, unsigned_abs}
use Rattle.lrs_measure.specs.Limits.{longest_route, greatest_measure}
use Rattle.lrs_position.specs.declared.expression.Expr.{Expr}
use Rattle.lrs_position.specs.declared.expression.Expr.TheVariants.{Abs, Rel, Int}

-- from an expression to another, or at one point
pub record Ends : Type 0 where
  pub from : Expr
  pub to : Option Expr

abbrev pub is_negative : ℤ → Bool
is_negative (pos n) = false
is_negative (negsuc n) = true

-- the greatest denominator of an entered proportion
abbrev pub greatest_denominator : ℕ
greatest_denominator = 1_000_000

-- a whole measure, a whole distance, or a proportion from 0 to 1 with a small denominator
abbrev pub is_entered : Expr → Bool
is_entered (Abs m) = nat_eq m.den 1 && not (is_negative m.num) && nat_le (unsigned_abs m.num) greatest_measure
is_entered (Rel name t) = nat_eq t.den 1 && nat_le (unsigned_abs t.num) longest_route
is_entered (Int p) = nat_le p.den greatest_denominator && not (is_negative p.num) && nat_le (unsigned_abs p.num) p.den

abbrev pub same_method : Expr → Expr → Bool
same_method (Abs m) (Abs n) = true
same_method (Rel name t) (Rel other u) = true
same_method (Int p) (Int q) = true
same_method _ _ = false

-- both ends are by one method
abbrev pub are_alike : Expr → Option Expr → Bool
are_alike first None = true
are_alike first (Some end) = same_method first end
