-- The rows of a route that continues as another does.
use Rattle.std.specs.Prelude.{◌≡◌, ℕ, ◌+◌, ◌<◌, ◌++◌, Bool, ◌||◌, not, nat_le, nat_eq, List, [], ◌∷◌}
use Rattle.std.specs.List.{list_all}
use Rattle.lrs_measure.specs.Texts.{Name, same_name}
use Rattle.lrs_measure.specs.Limits.{longest_route}
use Rattle.lrs_measure.specs.Lists.{In}
use Rattle.lrs_events.specs.declared.side.LinkSide.{LinkSide}
use Rattle.lrs_events.specs.declared.span.Span.{Span}
use Rattle.lrs_events.specs.Members.{is_member}
use Rattle.lrs_events.specs.Row.Order.{Joins, grown}

-- the row, a number of millimetres further on
abbrev pub moved : ℕ → Span → Span
moved shift r = grown r (r.from + shift) (r.to + shift)

-- whether each of the rows ends there or before
abbrev pub end_by : ℕ → List Span → Bool
end_by at rows = list_all (λ r. nat_le r.to at) rows

-- whether so much further on no row ends beyond the longest route
abbrev pub have_room : ℕ → List Span → Bool
have_room shift rows = list_all (λ r. nat_le (r.to + shift) longest_route) rows

-- whether two rows are of one class if they are of one asset
abbrev pub is_of_one_class : Span → Span → Bool
is_of_one_class r s = not (nat_eq r.asset s.asset) || same_name r.class s.class

-- ... each of the first with each of the second
abbrev pub are_of_one_class : List Span → List Span → Bool
are_of_one_class first second = list_all (λ r. list_all (is_of_one_class r) second) first

-- the first rows, and from a place on the second
pub record IsJoin (shift : ℕ) (first second new : List Span) : Type 0 where
  pub before : (class : Name) (asset j : ℕ) (s : LinkSide) → j < shift → is_member new class asset j s ≡ is_member first class asset j s
  pub behind : (class : Name) (asset j : ℕ) (s : LinkSide) → is_member new class asset (j + shift) s ≡ is_member second class asset j s

-- A row comes behind the first ones: alone, or in the place of the one that it goes on, with that.
pub data IsSeam (first : List Span) (row : Span) : List Span → Span → Type 0 where
  apart : ((r : Span) → In r first → Joins r row → ⊥) → IsSeam first row [] row
  goes_on : (r : Span) → In r first → Joins r row → IsSeam first row (r ∷ []) (grown row r.from row.to)

-- what is removed and inserted with one row more
pub record AddsSeam (first : List Span) (row : Span) (gone come new_gone new_come : List Span) : Type 0 where
  pub old : List Span
  pub whole : Span
  pub seam : IsSeam first row old whole
  pub goes : new_gone ≡ gone ++ old
  pub comes : new_come ≡ come ++ whole ∷ []
