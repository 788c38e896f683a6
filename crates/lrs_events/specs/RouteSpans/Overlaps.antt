-- Rows that have a millimetre of a stretch, as lanes have them, and the orders in which they are handed over.
use Rattle.std.specs.Prelude.{◌≡◌, ℕ, Bool, true, false, cond, ◌&&◌, nat_lt, List, [], ◌++◌, filter}
use Rattle.std.specs.List.{list_any}
use Rattle.lrs_measure.specs.Texts.{Name, same_name}
use Rattle.lrs_events.specs.declared.span.Span.{Span}
use Rattle.lrs_events.specs.Changes.{has_row}
use Rattle.lrs_events.specs.Spans.{span_before}
use Rattle.lrs_events.specs.Row.Members.{is_of}
use Rattle.lrs_events.specs.Row.Removals.{is_met}
use Rattle.lrs_events.specs.declared.spans.lanes.ClassLanes.{ClassLanes}
use Rattle.lrs_events.specs.declared.spans.overlaps.Sorting.{Sorting}
use Rattle.lrs_events.specs.declared.spans.overlaps.Sorting.TheVariants.{ByRow, ByAsset}

-- the rows of a class with a millimetre from low up to high: those of the left, then those of the right
abbrev pub met_in : ℕ → ℕ → ClassLanes → List Span
met_in low high l = filter (is_met low high) l.left.rows ++ filter (is_met low high) l.right.rows

-- ... and of a class, those of the lanes that are the class's
abbrev pub met_of : Name → ℕ → ℕ → ClassLanes → List Span
met_of class low high l = cond (same_name l.class class) (met_in low high l) []

-- whether the row is of the class and of the asset of one of these
abbrev pub is_with : Name → List Span → Span → Bool
is_with class met r = list_any (λ q. is_of class q.asset r) met

-- whether the asset of the class has a row with a millimetre from low up to high
abbrev pub is_met_asset : List Span → Name → ℕ → ℕ → Name → ℕ → Bool
is_met_asset rows class low high c a = same_name c class && list_any (λ q. is_of class a q && is_met low high q) rows

-- whether the first comes before the second
abbrev pub goes_before : Sorting → Span → Span → Bool
goes_before ByRow r s = span_before r s
goes_before ByAsset r s = nat_lt r.asset s.asset

-- of two rows that are not one, one comes before the other
abbrev pub AreRanked : (Span → Span → Bool) → List Span → Type 0
AreRanked before rows = (r s : Span) → has_row rows r ≡ true → has_row rows s ≡ true → before r s ≡ false → before s r ≡ false → r ≡ s
