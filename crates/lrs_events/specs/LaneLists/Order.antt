-- The two orders in which rows are kept.
use Rattle.std.specs.Prelude.{ℕ, Bool, ◌||◌, ◌&&◌, nat_lt, nat_eq, List, take}
use Rattle.std.specs.List.{list_all}
use Rattle.lrs_events.specs.declared.span.Span.{Span}
use Rattle.lrs_events.specs.Spans.{span_before}
use Rattle.lrs_events.specs.declared.lanes.order.RowOrder.{RowOrder}
use Rattle.lrs_events.specs.declared.lanes.order.RowOrder.TheVariants.{ByAsset, ByPlace}

-- sorted by start, then asset
abbrev pub place_before : Span → Span → Bool
place_before r s = nat_lt r.from s.from || (nat_eq r.from s.from && nat_lt r.asset s.asset)

-- whether the first comes before the second
abbrev pub row_before : RowOrder → Span → Span → Bool
row_before ByAsset = span_before
row_before ByPlace = place_before

-- whether two rows differ in start or asset
abbrev pub differ_in_place : Span → Span → Bool
differ_in_place r s = place_before r s || place_before s r

-- whether each of the first n rows comes before each of others, by place
abbrev pub stand_before : ℕ → List Span → List Span → Bool
stand_before n rows others = list_all (λ r. list_all (place_before r) others) (take n rows)
