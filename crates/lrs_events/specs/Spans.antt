-- Spans: which places a row holds, and how the rows of a route are kept (ISO 19148: linearly located event).
use Rattle.std.specs.Prelude.{ℕ, Bool, true, false, ◌||◌, ◌&&◌, not, nat_lt, nat_le, nat_eq, List, slice_range}
use Rattle.std.specs.List.{list_any, list_all}
use Rattle.lrs_measure.specs.Lists.{each_two}
use Rattle.lrs_measure.specs.Texts.{same_name, name_before}
use Rattle.lrs_element.specs.declared.link.Ground.{Ground}
use Rattle.lrs_measure.specs.Limits.{longest_route}
use Rattle.lrs_events.specs.declared.side.Side.{Side}
use Rattle.lrs_events.specs.declared.side.Side.TheVariants.{L, R, B}
use Rattle.lrs_events.specs.declared.span.Span.{Span}
use Rattle.lrs_events.specs.Places.{Place, places_on, is_among}

-- What a row holds: for its asset, the places of its millimetres on its side.
abbrev pub holds_by_span : List Ground → Span → ℕ → Place → Bool
holds_by_span course span asset p = nat_eq span.asset asset && is_among (places_on span.side (slice_range course span.from span.to)) p

-- ... and what the rows of a route hold
abbrev pub holds_by_spans : List Ground → List Span → ℕ → Place → Bool
holds_by_spans course spans asset p = list_any (λ span. holds_by_span course span asset p) spans

abbrev pub same_side : Side → Side → Bool
same_side L L = true
same_side R R = true
same_side B B = true
same_side _ _ = false

-- sorted by class, then asset, then start
abbrev pub span_before : Span → Span → Bool
span_before r s = name_before r.class s.class || (same_name r.class s.class && (nat_lt r.asset s.asset || (nat_eq r.asset s.asset && nat_lt r.from s.from)))

-- The rows of two assets may meet; those of one are of one class and apart, and where they touch their sides differ.
abbrev pub are_apart : Span → Span → Bool
are_apart r s = not (nat_eq r.asset s.asset)
    || (same_name r.class s.class && (nat_lt r.to s.from || nat_lt s.to r.from || ((nat_eq r.to s.from || nat_eq s.to r.from) && not (same_side r.side s.side))))

abbrev pub is_row : Span → Bool
is_row r = nat_lt r.from r.to && nat_le r.to longest_route

-- the rows of some route: sorted, and as few as what they hold can be written in
abbrev pub are_rows : List Span → Bool
are_rows rows = list_all is_row rows && each_two span_before rows && each_two are_apart rows
