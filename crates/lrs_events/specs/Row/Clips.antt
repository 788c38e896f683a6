-- Parts of rows.
use Rattle.std.specs.Prelude.{ℕ, ◌-◌, Bool, ◌||◌, ◌&&◌, not, nat_lt, nat_le, nat_eq, min, max, List, [], ◌∷◌, ◌++◌, if◌then◌else◌}
use Rattle.lrs_measure.specs.Texts.{same_name, name_before}
use Rattle.lrs_measure.specs.Limits.{longest_route}
use Rattle.lrs_events.specs.declared.span.Span.{Span}
use Rattle.std.specs.List.{list_all}
use Rattle.lrs_measure.specs.Lists.{each_two}
use Rattle.lrs_events.specs.Spans.{is_row}
use Rattle.lrs_events.specs.Row.Order.{grown}

-- what of a row lies from low up to high
abbrev pub clip : ℕ → ℕ → Span → List Span
clip low high r = if nat_lt (max r.from low) (min r.to high) then grown r (max r.from low) (min r.to high) ∷ [] else []

-- what of it lies below low, and from high on
abbrev pub outside : ℕ → ℕ → Span → List Span
outside low high r = clip 0 low r ++ clip high longest_route r

-- whether the first comes before the second and shares no millimetre with it
abbrev pub is_left : Span → Span → Bool
is_left r s = name_before r.class s.class || (same_name r.class s.class && (nat_lt r.asset s.asset || (nat_eq r.asset s.asset && nat_le r.to s.from)))

-- what of a row lies from `at` on, counted from there
abbrev pub rear : ℕ → Span → List Span
rear at r = if nat_lt at r.to then grown r (r.from - at) (r.to - at) ∷ [] else []

-- in order and apart, but perhaps not merged
abbrev pub follows : Span → Span → Bool
follows r s = is_left r s && (not (nat_eq r.asset s.asset) || same_name r.class s.class)

abbrev pub are_in_order : List Span → Bool
are_in_order rows = list_all is_row rows && each_two follows rows
