-- What rows hold on a course, by chainage and side in place of places.
use Rattle.std.specs.Prelude.{◌≡◌, ℕ, ◌+◌, Bool, false, ◌||◌, ◌&&◌, not, List, [], ◌∷◌}
use Rattle.std.specs.List.{list_any}
use Rattle.lrs_measure.specs.Lists.{each_two}
use Rattle.lrs_element.specs.declared.link.Ground.{Ground}
use Rattle.lrs_element.specs.Course.{is_at}
use Rattle.lrs_events.specs.declared.side.LinkSide.TheVariants.{Left, Right}
use Rattle.lrs_events.specs.declared.span.Span.{Span}
use Rattle.lrs_events.specs.Members.{Picks, stands_for}
use Rattle.lrs_events.specs.Places.{Place, same_place, beside}
use Rattle.lrs_events.specs.Spans.{holds_by_spans}

-- no millimetre of the ground twice, as the course of each route is
abbrev pub is_once : List Ground → Bool
is_once course = each_two (λ g h. not (is_at (g.link, g.mm) h)) course

-- whether the rows say that the asset holds the millimetre on the side
abbrev pub is_held : List Span → ℕ → Picks
is_held rows asset j s = list_any (λ r. stands_for r asset j s) rows

-- whether the place is beside an entry that is picked, on a side that is; the first entry has chainage j
abbrev pub is_picked : Picks → ℕ → List Ground → Place → Bool
is_picked picks j [] p = false
is_picked picks j (g ∷ gs) p = (picks j Left && same_place p (beside g Left)) || ((picks j Right && same_place p (beside g Right)) || is_picked picks (j + 1) gs p)

-- What rows hold on a course is what they pick of it.
abbrev pub HoldsByPlaces : Type 0
HoldsByPlaces = (course : List Ground) (rows : List Span) (asset : ℕ) (p : Place) → holds_by_spans course rows asset p ≡ is_picked (is_held rows asset) 0 course p
