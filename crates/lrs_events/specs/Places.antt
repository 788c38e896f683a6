-- Places: a millimetre of a link and a side of it, seen along the link (ISO 19148: linear element, lateral offset).
use Rattle.std.specs.Prelude.{ℕ, Bool, true, false, ◌&&◌, not, nat_eq, List, [], ◌∷◌}
use Rattle.std.specs.List.{range_with_len, list_any, flat_map}
use Rattle.lrs_element.specs.declared.link.Ground.{Ground}
use Rattle.lrs_element.specs.Course.{is_at, runs_over}
use Rattle.lrs_events.specs.declared.side.Side.{Side}
use Rattle.lrs_events.specs.declared.side.Side.TheVariants.{L, R, B}
use Rattle.lrs_events.specs.declared.side.LinkSide.{LinkSide}
use Rattle.lrs_events.specs.declared.side.LinkSide.TheVariants.{Left, Right}

pub record Place : Type 0 where
  pub link : ℕ
  pub mm : ℕ
  pub side : LinkSide

abbrev pub same_link_side : LinkSide → LinkSide → Bool
same_link_side Left Left = true
same_link_side Left Right = false
same_link_side Right Left = false
same_link_side Right Right = true

abbrev pub same_place : Place → Place → Bool
same_place p q = nat_eq p.link q.link && nat_eq p.mm q.mm && same_link_side p.side q.side

-- whether the place is one of these
abbrev pub is_among : List Place → Place → Bool
is_among places p = list_any (same_place p) places

abbrev pub other_side : LinkSide → LinkSide
other_side Left = Right
other_side Right = Left

-- a side of a course, seen along the link: where the course runs backwards, its left is the link's right
abbrev pub along_link : Bool → LinkSide → LinkSide
along_link true side = side
along_link false side = other_side side

-- the place beside a millimetre of a course, on one side of the course
abbrev pub beside : Ground → LinkSide → Place
beside g side = record { link = g.link; mm = g.mm; side = along_link g.forward side }

-- the places beside a millimetre of a course, on a side of the course or on both
abbrev pub places_at : Side → Ground → List Place
places_at L g = beside g Left ∷ []
places_at R g = beside g Right ∷ []
places_at B g = beside g Left ∷ beside g Right ∷ []

-- the places beside a course or a part of one
abbrev pub places_on : Side → List Ground → List Place
places_on side course = flat_map (places_at side) course

-- whether the place lies on one of these millimetres
abbrev pub lies_on : List Ground → Place → Bool
lies_on course p = runs_over course (p.link, p.mm)

-- both places of each millimetre of a link, by its number and length
abbrev pub places_of_link : ℕ → ℕ → List Place
places_of_link number length = flat_map (λ k. record { link = number; mm = k; side = Left } ∷ record { link = number; mm = k; side = Right } ∷ []) (range_with_len 0 length)

-- two entries of a course are not at one millimetre
abbrev pub differs : Ground → Ground → Bool
differs g h = not (is_at (g.link, g.mm) h)
