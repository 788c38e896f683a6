-- The items of a difference: which two say the same, and which of two stands first.
use Rattle.std.specs.Prelude.{ℕ, Bool, true, false, ◌&&◌, nat_eq, List, [], ◌∷◌}
use Rattle.std.specs.Ordering.{is_lt, nat_cmp}
use Rattle.std.specs.Cmp.Lexicographic.{pointwise, slice_cmp}
use Rattle.lrs_measure.specs.Lists.{same_bool}
use Rattle.lrs_measure.specs.Texts.{Name, same_name}
use Rattle.lrs_element.specs.declared.link.Ground.{Ground}
use Rattle.lrs_element.specs.declared.marks.Mark.{Mark}
use Rattle.lrs_element.specs.Course.{Millimetre}
use Rattle.lrs_position.specs.Locations.{Alignment}
use Rattle.lrs_events.specs.declared.class.Kind.{Kind}
use Rattle.lrs_events.specs.declared.class.Kind.TheVariants.{Point, Stretch, Exclusive}
use Rattle.lrs_difference.specs.declared.line.AssetFacts.{AssetFacts}
use Rattle.lrs_difference.specs.declared.line.Item.{Item}
use Rattle.lrs_difference.specs.declared.line.Item.TheVariants.{Link, Class, Route, Referent, Asset, Holds}

-- ---- which two say the same

-- a link: its number and its length
abbrev pub same_link : ℕ × ℕ → ℕ × ℕ → Bool
same_link (number, length) (other, other_length) = nat_eq number other && nat_eq length other_length

abbrev pub same_kind : Kind → Kind → Bool
same_kind Point Point = true
same_kind Stretch Stretch = true
same_kind Exclusive Exclusive = true
same_kind _ _ = false

-- a class: its name and its kind
abbrev pub same_class : Name × Kind → Name × Kind → Bool
same_class (name, kind) (other, other_kind) = same_name name other && same_kind kind other_kind

abbrev pub same_ground : Ground → Ground → Bool
same_ground g h = nat_eq g.link h.link && nat_eq g.mm h.mm && same_bool g.forward h.forward

abbrev pub same_mark : Mark → Mark → Bool
same_mark m n = nat_eq m.chainage n.chainage && nat_eq m.measure n.measure

abbrev pub same_alignment : Alignment → Alignment → Bool
same_alignment a b = pointwise same_ground a.course b.course && pointwise same_mark a.marks b.marks

-- a route: its name, the ground that it runs over, and its marks
abbrev pub same_route : Name × Alignment → Name × Alignment → Bool
same_route (name, a) (other, b) = same_name name other && same_alignment a b

abbrev pub same_millimetre : Millimetre → Millimetre → Bool
same_millimetre (link, mm) (other, other_mm) = nat_eq link other && nat_eq mm other_mm

-- a referent: its name and its millimetre
abbrev pub same_referent : Name × Millimetre → Name × Millimetre → Bool
same_referent (name, m) (other, n) = same_name name other && same_millimetre m n

-- an asset: its number, class, value and lateral offset
abbrev pub same_asset : AssetFacts → AssetFacts → Bool
same_asset a b = nat_eq a.number b.number && same_name a.class b.class && same_name a.value b.value && nat_eq a.lateral b.lateral

-- ---- their order

-- links, classes, routes, referents, assets, and what assets hold: by number or name, what assets hold by asset, link and start
abbrev pub item_key : Item → List ℕ
item_key (Link number length) = 0 ∷ number ∷ []
item_key (Class name kind) = 1 ∷ name
item_key (Route name course marks) = 2 ∷ name
item_key (Referent name link mm) = 3 ∷ name
item_key (Asset asset) = 4 ∷ asset.number ∷ []
item_key (Holds asset link from to side) = 5 ∷ asset.number ∷ link ∷ from ∷ []

abbrev pub item_before : Item → Item → Bool
item_before x y = is_lt (slice_cmp nat_cmp (item_key x) (item_key y))
