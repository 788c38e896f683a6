-- The difference of two inventories: the items that the one has and the other has not in the same way, and what their assets hold in the one alone.
use Rattle.std.specs.Prelude.{ℕ, Bool, true, ◌&&◌, not, List, [], ◌∷◌, ◌++◌, map, take, drop}
use Rattle.std.specs.List.{filter, flat_map, list_any, prefix_len, range_with_len}
use Rattle.lrs_measure.specs.OrderedLists.{insert_all}
use Rattle.lrs_measure.specs.Runs.{Run}
use Rattle.lrs_measure.specs.Texts.{Name, name_before}
use Rattle.lrs_element.specs.declared.link.Ground.{Ground}
use Rattle.lrs_element.specs.Course.{Millimetre}
use Rattle.lrs_position.specs.Locations.{Alignment}
use Rattle.lrs_events.specs.declared.class.Kind.{Kind}
use Rattle.lrs_events.specs.declared.side.Side.{Side}
use Rattle.lrs_events.specs.Canonical.{canonical_rows}
use Rattle.lrs_events.specs.Places.{Place}
use Rattle.lrs_machine.specs.declared.image.Image.{Image}
use Rattle.lrs_machine.specs.Image.{referents_on, state_of}
use Rattle.lrs_machine.specs.Register.{entries}
use Rattle.lrs_machine.specs.State.{State}
use Rattle.lrs_machine.specs.State as state
use Rattle.lrs_difference.specs.declared.line.AssetFacts.{AssetFacts}
use Rattle.lrs_difference.specs.declared.line.Item.{Item}
use Rattle.lrs_difference.specs.declared.line.Item.TheVariants as item
use Rattle.lrs_difference.specs.declared.line.Line.{Line}
use Rattle.lrs_difference.specs.declared.line.Sign.TheVariants.{Removed, Added}
use Rattle.lrs_difference.specs.Items.{item_before, same_asset, same_class, same_link, same_referent, same_route}

-- ---- what an inventory says

-- its referents, by name
abbrev pub referent_before : Name × Millimetre → Name × Millimetre → Bool
referent_before (name, m) (other, n) = name_before name other

abbrev pub referents_in : Image → List (Name × Millimetre)
referents_in i = insert_all referent_before (flat_map referents_on i.routes) []

-- its assets, whichever edit entered them
abbrev pub facts_of : ℕ × state.Asset → AssetFacts
facts_of (number, a) = record { number = number; class = a.class; value = a.value; lateral = a.lateral }

abbrev pub facts_in : State → List AssetFacts
facts_in s = map facts_of (entries s.assets)

-- ---- what one says and another does not

-- the elements of the first list that the second has not in the same way
abbrev pub lacking : {A : Type 0} → (A → A → Bool) → List A → List A → List A
lacking same xs ys = filter (λ x. not (list_any (same x) ys)) xs

abbrev pub link_item : ℕ × ℕ → Item
link_item (number, length) = item.Link number length

abbrev pub class_item : Name × Kind → Item
class_item (name, kind) = item.Class name kind

abbrev pub route_item : Name × Alignment → Item
route_item (name, a) = item.Route name a.course a.marks

abbrev pub referent_item : Name × Millimetre → Item
referent_item (name, (link, mm)) = item.Referent name link mm

-- the asset holds the place in the first state and not in the second
abbrev pub holds_only : State → State → ℕ → Place → Bool
holds_only s t asset p = s.holds asset p && not (t.holds asset p)

-- a link from its start to its end
abbrev pub course_of_link : ℕ × ℕ → List Ground
course_of_link (number, length) = map (λ k. record { link = number; mm = k; forward = true }) (range_with_len 0 length)

abbrev pub holds_item : AssetFacts → ℕ → Run Side → Item
holds_item a link r = item.Holds a link r.from r.to r.value

-- what an asset holds of a link in the first state alone, as the longest stretches of one side or both
abbrev pub stretches_on : State → State → AssetFacts → ℕ × ℕ → List Item
stretches_on s t a link = map (holds_item a link.0) (canonical_rows (holds_only s t a.number) (course_of_link link))

-- ... and of all links, asset by asset
abbrev pub stretches : State → State → List Item
stretches s t = flat_map (λ a. flat_map (stretches_on s t a) (entries s.links)) (facts_in s)

-- The items that the first inventory has and the second has not.
abbrev pub only_in : Image → Image → List Item
only_in a b =
    let s = state_of a in
    let t = state_of b in
    map link_item (lacking same_link (entries s.links) (entries t.links))
    ++ map class_item (lacking same_class (entries s.classes) (entries t.classes))
    ++ map route_item (lacking same_route (entries s.routes) (entries t.routes))
    ++ map referent_item (lacking same_referent (referents_in a) (referents_in b))
    ++ map item.Asset (lacking same_asset (facts_in s) (facts_in t))
    ++ stretches s t

-- ---- the lines

abbrev pub removed : Item → Line
removed x = record { sign = Removed; item = x }

abbrev pub added : Item → Line
added x = record { sign = Added; item = x }

-- Removed and added items, together in their order: each removed one behind the added ones that come before it.
abbrev pub in_order : List Item → List Item → List Line
in_order [] ys = map added ys
in_order (x ∷ xs) ys = let n = prefix_len (λ y. item_before y x) ys in map added (take n ys) ++ removed x ∷ in_order xs (drop n ys)

-- The difference of two inventories: what is only in the first is removed, and what is only in the second is added.
unfoldable pub difference : Image → Image → List Line
difference before after = in_order (only_in before after) (only_in after before)
