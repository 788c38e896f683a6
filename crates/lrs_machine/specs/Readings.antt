-- What is read off a state: totals, the canonical rows of an asset, who holds a millimetre, and segments.
use Rattle.std.specs.Prelude.{ℕ, Bool, List, [], map, length, filter, Option, slice_get, sum_by}
use Rattle.std.specs.List.{range_with_len, flat_map, filter_map}
use Rattle.std.specs.Option.{option_map, option_map_or, option_and_then}
use Rattle.lrs_measure.specs.Texts.{Name, same_name}
use Rattle.lrs_measure.specs.Runs.{Run}
use Rattle.lrs_element.specs.declared.link.Ground.{Ground}
use Rattle.lrs_position.specs.declared.expression.Expr.{Expr}
use Rattle.lrs_position.specs.Locations.{cell, located}
use Rattle.lrs_events.specs.declared.class.Asset.{Asset}
use Rattle.lrs_events.specs.declared.side.Side.{Side}
use Rattle.lrs_events.specs.declared.side.LinkSide.{LinkSide}
use Rattle.lrs_events.specs.Places.{Place, places_of_link, beside}
use Rattle.lrs_events.specs.Canonical.{side_held, canonical_rows}
use Rattle.lrs_machine.specs.Totals.{total_of}
use Rattle.lrs_machine.specs.Segments.{Values, segments_of}
use Rattle.lrs_machine.specs.Register.{get, entries}
use Rattle.lrs_machine.specs.State.{State, Reason}
use Rattle.lrs_machine.specs.State as state
use Rattle.lrs_machine.specs.declared.hit.Hit.{Hit}
use Rattle.lrs_machine.specs.Machine.{referent_chainage}

-- all places of the known links
abbrev pub all_places : State → List Place
all_places s = flat_map (λ l. places_of_link l.0 l.1) (entries s.links)

-- the numbers of a class's assets
abbrev pub assets_of : Name → State → List ℕ
assets_of class s = map (λ a. a.0) (filter (λ a. same_name a.1.class class) (entries s.assets))

-- the numbers of the edits
abbrev pub edits_of : State → List ℕ
edits_of s = range_with_len 1 (length s.done)

-- The total of a class in a set of pairs, in side millimetres: how many of its members are of the class's assets.
abbrev pub total : Name → (ℕ → Place → Bool) → State → ℕ
total class set s = total_of (assets_of class s) (all_places s) set

-- what is present, and what the edits entered, retired and abandoned
abbrev pub total_present : Name → State → ℕ
total_present class s = total class s.holds s

abbrev pub total_entered : Name → State → ℕ
total_entered class s = sum_by (λ n. total class (s.entered n) s) (edits_of s)

abbrev pub total_gone : Reason → Name → State → ℕ
total_gone reason class s = sum_by (λ n. total class (s.gone n reason) s) (edits_of s)

-- the canonical rows of an asset on the route of this name
abbrev pub rows_of : State → Name → ℕ → List (Run Side)
rows_of s route asset = option_map_or (λ a. canonical_rows (s.holds asset) a.course) (get s.routes route) []

-- the places that an asset holds
abbrev pub places_of : State → ℕ → List Place
places_of s asset = filter (s.holds asset) (all_places s)

-- what is known of an asset, under its number
abbrev pub asset_of : ℕ × state.Asset → Asset
asset_of a = record { number = a.0; class = a.1.class; value = a.1.value; lateral = a.1.lateral; entered_by = a.1.entered_by }

-- an asset, and the side on which it holds a millimetre, seen along the route
abbrev pub hit_of : State → Ground → Asset → Option Hit
hit_of s g asset = option_map (λ side. record { asset = asset; side = side }) (side_held (s.holds asset.number) g)

-- who holds an entry of a course, by asset number
abbrev pub hits_on : State → Ground → List Hit
hits_on s g = filter_map (λ a. hit_of s g (asset_of a)) (entries s.assets)

-- who holds the millimetre that a point at a position stands in, if it is on the route
abbrev pub hits_at : State → Name → Expr → Option (List Hit)
hits_at s route e =
    option_and_then (λ a. option_and_then (λ x. option_map (hits_on s) (slice_get a.course (cell (length a.course) x))) (located a (referent_chainage s a) e)) (get s.routes route)

-- the assets as segments read them
abbrev pub asset_list : State → List Asset
asset_list s = map asset_of (entries s.assets)

-- the segments of a route on one side of it, for these classes
abbrev pub segments_on : State → List Ground → List Name → LinkSide → List (Run Values)
segments_on s course wanted side = segments_of (asset_list s) wanted (map (λ g. λ asset. s.holds asset (beside g side)) course)
