-- Which routes a difference drops, and which it writes.
use Rattle.std.specs.Prelude.{◌≡◌, false, List, [], Option, Some, None}
use Rattle.std.specs.List.{cons_option, find}
use Rattle.std.specs.Option.{option_map, option_and_then}
use Rattle.lrs_measure.specs.Texts.{Name, same_name}
use Rattle.lrs_machine.specs.declared.image.RouteRow.{RouteRow}
use Rattle.lrs_machine.specs.declared.image.Image.{Image}
use Rattle.lrs_machine.specs.Sound.{IsSound}
use Rattle.lrs_image.specs.declared.change.RouteChange.{RouteChange}
use Rattle.lrs_image.specs.declared.change.Difference.{Difference}
use Rattle.lrs_image.specs.Change.{is_named, entry_after, no_difference, no_keys, with_difference}
use Rattle.lrs_image_laws.specs.Rewrites.{rewritten}

-- the change of a route that leaves it as it is
abbrev pub no_change : Name → RouteChange
no_change name = record { route = name; name = name; keys = no_keys; course = None; marks = None; refs = record { gone = []; come = [] }; spans_gone = []; spans_come = [] }

-- the difference that changes routes alone: one that stays, one that is removed, and one that is inserted
abbrev pub rerouting : Option RouteChange → Option Name → Option RouteRow → Difference
rerouting changed dropped made = record no_difference { changed = changed; dropped = dropped; made = made }

-- what the route that a change names becomes
abbrev pub changed_route : List RouteRow → RouteChange → Option RouteRow
changed_route routes c = option_map (entry_after c) (find (is_named c.route) routes)

-- the names of the routes that are dropped: of the one that changes, and of the removed one
abbrev pub dropped_by : Difference → List Name
dropped_by d = cons_option (option_map (λ c. c.route) d.changed) (cons_option d.dropped [])

-- the routes that are written: what the one that changes becomes, and the inserted one
abbrev pub written_by : Difference → List RouteRow → List RouteRow
written_by d routes = cons_option (option_and_then (changed_route routes) d.changed) (cons_option d.made [])

-- the route that changes does not get the name of the removed one
abbrev pub KeepsFromDropped : Difference → List RouteRow → Type 0
KeepsFromDropped d routes = (w : RouteRow) (n : Name) → option_and_then (changed_route routes) d.changed ≡ Some w → d.dropped ≡ Some n → same_name w.route.name n ≡ false

-- Routes are changed, dropped and made by a difference as those are dropped and these are written.
abbrev pub DifferenceRewrites : Type 0
DifferenceRewrites = (d : Difference) (i : Image) → IsSound i → KeepsFromDropped d i.routes → (with_difference d i).routes ≡ rewritten (dropped_by d) (written_by d i.routes) i.routes
