-- The state of an image whose routes leave a part of their ground, and what a close makes.
use Rattle.std.specs.Prelude.{◌≡◌, ℕ, ◌+◌, ◌≤◌, ◌&&◌, Bool, true, false, not, List, [], ◌∷◌, ◌++◌, map, length}
use Rattle.std.specs.List.{list_any, flat_map}
use Rattle.lrs_measure.specs.Texts.{Name}
use Rattle.lrs_element.specs.declared.link.Ground.{Ground}
use Rattle.lrs_element.specs.Course.{Millimetre, runs_over}
use Rattle.lrs_events.specs.declared.part.Gone.{Gone}
use Rattle.lrs_events.specs.Places.{Place, lies_on}
use Rattle.lrs_events.specs.Spans.{holds_by_spans}
use Rattle.lrs_machine.specs.declared.command.Command.TheVariants as verb
use Rattle.lrs_machine.specs.declared.image.RouteRow.{RouteRow}
use Rattle.lrs_machine.specs.declared.image.Image.{Image}
use Rattle.lrs_measure.specs.Limits.{most_routes}
use Rattle.lrs_measure.specs.Lists.{In}
use Rattle.lrs_machine.specs.Image.{state_of, holds_on, referents_on, route_entry}
use Rattle.lrs_machine.specs.Machine.{abandon}
use Rattle.lrs_machine.specs.Sound.{IsSound}
use Rattle.lrs_machine.specs.State.{Reason, Abandoned}
use Rattle.lrs_image_laws.specs.CommandChanges.{Makes}
use Rattle.lrs_image_laws.specs.Orderly.{IsOrderly}
use Rattle.lrs_image_laws.specs.GoneRows.{AreGone}
use Rattle.lrs_image_laws.specs.Rewrites.{routes_named, routes_left, rewritten, with_routes, AreFit}

-- the image with these rows of what is gone behind its own
abbrev pub with_gone : List Gone → Image → Image
with_gone gone i = record i { gone = i.gone ++ gone }

-- the image with routes dropped and written, and with rows of what is gone
abbrev pub with_left : List Name → List RouteRow → List Gone → Image → Image
with_left dropped written gone i = with_gone gone (with_routes (rewritten dropped written i.routes) i)

-- whether one of these routes holds the place for the asset
abbrev pub is_held_on : List RouteRow → ℕ → Place → Bool
is_held_on routes a p = list_any (λ e. holds_on e a p) routes

-- The routes that are written hold what those that are dropped held, and have their referents, but for what was on a part of the ground of these; that is taken.
pub record LeaveGround (part : List Ground) (taken : ℕ → Place → Bool) (dropped : List Name) (written routes : List RouteRow) : Type 0 where
  pub holds : (a : ℕ) (p : Place) → is_held_on written a p ≡ (is_held_on (routes_named dropped routes) a p && not (lies_on part p))
  pub to : (q : Name × Millimetre) → In q (flat_map referents_on written) → In q (flat_map referents_on (routes_named dropped routes)) × (runs_over part q.1 ≡ false)
  pub back : (q : Name × Millimetre) → In q (flat_map referents_on (routes_named dropped routes)) → runs_over part q.1 ≡ false → In q (flat_map referents_on written)
  pub theirs : (m : Millimetre) → runs_over part m ≡ true → list_any (λ e. runs_over e.route.course m) (routes_named dropped routes) ≡ true
  pub goes : (a : ℕ) (p : Place) → taken a p ≡ (is_held_on (routes_named dropped routes) a p && lies_on part p)

-- Then the state is the one before without that ground, with other routes.
abbrev pub LeavingMakesState : Type 0
LeavingMakesState = (i : Image) (dropped : List Name) (written : List RouteRow) (gone : List Gone) (part : List Ground) (taken : ℕ → Place → Bool) → IsSound i → AreFit i dropped written
    → AreGone (length i.edits + 1) Abandoned taken gone → LeaveGround part taken dropped written i.routes
    → state_of (with_left dropped written gone i) ≡ record (abandon (length i.edits + 1) part (state_of i)) { routes = record { rows = map route_entry (rewritten dropped written i.routes) } }

-- A sound image with routes dropped and written that fit, and with the rows of what its next edit takes away, is in order, where there are not too many.
abbrev pub LeavingIsOrderly : Type 0
LeavingIsOrderly = (i : Image) (dropped : List Name) (written : List RouteRow) (why : Reason) (taken : ℕ → Place → Bool) (gone : List Gone) → IsSound i → AreFit i dropped written
    → AreGone (length i.edits + 1) why taken gone → length written + length (routes_left dropped i.routes) ≤ most_routes → IsOrderly (with_left dropped written gone i)

-- A route that is dropped, with what its rows held gone, is what its close makes.
abbrev pub CloseMakes : Type 0
CloseMakes = (i : Image) (r : RouteRow) (gone : List Gone) → IsSound i → In r i.routes → AreGone (length i.edits + 1) Abandoned (holds_by_spans r.route.course r.spans) gone
    → Makes (verb.Close r.route.name) i (with_left (r.route.name ∷ []) [] gone i)
