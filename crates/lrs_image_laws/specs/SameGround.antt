-- The state of an image with routes dropped and written that say the same of the ground.
use Rattle.std.specs.Prelude.{◌≡◌, ℕ, List, map}
use Rattle.std.specs.List.{list_any, flat_map}
use Rattle.lrs_measure.specs.Texts.{Name}
use Rattle.lrs_measure.specs.Lists.{In}
use Rattle.lrs_element.specs.Course.{Millimetre}
use Rattle.lrs_events.specs.Places.{Place}
use Rattle.lrs_machine.specs.declared.image.RouteRow.{RouteRow}
use Rattle.lrs_machine.specs.declared.image.Image.{Image}
use Rattle.lrs_machine.specs.Image.{state_of, holds_on, referents_on, route_entry}
use Rattle.lrs_machine.specs.Sound.{IsSound}
use Rattle.lrs_image_laws.specs.Rewrites.{routes_named, rewritten, with_routes, AreFit}

-- The routes that are written hold what those that are dropped held, and have their referents where these stood.
pub record SayTheSame (dropped : List Name) (written routes : List RouteRow) : Type 0 where
  pub holds : (a : ℕ) (p : Place) → list_any (λ e. holds_on e a p) written ≡ list_any (λ e. holds_on e a p) (routes_named dropped routes)
  pub to : (q : Name × Millimetre) → In q (flat_map referents_on written) → In q (flat_map referents_on (routes_named dropped routes))
  pub back : (q : Name × Millimetre) → In q (flat_map referents_on (routes_named dropped routes)) → In q (flat_map referents_on written)

-- Then the state is the one before, with other routes.
abbrev pub RewritingKeepsState : Type 0
RewritingKeepsState = (i : Image) (dropped : List Name) (written : List RouteRow) → IsSound i → AreFit i dropped written → SayTheSame dropped written i.routes
    → state_of (with_routes (rewritten dropped written i.routes) i) ≡ record (state_of i) { routes = record { rows = map route_entry (rewritten dropped written i.routes) } }
