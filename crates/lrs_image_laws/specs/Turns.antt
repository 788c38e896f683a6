-- What a turn makes of a route.
use Rattle.std.specs.Prelude.{◌≡◌, ℕ, ◌-◌, true, false, List, [], ◌∷◌, map, length}
use Rattle.lrs_measure.specs.Lists.{In}
use Rattle.lrs_element.specs.declared.link.Ground.{Ground}
use Rattle.lrs_element.specs.Course.{turned, is_too_long}
use Rattle.lrs_element.specs.Marks.{mirrored}
use Rattle.lrs_position.specs.declared.route.Referent.{Referent}
use Rattle.lrs_position.specs.declared.route.Route.{Route}
use Rattle.lrs_position.specs.Routes.{is_route}
use Rattle.lrs_events.specs.declared.class.Asset.{Asset}
use Rattle.lrs_events.specs.declared.span.Span.{Span}
use Rattle.lrs_events.specs.Spans.{are_rows}
use Rattle.lrs_events.specs.Row.Turns.{IsTurned}
use Rattle.lrs_machine.specs.declared.command.Command.TheVariants as verb
use Rattle.lrs_machine.specs.declared.image.RouteRow.{RouteRow}
use Rattle.lrs_machine.specs.declared.image.Image.{Image}
use Rattle.lrs_machine.specs.Sound.{are_spans_of, IsSound}
use Rattle.lrs_image_laws.specs.CommandChanges.{Makes}
use Rattle.lrs_image_laws.specs.Rewrites.{rewritten, with_routes}

-- a referent of a course of that length, counted from the other end
abbrev pub from_end : ℕ → Referent → Referent
from_end len q = record q { at = len - 1 - q.at }

-- the route from its other end, under its name
pub record IsTurnedRoute (i : Image) (r w : RouteRow) : Type 0 where
  pub route : In r i.routes
  pub name : w.route.name ≡ r.route.name
  pub course : w.route.course ≡ turned r.route.course
  pub marks : w.route.marks ≡ mirrored r.route.marks
  pub refs : w.route.refs ≡ map (from_end (length r.route.course)) r.route.refs
  pub spans : are_spans_of i.assets (record { course = w.route.course; rows = w.spans }) ≡ true
  pub turned : IsTurned (length r.route.course) r.spans w.spans

-- It is what the turn makes, in the place of the route.
abbrev pub TurnMakes : Type 0
TurnMakes = (i : Image) (r w : RouteRow) → IsSound i → IsTurnedRoute i r w
    → Makes (verb.Turn r.route.name) i (with_routes (rewritten (r.route.name ∷ []) (w ∷ []) i.routes) i)

-- A route from its other end is a route, where it is not too long from there.
abbrev pub TurnedIsRoute : Type 0
TurnedIsRoute = (r : Route) → is_too_long (turned r.course) ≡ false
    → is_route (turned r.course) (mirrored r.marks) (map (from_end (length r.course)) r.refs) ≡ true

-- Canonical rows that are those of a route from its other end lie on it, and are of known assets, where those of the route are.
abbrev pub TurnedHasRows : Type 0
TurnedHasRows = (assets : List Asset) (course : List Ground) (rows new : List Span) → are_rows new ≡ true → IsTurned (length course) rows new
    → are_spans_of assets (record { course = course; rows = rows }) ≡ true → are_spans_of assets (record { course = turned course; rows = new }) ≡ true
