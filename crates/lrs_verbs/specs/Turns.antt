-- A route seen from its other end, as its plan makes it.
use Rattle.std.specs.Prelude.{◌≡◌, true, false, map, length, Some}
use Rattle.std.specs.List.{list_all}
use Rattle.lrs_inventory.specs.Prelude.{each_two, is_too_long, has_row, are_rows, span_before, RouteRow, RouteChange, spans_after}
use Rattle.lrs_element.specs.Course.{turned}
use Rattle.lrs_element.specs.Marks.{mirrored}
use Rattle.lrs_events.specs.Row.Turns.{IsTurned}
use Rattle.lrs_image_laws.specs.Turns.{from_end}

-- What becomes of the route of an entry: all its referents go, and come where they are from its other end.
pub record IsTurnedBy (e : RouteRow) (c : RouteChange) : Type 0 where
  pub route : c.route ≡ e.route.name
  pub name : c.name ≡ e.route.name
  pub course : c.course ≡ Some (turned e.route.course)
  pub short : is_too_long (turned e.route.course) ≡ false
  pub marks : c.marks ≡ Some (mirrored e.route.marks)
  pub refs_gone : c.refs.gone ≡ map (λ q. q.name) e.route.refs
  pub refs_come : c.refs.come ≡ map (from_end (length e.route.course)) e.route.refs
  pub rows : are_rows (spans_after c e.spans) ≡ true
  pub spans_gone : each_two span_before c.spans_gone ≡ true
  pub spans_there : list_all (has_row e.spans) c.spans_gone ≡ true
  pub turned : IsTurned (length e.route.course) e.spans (spans_after c e.spans)
