-- A route in two parts.
use Rattle.std.specs.Prelude.{Bool, filter, take, drop, ◌≡◌, ℕ, true, false, ◌&&◌, not, nat_lt, nat_eq, List, [], map, Some}
use Rattle.std.specs.List.{list_any, list_all}
use Rattle.lrs_inventory.specs.Prelude.{each_two, Name, Mark, is_too_long, Referent, has_row, are_rows, span_before, RouteRow, spans_after}
use Rattle.lrs_element.specs.Marks.{marks_to, marks_from}
use Rattle.lrs_events.specs.Row.Cuts.{IsCut}
use Rattle.lrs_image_laws.specs.Splits.{back_by, is_ahead}
use Rattle.lrs_verbs.specs.declared.routes.split.Halves.{Halves}

-- whether a mark stands at a chainage inside a course of this length
abbrev pub is_inside : ℕ → List Mark → ℕ → Bool
is_inside len marks at = nat_lt 0 at && nat_lt at len && list_any (λ m. nat_eq m.chainage at) marks

-- the referents behind a place
abbrev pub refs_behind : ℕ → List Referent → List Referent
refs_behind at refs = filter (λ q. not (is_ahead at q)) refs

-- What becomes of the route of an entry, and the rear as a route of its own.
pub record IsHalved (e : RouteRow) (at : ℕ) (name : Name) (h : Halves) : Type 0 where
  pub route : h.front.route ≡ e.route.name
  pub front_name : h.front.name ≡ e.route.name
  pub front_course : h.front.course ≡ Some (take at e.route.course)
  pub front_short : is_too_long (take at e.route.course) ≡ false
  pub front_marks : h.front.marks ≡ Some (marks_to at e.route.marks)
  pub refs_gone : h.front.refs.gone ≡ map (λ q. q.name) (refs_behind at e.route.refs)
  pub refs_come : h.front.refs.come ≡ []
  pub front_rows : are_rows (spans_after h.front e.spans) ≡ true
  pub spans_gone : each_two span_before h.front.spans_gone ≡ true
  pub spans_there : list_all (has_row e.spans) h.front.spans_gone ≡ true
  pub rear_name : h.rear.route.name ≡ name
  pub rear_course : h.rear.route.course ≡ drop at e.route.course
  pub rear_short : is_too_long (drop at e.route.course) ≡ false
  pub rear_marks : h.rear.route.marks ≡ marks_from at e.route.marks
  pub rear_refs : h.rear.route.refs ≡ map (back_by at) (refs_behind at e.route.refs)
  pub rear_rows : are_rows h.rear.spans ≡ true
  pub cut : IsCut at e.spans (spans_after h.front e.spans) h.rear.spans
