-- What a split makes of a route.
use Rattle.std.specs.Prelude.{◌≡◌, ℕ, ◌-◌, ◌≤◌, Bool, true, false, not, nat_lt, List, [], ◌∷◌, take, drop, map, filter, length}
use Rattle.std.specs.List.{list_any}
use Rattle.lrs_measure.specs.Texts.{Name}
use Rattle.lrs_measure.specs.Lists.{In}
use Rattle.lrs_element.specs.declared.link.Ground.{Ground}
use Rattle.lrs_element.specs.Course.{is_too_long}
use Rattle.lrs_element.specs.Marks.{is_inner_mark, marks_to, marks_from}
use Rattle.lrs_position.specs.declared.route.Referent.{Referent}
use Rattle.lrs_position.specs.declared.route.Route.{Route}
use Rattle.lrs_position.specs.Routes.{is_route}
use Rattle.lrs_events.specs.declared.class.Asset.{Asset}
use Rattle.lrs_events.specs.declared.span.Span.{Span}
use Rattle.lrs_events.specs.Spans.{are_rows}
use Rattle.lrs_events.specs.Row.Cuts.{IsCut}
use Rattle.lrs_machine.specs.declared.command.Command.TheVariants as verb
use Rattle.lrs_machine.specs.declared.image.RouteRow.{RouteRow}
use Rattle.lrs_machine.specs.declared.image.Image.{Image}
use Rattle.lrs_machine.specs.Sound.{are_spans_of, IsSound}
use Rattle.lrs_image_laws.specs.CommandChanges.{Makes}
use Rattle.lrs_image.specs.Change.{is_named}
use Rattle.lrs_image_laws.specs.Rewrites.{rewritten, with_routes}

-- a referent of a course that begins a number of millimetres later
abbrev pub back_by : ℕ → Referent → Referent
back_by n q = record q { at = q.at - n }

-- whether a referent stands before a place
abbrev pub is_ahead : ℕ → Referent → Bool
is_ahead at q = nat_lt q.at at

-- the two routes that one becomes at an inner mark: the front under its name, and the rear under a new one
pub record IsSplit (i : Image) (r front rear : RouteRow) (at : ℕ) (name : Name) : Type 0 where
  pub route : In r i.routes
  pub fresh : list_any (is_named name) i.routes ≡ false
  pub inner : is_inner_mark r.route.marks at ≡ true
  pub front_name : front.route.name ≡ r.route.name
  pub front_course : front.route.course ≡ take at r.route.course
  pub front_marks : front.route.marks ≡ marks_to at r.route.marks
  pub front_refs : front.route.refs ≡ filter (is_ahead at) r.route.refs
  pub front_spans : are_spans_of i.assets (record { course = front.route.course; rows = front.spans }) ≡ true
  pub rear_name : rear.route.name ≡ name
  pub rear_course : rear.route.course ≡ drop at r.route.course
  pub rear_marks : rear.route.marks ≡ marks_from at r.route.marks
  pub rear_refs : rear.route.refs ≡ map (back_by at) (filter (λ q. not (is_ahead at q)) r.route.refs)
  pub rear_spans : are_spans_of i.assets (record { course = rear.route.course; rows = rear.spans }) ≡ true
  pub cut : IsCut at r.spans front.spans rear.spans

-- They are what the split makes, in the place of the route.
abbrev pub SplitMakes : Type 0
SplitMakes = (i : Image) (r front rear : RouteRow) (at : ℕ) (name : Name) → IsSound i → IsSplit i r front rear at name
    → Makes (verb.Split r.route.name at name) i (with_routes (rewritten (r.route.name ∷ []) (front ∷ rear ∷ []) i.routes) i)

-- Both parts of a route at an inner mark are routes, where neither is too long.
abbrev pub PartsAreRoutes : Type 0
PartsAreRoutes = (r : Route) (at : ℕ) → is_inner_mark r.marks at ≡ true → is_too_long (take at r.course) ≡ false → is_too_long (drop at r.course) ≡ false
    → (at ≤ length r.course) × (is_route (take at r.course) (marks_to at r.marks) (filter (is_ahead at) r.refs) ≡ true)
    × (is_route (drop at r.course) (marks_from at r.marks) (map (back_by at) (filter (λ q. not (is_ahead at q)) r.refs)) ≡ true)

-- Canonical rows that are those of a route in two parts lie on these, and are of known assets, where those of the route are.
abbrev pub PartsHaveRows : Type 0
PartsHaveRows = (assets : List Asset) (course : List Ground) (at : ℕ) (rows front rear : List Span) → at ≤ length course → are_rows front ≡ true → are_rows rear ≡ true → IsCut at rows front rear
    → are_spans_of assets (record { course = course; rows = rows }) ≡ true
    → (are_spans_of assets (record { course = take at course; rows = front }) ≡ true) × (are_spans_of assets (record { course = drop at course; rows = rear }) ≡ true)
