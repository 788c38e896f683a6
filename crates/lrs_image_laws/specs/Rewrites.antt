-- The routes of an image, where some are dropped and others written.
use Rattle.std.specs.Prelude.{◌≡◌, ◌+◌, ◌≤◌, Bool, true, false, ◌⊎◌, not, List, filter, length}
use Rattle.std.specs.List.{list_any, list_all, flat_map}
use Rattle.lrs_measure.specs.Lists.{In, each_two}
use Rattle.lrs_measure.specs.OrderedLists.{insert_all}
use Rattle.lrs_measure.specs.Texts.{Name, same_name}
use Rattle.lrs_element.specs.declared.link.Ground.{Ground}
use Rattle.lrs_element.specs.Course.{runs_over, meets}
use Rattle.lrs_position.specs.declared.route.Referent.{Referent}
use Rattle.lrs_events.specs.Places.{differs}
use Rattle.lrs_machine.specs.declared.image.RouteRow.{RouteRow}
use Rattle.lrs_machine.specs.declared.image.Image.{Image}
use Rattle.lrs_measure.specs.Limits.{most_routes}
use Rattle.lrs_machine.specs.Sound.{are_spans_of, is_on_a_link, route_before, IsSound}
use Rattle.lrs_image_laws.specs.Orderly.{IsOrderly}

-- the routes of these names
abbrev pub routes_named : List Name → List RouteRow → List RouteRow
routes_named names routes = filter (λ e. list_any (same_name e.route.name) names) routes

-- ... and those of other names
abbrev pub routes_left : List Name → List RouteRow → List RouteRow
routes_left names routes = filter (λ e. not (list_any (same_name e.route.name) names)) routes

-- the routes without those that are dropped, and with those that are written, in the order of their names
abbrev pub rewritten : List Name → List RouteRow → List RouteRow → List RouteRow
rewritten dropped written routes = insert_all route_before written (routes_left dropped routes)

abbrev pub with_routes : List RouteRow → Image → Image
with_routes routes i = record i { routes = routes }

-- whether the route has a referent of this name
abbrev pub has_referent : Name → RouteRow → Bool
has_referent name e = list_any (λ r. same_name r.name name) e.route.refs

-- whether the route runs over the millimetre of an entry
abbrev pub runs_at : Ground → RouteRow → Bool
runs_at g e = runs_over e.route.course (g.link, g.mm)

-- told of a route that is dropped, or of none
abbrev pub IsLeft : (RouteRow → Bool) → List Name → List RouteRow → Type 0
IsLeft told dropped routes = (list_any told (routes_named dropped routes) ≡ true) ⊎ (list_any told routes ≡ false)

-- The routes that are written fit among those that stay: their names, ground and referents are those of routes that are dropped, or of none.
pub record AreFit (i : Image) (dropped : List Name) (written : List RouteRow) : Type 0 where
  pub fresh : (w e : RouteRow) → In w written → In e i.routes → same_name w.route.name e.route.name ≡ true → list_any (same_name e.route.name) dropped ≡ true
  pub names : each_two (λ v w. not (same_name v.route.name w.route.name)) written ≡ true
  pub linked : (w : RouteRow) → In w written → list_all (is_on_a_link i.links) w.route.course ≡ true
  pub once : (w : RouteRow) → In w written → each_two differs w.route.course ≡ true
  pub apart : each_two (λ v w. not (meets v.route.course w.route.course)) written ≡ true
  pub ground : (w : RouteRow) (g : Ground) → In w written → In g w.route.course → IsLeft (runs_at g) dropped i.routes
  pub referents : (w : RouteRow) (q : Referent) → In w written → In q w.route.refs → IsLeft (has_referent q.name) dropped i.routes
  pub referents_once : each_two (λ (a b : Referent). not (same_name a.name b.name)) (flat_map (λ (w : RouteRow). w.route.refs) written) ≡ true
  pub spans : (w : RouteRow) → In w written → are_spans_of i.assets (record { course = w.route.course; rows = w.spans }) ≡ true

-- A sound image with routes dropped and written that fit is in order, where there are not too many.
abbrev pub RewritingIsOrderly : Type 0
RewritingIsOrderly = (i : Image) (dropped : List Name) (written : List RouteRow) → IsSound i → AreFit i dropped written → length written + length (routes_left dropped i.routes) ≤ most_routes
    → IsOrderly (with_routes (rewritten dropped written i.routes) i)
