-- The one route of a name, and the one that runs over a millimetre.
use Rattle.std.proofs.Common.{◌≡◌, Bool, true, cond, inl, inr, List, [], ◌∷◌, Option, Some, None, refl, sym, ap, ◌∙◌}
use Rattle.std.specs.List.{find, list_all}
use Rattle.std.specs.Option.{option_map}
use Rattle.std.specs.Cmp.Lexicographic.{bytes_decides}
use Rattle.std.proofs.lemmas.Bool.{and_parts}
use Rattle.lrs_measure.specs.Lists.{In, each_two}
use Rattle.lrs_measure.specs.Texts.{Name}
use Rattle.lrs_measure.proofs.Members.{all_at}
use Rattle.lrs_element.specs.Course.{Millimetre, runs_over}
use Rattle.lrs_machine.specs.declared.image.Image.{Image}
use Rattle.lrs_machine.specs.declared.image.RouteRow.{RouteRow}
use Rattle.lrs_machine.specs.Sound.{IsSound, route_before}
use Rattle.lrs_image.specs.Change.{is_named}
use Rattle.lrs_image.proofs.Tables.{routes_in_order}
use Rattle.lrs_image_laws.proofs.Naming.{earlier_name}
use Rattle.lrs_inventory.specs.Changes.{route_on}
use Rattle.lrs_report_answers.specs.Answers.{IsRouteIn}
use Rattle.lrs_report_answers.proofs.Asked as asked

-- one of the routes is found by its name
found_by_name : (r : RouteRow) (routes : List RouteRow) → each_two route_before routes ≡ true → In r routes → find (is_named r.route.name) routes ≡ Some r
found_by_name r [] h m = absurd m
found_by_name r (y ∷ ys) h (inl e) =
    ap (λ (b : Bool). cond b (Some y) (find (is_named r.route.name) ys)) ((bytes_decides y.route.name r.route.name).1 (ap (λ (x : RouteRow). x.route.name) (sym e))) ∙ ap (λ (x : RouteRow). Some x) (sym e)
found_by_name r (y ∷ ys) h (inr m) =
    let both = and_parts (list_all (route_before y) ys) (each_two route_before ys) h in
    ap (λ (b : Bool). cond b (Some y) (find (is_named r.route.name) ys)) (earlier_name y.route.name r.route.name (all_at (route_before y) r ys both.0 m)) ∙ found_by_name r ys both.1 m

-- what a search by any test finds is the route of its name
pub is_route_in : (i : Image) (p : RouteRow → Bool) (r : RouteRow) → IsSound i → find p i.routes ≡ Some r → IsRouteIn i r
is_route_in i p r sound h = found_by_name r i.routes (routes_in_order i sound) (asked.found_in p r i.routes h)

some_is : {X : Type 0} (x y : X) → Some x ≡ Some y → x ≡ y
some_is x y h = cc

-- what is found by the name of the route over a millimetre is that route
pub route_there : (i : Image) (m : Millimetre) (name : Name) (o : Option RouteRow) → IsSound i → Some name ≡ route_on i.routes m → o ≡ find (is_named name) i.routes → o ≡ find (λ e. runs_over e.route.course m) i.routes
route_there i m name o sound on found = found ∙ by (find (λ e. runs_over e.route.course m) i.routes) refl on
  where
    by : (q : Option RouteRow) → find (λ e. runs_over e.route.course m) i.routes ≡ q → Some name ≡ option_map (λ (e : RouteRow). e.route.name) q → find (is_named name) i.routes ≡ find (λ e. runs_over e.route.course m) i.routes
    by None e k = absurd (cc k)
    by (Some r) e k = ap (λ (n : Name). find (is_named n) i.routes) (some_is name r.route.name k) ∙ is_route_in i (λ e. runs_over e.route.course m) r sound e ∙ sym e

pub none_there : (i : Image) (m : Millimetre) → None ≡ route_on i.routes m → None ≡ find (λ e. runs_over e.route.course m) i.routes
none_there i m on = by (find (λ e. runs_over e.route.course m) i.routes) on
  where
    by : (q : Option RouteRow) → None ≡ option_map (λ (e : RouteRow). e.route.name) q → None ≡ q
    by None k = refl
    by (Some r) k = absurd (cc k)
