-- What rows say of known routes: their referents.
use Rattle.std.specs.Prelude.{Bool, ◌&&◌, not, List, map, Option}
use Rattle.std.specs.List.{flat_map}
use Rattle.lrs_measure.specs.Lists.{each_two}
use Rattle.lrs_measure.specs.Texts.{same_name}
use Rattle.lrs_position.specs.declared.route.Referent.{Referent}
use Rattle.lrs_position.specs.declared.route.Route.{Route}
use Rattle.lrs_position.specs.Routes.{is_route, is_route_course, have_marks}
use Rattle.lrs_machine.specs.Sound.{RouteCourse, are_all_referents}
use Rattle.lrs_store_tables.specs.Contents.Decoders.{if_true}
use Rattle.lrs_store_tables.specs.Contents.Content.{Measured, referents_of}

-- the course is one that a route can have, and the marks fit it
abbrev pub is_measured : Measured → Bool
is_measured m = is_route_course m.course.entries && have_marks m.course.entries m.marks

-- a route with its marks and these referents, if they stand on it in their order
abbrev pub route_if : Measured → List Referent → Option Route
route_if m refs = if_true (is_route m.course.entries m.marks refs) (λ fits. record { name = m.course.route; course = m.course.entries; marks = m.marks; refs = refs; fits = fits })

-- no name is that of two referents
abbrev pub have_own_names : List Route → Bool
have_own_names routes = each_two (λ a b. not (same_name a.name b.name)) (flat_map (λ r. r.refs) routes)

-- the referents of each stand on it in their order, and no name is that of two
abbrev pub are_all_referred : List Route → Bool
are_all_referred routes = are_all_referents (map referents_of routes)

-- the courses of routes
abbrev pub courses_of_routes : List Route → List RouteCourse
courses_of_routes routes = map (λ r. record { route = r.name; entries = r.course }) routes
