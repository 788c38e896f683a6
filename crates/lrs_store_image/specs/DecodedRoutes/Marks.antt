-- What rows say of known routes: their marks.
use Rattle.std.specs.Prelude.{Bool, ◌&&◌, List, map, Option}
use Rattle.std.specs.List.{list_any, list_all}
use Rattle.lrs_measure.specs.Lists.{each_two}
use Rattle.lrs_measure.specs.Texts.{Name, same_name}
use Rattle.lrs_element.specs.declared.marks.Mark.{Mark}
use Rattle.lrs_position.specs.Routes.{is_route_course, have_marks}
use Rattle.lrs_machine.specs.Sound.{RouteCourse, course_before, are_all_marks}
use Rattle.lrs_store_tables.specs.Contents.Decoders.{OfRoute, Numbered}
use Rattle.lrs_store_tables.specs.Contents.Content.{Measured, measured_with, marks_of}
use Rattle.lrs_store_image.specs.DecodedRoutes.Courses.{passing}

-- one of these names
abbrev pub is_name_of : List Name → Name → Bool
is_name_of names name = list_any (λ n. same_name n name) names

-- what a row says, if that is of a known route
abbrev pub known : {Row X : Type 0} → (Row → Option (OfRoute X)) → (Name → Bool) → Row → Option (OfRoute X)
known decoded is_known row = passing (decoded row) (λ said. is_known said.route)

-- routes in the order of their names, each with a course that a route can have
abbrev pub are_route_courses : List RouteCourse → Bool
are_route_courses courses = each_two course_before courses && list_all (λ c. is_route_course c.entries) courses

-- the courses of routes that have their marks
abbrev pub courses_of_measured : List Measured → List RouteCourse
courses_of_measured measured = map (λ m. m.course) measured

-- a route with its marks, if these fit its course
abbrev pub good_measured : List (OfRoute (Numbered Mark)) → RouteCourse → Option Measured
good_measured said c = passing (measured_with said c) (λ m. have_marks m.course.entries m.marks)

-- the marks of each fit its course
abbrev pub are_all_measured : List Measured → Bool
are_all_measured measured = are_all_marks (map marks_of measured)
