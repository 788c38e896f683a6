-- The course of a route, and whether it is one that a route can have.
use Rattle.std.specs.Prelude.{Bool, ◌&&◌, not, nat_lt, nat_le, List, length, Option, Some}
use Rattle.std.specs.List.{list_all}
use Rattle.lrs_measure.specs.Lists.{each_two}
use Rattle.lrs_element.specs.declared.link.Link.{Link}
use Rattle.lrs_element.specs.declared.link.Piece.{Piece}
use Rattle.lrs_element.specs.declared.link.Ground.{Ground}
use Rattle.lrs_element.specs.Course.{meets}
use Rattle.lrs_position.specs.Routes.{is_route_course}
use Rattle.lrs_measure.specs.Limits.{most_routes}
use Rattle.lrs_events.specs.Places.{differs}
use Rattle.lrs_measure.specs.Texts.{Name}
use Rattle.lrs_machine.specs.Sound.{RouteCourse, is_on_a_link}
use Rattle.lrs_store_tables.specs.Contents.Decoders.{OfRoute, Numbered, number_before, said_of, sorted, counted, only_if}
use Rattle.lrs_store_tables.specs.Contents.Decoders as option
use Rattle.lrs_store_tables.specs.Contents.Content.{course_in_fewest}

-- the piece has a millimetre
abbrev pub is_filled : Piece → Bool
is_filled p = nat_lt p.from p.to

-- within the limits of a route, over known links, no millimetre twice
abbrev pub is_good_course : List Link → List Ground → Bool
is_good_course links course = is_route_course course && list_all (is_on_a_link links) course && each_two differs course

-- the course of pieces that are as few as it needs, if a route can have it
abbrev pub good_course : List Link → List Piece → Option (List Ground)
good_course links pieces = option.◌>>=◌ (course_in_fewest pieces) (λ course. only_if (is_good_course links course) course)

-- a route with the course of its pieces, if a route can have it
abbrev pub good_route_over : List Link → Name → List Piece → Option RouteCourse
good_route_over links route pieces = option.◌>>=◌ (good_course links pieces) (λ course. Some (record { route = route; entries = course }))

-- the course of a route, if its pieces are numbered from 0 on, as few as they can be, and a route can have it
abbrev pub good_route : List Link → List (OfRoute (Numbered Piece)) → Name → Option RouteCourse
good_route links said route = option.◌>>=◌ (counted 0 (sorted number_before (said_of route said))) (good_route_over links route)

-- no two share a millimetre, and they are not too many
abbrev pub fit_together : List RouteCourse → Bool
fit_together courses = nat_le (length courses) most_routes && each_two (λ c d. not (meets c.entries d.entries)) courses

-- what rows say, if they say something that passes the test
abbrev pub passing : {X : Type 0} → Option X → (X → Bool) → Option X
passing o test = option.◌>>=◌ o (λ x. only_if (test x) x)
