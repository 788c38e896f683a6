use Rattle.std.proofs.Common.{◌≡◌, map, take}
use Rattle.lrs_machine.specs.Sound.{RouteCourse}
use Rattle.lrs_store_image.proofs.route_decoder.marks.names_of_courses.Given as goal

abbrev pub invariant-loop-course : goal.invariant-loop-course
invariant-loop-course l = l.names.items ≡ map (λ (c : RouteCourse). c.route) (take l.course-index l.courses)
