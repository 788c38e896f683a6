use Rattle.std.proofs.Common.{◌≡◌, take}
use Rattle.std.specs.List.{AllByRecursion, flat_map}
use Rattle.lrs_element.specs.Course.{course_of}
use Rattle.lrs_element.specs.Pieces.{IsFilled}
use Rattle.lrs_machine.specs.Sound.{RouteCourse}
use Rattle.lrs_store_image.proofs.route_decoder.courses.all_pieces.Given as goal

abbrev pub invariant-loop-route : goal.invariant-loop-route
invariant-loop-route l =
    (course_of l.pieces.items ≡ flat_map (λ (c : RouteCourse). c.entries) (take l.route-index l.courses)) × AllByRecursion IsFilled l.pieces.items
