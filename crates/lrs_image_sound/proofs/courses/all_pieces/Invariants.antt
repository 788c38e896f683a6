use Rattle.std.proofs.Common.{◌≡◌, take}
use Rattle.std.specs.List.{AllByRecursion, flat_map}
use Rattle.lrs_element.specs.Course.{course_of}
use Rattle.lrs_element.specs.Pieces.{IsFilled}
use Rattle.lrs_machine.specs.declared.image.RouteRow.{RouteRow}
use Rattle.lrs_image_sound.proofs.courses.all_pieces.Given as goal

abbrev pub invariant-loop-route_row : goal.invariant-loop-route_row
invariant-loop-route_row l =
    (course_of l.pieces.items ≡ flat_map (λ (e : RouteRow). e.route.course) (take l.route_row-index l.routes)) × AllByRecursion IsFilled l.pieces.items
