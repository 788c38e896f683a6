use Rattle.std.proofs.Common.{◌≡◌, take}
use Rattle.std.specs.List.{flat_map}
use Rattle.lrs_machine.specs.declared.image.RouteRow.{RouteRow}
use Rattle.lrs_image_sound.proofs.spans.all_rows.Given as goal

abbrev pub invariant-loop-route_row : goal.invariant-loop-route_row
invariant-loop-route_row l = l.rows.items ≡ flat_map (λ (e : RouteRow). e.spans) (take l.route_row-index l.routes)
