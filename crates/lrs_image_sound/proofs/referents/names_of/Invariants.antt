use Rattle.std.proofs.Common.{◌≡◌, map, take}
use Rattle.std.specs.List.{flat_map}
use Rattle.lrs_position.specs.declared.route.Referent.{Referent}
use Rattle.lrs_machine.specs.declared.image.RouteRow.{RouteRow}
use Rattle.lrs_image_sound.proofs.referents.names_of.Given as goal

abbrev pub invariant-loop-route_row : goal.invariant-loop-route_row
invariant-loop-route_row l = l.names.items ≡ map (λ (r : Referent). r.name) (flat_map (λ (e : RouteRow). e.route.refs) (take l.route_row-index l.routes))
