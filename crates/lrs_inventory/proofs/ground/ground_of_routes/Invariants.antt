use Rattle.std.proofs.Common.{take}
use Rattle.lrs_inventory.specs.Prelude.{IsGroundOf}
use Rattle.lrs_inventory.proofs.ground.ground_of_routes.Given as goal

abbrev pub invariant-loop-route_row : goal.invariant-loop-route_row
invariant-loop-route_row l = IsGroundOf (λ e. e.route.name) (λ e. e.route.course) l.ground (take l.route_row-index l.routes)
