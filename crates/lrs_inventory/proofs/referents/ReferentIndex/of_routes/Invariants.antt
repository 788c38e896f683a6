use Rattle.std.proofs.Common.{take}
use Rattle.std.specs.FinMap.{empty}
use Rattle.std.specs.List.{flat_map}
use Rattle.lrs_inventory.specs.Prelude.{referents_on}
use Rattle.lrs_inventory.specs.Places.{HaveCome}
use Rattle.lrs_inventory.proofs.referents.ReferentIndex.of_routes.Given as goal

abbrev pub invariant-loop-route_row : goal.invariant-loop-route_row
invariant-loop-route_row l = HaveCome empty l.places (flat_map referents_on (take l.route_row-index l.routes))
