use Rattle.std.proofs.Common.{take}
use Rattle.lrs_inventory.specs.Changes.{route_on}
use Rattle.lrs_report_answers.proofs.Gathering.{AreOver}
use Rattle.lrs_report_answers.proofs.ground_routes.routes_over_parts.Given as goal

abbrev pub invariant-loop-part : goal.invariant-loop-part
invariant-loop-part l = AreOver (route_on l.inventory.routes) (take l.part-index l.parts) l.routes
