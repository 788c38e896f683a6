use Rattle.std.proofs.Common.{◌≡◌, take}
use Rattle.std.specs.List.{flat_map}
use Rattle.lrs_drafts.specs.Drafts.{changes_route}
use Rattle.lrs_drafts.specs.Fronts.{texts_of}
use Rattle.lrs_drafts.proofs.confirmation.route_fronts.Given as goal

abbrev pub invariant-loop-route : goal.invariant-loop-route
invariant-loop-route l = texts_of l.fronts.items ≡ flat_map changes_route (take l.route-index l.routes)
