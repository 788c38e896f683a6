use Rattle.lrs_position.proofs.Entries.{NoneBefore}
use Rattle.lrs_position.proofs.link_position.route_over.Given as goal

abbrev pub invariant-loop-route : goal.invariant-loop-route
invariant-loop-route l = NoneBefore l.routes (l.link, l.mm) l.route-index
