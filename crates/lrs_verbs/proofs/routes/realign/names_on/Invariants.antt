use Rattle.std.proofs.Common.{◌≡◌, ◌++◌, drop, map}
use Rattle.lrs_verbs.specs.RouteVerbs.Realignments.{refs_on}
use Rattle.lrs_verbs.proofs.routes.realign.names_on.Given as goal

abbrev pub invariant-loop-referent : goal.invariant-loop-referent
invariant-loop-referent l = l.out.items ++ map (λ q. q.name) (refs_on l.from l.to (drop l.referent-index l.refs)) ≡ map (λ q. q.name) (refs_on l.from l.to l.refs)
