use Rattle.std.proofs.Common.{◌≡◌, ◌++◌, drop, map}
use Rattle.lrs_verbs.specs.RouteVerbs.Splits.{refs_behind}
use Rattle.lrs_verbs.proofs.routes.split.names_behind.Given as goal

abbrev pub invariant-loop-referent : goal.invariant-loop-referent
invariant-loop-referent l = l.out.items ++ map (λ q. q.name) (refs_behind l.at (drop l.referent-index l.refs)) ≡ map (λ q. q.name) (refs_behind l.at l.refs)
