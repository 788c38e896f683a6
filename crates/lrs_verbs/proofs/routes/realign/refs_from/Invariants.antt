use Rattle.std.proofs.Common.{◌≡◌, ◌++◌, drop, map}
use Rattle.lrs_verbs.specs.RouteVerbs.Realignments.{on_from}
use Rattle.lrs_verbs.specs.RouteVerbs.Splits.{refs_behind}
use Rattle.lrs_verbs.proofs.routes.realign.refs_from.Given as goal

abbrev pub invariant-loop-referent : goal.invariant-loop-referent
invariant-loop-referent l = l.out.items ++ map (on_from l.to l.at) (refs_behind l.to (drop l.referent-index l.refs)) ≡ map (on_from l.to l.at) (refs_behind l.to l.refs)
