use Rattle.std.proofs.Common.{◌≡◌, ◌++◌, drop, map}
use Rattle.lrs_image_laws.specs.Splits.{back_by}
use Rattle.lrs_verbs.specs.RouteVerbs.Splits.{refs_behind}
use Rattle.lrs_verbs.proofs.routes.split.refs_behind.Given as goal

abbrev pub invariant-loop-referent : goal.invariant-loop-referent
invariant-loop-referent l = l.out.items ++ map (back_by l.at) (refs_behind l.at (drop l.referent-index l.refs)) ≡ map (back_by l.at) (refs_behind l.at l.refs)
