use Rattle.std.proofs.Common.{◌≡◌, ◌++◌, drop, map}
use Rattle.lrs_image_laws.specs.Joins.{on_by}
use Rattle.lrs_verbs.proofs.routes.join.refs_on.Given as goal

abbrev pub invariant-loop-referent : goal.invariant-loop-referent
invariant-loop-referent l = l.out.items ++ map (on_by l.len) (drop l.referent-index l.refs) ≡ map (on_by l.len) l.refs
