use Rattle.std.proofs.Common.{◌≡◌, ◌++◌, drop, map}
use Rattle.lrs_image_laws.specs.Turns.{from_end}
use Rattle.lrs_verbs.proofs.verbs.turn.refs_from_end.Given as goal

abbrev pub invariant-loop-referent : goal.invariant-loop-referent
invariant-loop-referent l = l.out.items ++ map (from_end l.len) (drop l.referent-index l.refs) ≡ map (from_end l.len) l.refs
