use Rattle.std.proofs.Common.{take}
use Rattle.lrs_store_commit.specs.Laws.Texts.{AreNames}
use Rattle.lrs_store_commit.proofs.texts.prove_referents.Given as goal

abbrev pub invariant-loop-referent : goal.invariant-loop-referent
invariant-loop-referent l = AreNames (take l.referent-index l.refs)
