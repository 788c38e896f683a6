use Rattle.std.proofs.Common.{take}
use Rattle.lrs_store_commit.specs.Laws.Texts.{HaveTexts}
use Rattle.lrs_store_commit.proofs.texts.prove_all_texts.Given as goal

abbrev pub invariant-loop-change : goal.invariant-loop-change
invariant-loop-change l = HaveTexts (take l.change-index l.changes)
