use Rattle.lrs_inventory.proofs.Keyed.{past, IsCandidate}
use Rattle.lrs_inventory.proofs.keys.KeyIndex.find.Given as goal

abbrev pub invariant-loop-candidate : goal.invariant-loop-candidate
invariant-loop-candidate l = IsCandidate l.edits l.key l.candidate

-- each turn goes back among the edits
abbrev pub decreases-loop-candidate : goal.decreases-loop-candidate
decreases-loop-candidate l = past l.candidate
