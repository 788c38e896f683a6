use Rattle.std.proofs.Common.{◌≡◌, ◌++◌, length}
use Rattle.lrs_sheet_advice.specs.AdviceLines.{lines_text}
use Rattle.lrs_sheet_advice.specs.Refusals.{refusals}
use Rattle.lrs_sheet_advice.proofs.refused_lines.refusals.Given as goal

abbrev pub decreases-replies : goal.decreases-replies
decreases-replies l = length l.rest

abbrev pub invariant-replies : goal.invariant-replies
invariant-replies l = l.lines.items ++ lines_text (refusals l.rest) ≡ lines_text (refusals l.fn.replies)
