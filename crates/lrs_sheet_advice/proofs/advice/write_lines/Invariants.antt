use Rattle.std.proofs.Common.{length}
use Rattle.lrs_sheet_advice.specs.Refusals.{WritesAdvice, refusals}
use Rattle.lrs_sheet_advice.proofs.RefusalsLeft.{Through, left_in}
use Rattle.lrs_sheet_advice.proofs.advice.write_lines.Given as goal

abbrev pub decreases-refusals : goal.decreases-refusals
decreases-refusals g l = length (left_in (λ text. text.now) l.left)

abbrev pub invariant-refusals : goal.invariant-refusals
invariant-refusals g l = Through WritesAdvice (refusals l.fn.replies) (left_in (λ text. text.now) l.left) (g.W.Write.contents l.initial.writer) (g.W.Write.contents l.writer)
