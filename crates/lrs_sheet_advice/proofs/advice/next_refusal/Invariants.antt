use Rattle.std.proofs.Common.{◌≡◌}
use Rattle.lrs_sheet_advice.proofs.RefusalsLeft.{left_in, size_of}
use Rattle.lrs_sheet_advice.proofs.advice.next_refusal.Given as goal

abbrev pub decreases-replies : goal.decreases-replies
decreases-replies l = size_of (λ text. text.now) l.left

abbrev pub invariant-replies : goal.invariant-replies
invariant-replies l = left_in (λ text. text.now) l.left ≡ left_in (λ text. text.now) l.fn.replies
