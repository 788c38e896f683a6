use Rattle.std.proofs.Common.{length}
use Rattle.lrs_sheet_advice.specs.AdviceItems.{AddsAdvice}
use Rattle.lrs_sheet_advice.specs.Refusals.{refusals}
use Rattle.lrs_sheet_advice.proofs.RefusalsLeft.{Through, left_in}
use Rattle.lrs_sheet_advice.proofs.advice_list.push_items.Given as goal

abbrev pub decreases-refusals : goal.decreases-refusals
decreases-refusals l = length (left_in (λ text. text.now) l.left)

abbrev pub invariant-refusals : goal.invariant-refusals
invariant-refusals l = Through AddsAdvice (refusals l.fn.replies) (left_in (λ text. text.now) l.left) l.initial.list.items.items l.list.items.items
