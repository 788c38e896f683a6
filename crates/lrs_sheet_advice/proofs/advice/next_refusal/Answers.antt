use Rattle.std.proofs.Common.{refl, sym, ap, ◌∙◌}
use Rattle.lrs_sheet_advice.proofs.RefusalsLeft.{left_in, one_passed, one_refused}
use Rattle.lrs_sheet_advice.proofs.advice.next_refusal.Goals as goal

pub replies-init : goal.replies-init
replies-init c = refl

pub replies-preserved : goal.replies-preserved
replies-preserved c =
    sym (one_passed (λ text. text.now) c.in-Some.text.now c.cut_at.result.0.now c.cut_at.result.1 c.cut_at.ensures.last c.cut_at.ensures.more (sym c.is_refusal.ensures ∙ c.if-is_refusal.false))
    ∙ sym (ap (left_in (λ text. text.now)) c.in-Some.is) ∙ c.replies.invariant
