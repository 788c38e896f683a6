use Rattle.lrs_sheet_advice.specs.AdviceLines.{lines_text}
use Rattle.lrs_sheet_advice.specs.Refusals.{refusals}
use Rattle.lrs_sheet_advice.proofs.RefusedLines.{pushed_last, pushed_more}
use Rattle.lrs_sheet_advice.proofs.refused_lines.refusals.Goals as goal

pub replies-preserved : goal.replies-preserved
replies-preserved c =
    pushed_more (lines_text (refusals c.args.replies.now)) c.replies.lines.items c.replies.rest.now c.cut_at.result.0.now c.in-Some.text.now c.push_refusal.new.lines.items
    c.replies.invariant (rw c.in-Some.is at c.cut_at.ensures.more) c.in_ok-push_refusal.ensures

pub returns-in-None : goal.returns-in-None
returns-in-None c =
    pushed_last (lines_text (refusals c.args.replies.now)) c.replies.lines.items c.replies.rest.now c.cut_at.result.0.now c.push_refusal.new.lines.items
    c.replies.invariant (rw c.in-None.is at c.cut_at.ensures.last) c.in_ok-push_refusal.ensures
