use Rattle.std.proofs.Common.{[], refl, rules}
use Rattle.lrs_sheet_advice.specs.Refusals.{WritesAdvice, refusals}
use Rattle.lrs_sheet_advice.proofs.RefusalsLeft.{all_done, left_in, one_more}
use Rattle.lrs_sheet_advice.proofs.WrittenLines.{advises-more, advises-none}
use Rattle.lrs_sheet_advice.proofs.advice.write_lines.Goals as goal

pub refusals-init : goal.refusals-init
refusals-init g c = ([], refl, advises-none (g.W.Write.contents c.args.writer.now))

pub refusals-preserved : goal.refusals-preserved
refusals-preserved g c =
    one_more WritesAdvice advises-more (refusals c.args.replies.now) (left_in (λ text. text.now) c.refusals.left) (left_in (λ text. text.now) c.in-Some.refusal.behind) c.in-Some.refusal.reply.now
    (g.W.Write.contents c.args.writer.now) (g.W.Write.contents c.refusals.writer) (g.W.Write.contents c.advise.new.writer) (search rules) c.refusals.invariant c.in_ok-advise-in-Some.ensures

pub returns-in-None : goal.returns-in-None
returns-in-None g c =
    all_done WritesAdvice (refusals c.args.replies.now) (left_in (λ text. text.now) c.refusals.left) (g.W.Write.contents c.args.writer.now) (g.W.Write.contents c.refusals.writer) (search rules) c.refusals.invariant
