use Rattle.std.proofs.Common.{[], refl, rules}
use Rattle.lrs_sheet_advice.specs.AdviceItems.{AddsAdvice}
use Rattle.lrs_sheet_advice.specs.Refusals.{refusals}
use Rattle.lrs_sheet_advice.proofs.ListedItems.{adds-more, adds-none}
use Rattle.lrs_sheet_advice.proofs.RefusalsLeft.{all_done, left_in, one_more}
use Rattle.lrs_sheet_advice.proofs.advice_list.push_items.Goals as goal

pub refusals-init : goal.refusals-init
refusals-init c = ([], refl, adds-none c.args.list.now.items.items)

pub refusals-preserved : goal.refusals-preserved
refusals-preserved c =
    one_more AddsAdvice adds-more (refusals c.args.replies.now) (left_in (λ text. text.now) c.refusals.left) (left_in (λ text. text.now) c.in-Some.refusal.behind) c.in-Some.refusal.reply.now
    c.args.list.now.items.items c.refusals.list.items.items c.push_item.new.list.items.items (search rules) c.refusals.invariant c.in_ok-push_item-in-Some.ensures

pub returns-in-None : goal.returns-in-None
returns-in-None c =
    all_done AddsAdvice (refusals c.args.replies.now) (left_in (λ text. text.now) c.refusals.left) c.args.list.now.items.items c.refusals.list.items.items (search rules) c.refusals.invariant
