use Rattle.lrs_web_replies.specs.Parts.{entered_part}
use Rattle.std.proofs.Common.{Some, append-nil, ap, sym, take_all, ◌++◌, ◌∙◌}
use Rattle.std.specs.List.{flat_map}
use Rattle.lrs_report_lists.proofs.Writing.{appends_at}
use Rattle.lrs_web_replies.proofs.ledgers.add_each_entered.Goals as goal

pub loop-part-preserved : goal.loop-part-preserved
loop-part-preserved c =
    appends_at (entered_part c.args.asset c.args.edits.now) c.loop-part.part-index c.args.entered.now _ (Some c.args.bytes.now.items) (Some c.loop-part.bytes.items) (Some c.add_entered.new.bytes.items) c.loop-part-test.true c.loop-part.invariant c.in_ok-add_entered.ensures

pub loop-part-init : goal.loop-part-init
loop-part-init c = sym (append-nil c.args.bytes.now.items)

pub returns : goal.returns
returns c = c.loop-part.invariant ∙ ap (λ some. c.args.bytes.now.items ++ flat_map (entered_part c.args.asset c.args.edits.now) some) (take_all c.loop-part.part-index c.args.entered.now c.loop-part-test.false)
