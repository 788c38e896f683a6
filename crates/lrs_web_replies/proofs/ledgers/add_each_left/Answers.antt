use Rattle.lrs_web_replies.specs.Parts.{left_part}
use Rattle.std.proofs.Common.{Some, append-nil, ap, sym, take_all, ◌++◌, ◌∙◌}
use Rattle.std.specs.List.{flat_map}
use Rattle.lrs_report_lists.proofs.Writing.{appends_at}
use Rattle.lrs_web_replies.proofs.ledgers.add_each_left.Goals as goal

pub loop-gone-preserved : goal.loop-gone-preserved
loop-gone-preserved c =
    appends_at (left_part c.args.asset c.args.edits.now) c.loop-gone.gone-index c.args.ledger.now _ (Some c.args.bytes.now.items) (Some c.loop-gone.bytes.items) (Some c.add_left.new.bytes.items) c.loop-gone-test.true c.loop-gone.invariant c.in_ok-add_left.ensures

pub loop-gone-init : goal.loop-gone-init
loop-gone-init c = sym (append-nil c.args.bytes.now.items)

pub returns : goal.returns
returns c = c.loop-gone.invariant ∙ ap (λ some. c.args.bytes.now.items ++ flat_map (left_part c.args.asset c.args.edits.now) some) (take_all c.loop-gone.gone-index c.args.ledger.now c.loop-gone-test.false)
