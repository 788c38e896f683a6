use Rattle.lrs_web_replies.specs.Parts.{gone_part}
use Rattle.std.proofs.Common.{Some, append-nil, ap, sym, take_all, ◌++◌, ◌∙◌}
use Rattle.std.specs.List.{flat_map}
use Rattle.lrs_image.specs.OpenLists.{image_of}
use Rattle.lrs_report_lists.proofs.Writing.{appends_at}
use Rattle.lrs_web_replies.proofs.ledgers.add_parts.Goals as goal

pub loop-gone-preserved : goal.loop-gone-preserved
loop-gone-preserved c =
    appends_at (gone_part c.args.wanted.now (image_of c.args.kept.now)) c.loop-gone.gone-index c.args.ledger.now _ (Some c.args.bytes.now.items) (Some c.loop-gone.bytes.items) (Some c.add_asked_part.new.bytes.items) c.loop-gone-test.true c.loop-gone.invariant c.in_ok-add_asked_part.ensures

pub loop-gone-init : goal.loop-gone-init
loop-gone-init c = sym (append-nil c.args.bytes.now.items)

pub returns : goal.returns
returns c = c.loop-gone.invariant ∙ ap (λ some. c.args.bytes.now.items ++ flat_map (gone_part c.args.wanted.now (image_of c.args.kept.now)) some) (take_all c.loop-gone.gone-index c.args.ledger.now c.loop-gone-test.false)
