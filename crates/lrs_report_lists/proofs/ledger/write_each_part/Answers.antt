use Rattle.lrs_image.specs.OpenLists.{image_of}
use Rattle.lrs_report_lists.specs.Parts.{gone_line_of}
use Rattle.lrs_report_lists.proofs.Writing.{appends_at}
use Rattle.lrs_report_lists.proofs.ledger.write_each_part.Goals as goal

pub loop-gone-preserved : goal.loop-gone-preserved
loop-gone-preserved g c =
    appends_at (gone_line_of c.args.wanted.now (image_of c.args.kept.now)) c.loop-gone.gone-index c.args.ledger.now _ _ _ _ c.loop-gone-test.true c.loop-gone.invariant c.in_ok-write_part.ensures
