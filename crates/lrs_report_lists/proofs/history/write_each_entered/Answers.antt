use Rattle.lrs_report_lists.specs.Parts.{entered_line_of}
use Rattle.lrs_report_lists.proofs.Writing.{appends_at}
use Rattle.lrs_report_lists.proofs.history.write_each_entered.Goals as goal

pub loop-part-preserved : goal.loop-part-preserved
loop-part-preserved g c =
    appends_at (entered_line_of c.args.asset c.args.edits.now) c.loop-part.part-index c.args.entered.now _ _ _ _ c.loop-part-test.true c.loop-part.invariant c.in_ok-write_entered.ensures
