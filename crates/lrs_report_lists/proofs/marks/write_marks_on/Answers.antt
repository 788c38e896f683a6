use Rattle.lrs_report_lists.specs.Lines.{mark_line}
use Rattle.lrs_report_lists.proofs.Writing.{appends_at}
use Rattle.lrs_report_lists.proofs.marks.write_marks_on.Goals as goal

pub loop-mark-preserved : goal.loop-mark-preserved
loop-mark-preserved g c =
    appends_at (mark_line c.args.route.now) c.loop-mark.mark-index c.args.marks.now _ _ _ _ c.loop-mark-test.true c.loop-mark.invariant c.in_ok-write_mark.ensures
