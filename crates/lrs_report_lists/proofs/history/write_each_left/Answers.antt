use Rattle.lrs_report_lists.specs.Parts.{left_line_of}
use Rattle.lrs_report_lists.proofs.Writing.{appends_at}
use Rattle.lrs_report_lists.proofs.history.write_each_left.Goals as goal

pub loop-gone-preserved : goal.loop-gone-preserved
loop-gone-preserved g c =
    appends_at (left_line_of c.args.asset c.args.edits.now) c.loop-gone.gone-index c.args.ledger.now _ _ _ _ c.loop-gone-test.true c.loop-gone.invariant c.in_ok-write_left.ensures
