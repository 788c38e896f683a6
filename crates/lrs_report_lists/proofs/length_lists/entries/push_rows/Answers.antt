use Rattle.std.proofs.Common.{subst, sym}
use Rattle.lrs_report_lists.specs.Length.Parts.{FitsFrom, row_entry}
use Rattle.lrs_report_lists.proofs.Length.Pushed.{pushed_next}
use Rattle.lrs_report_lists.proofs.length_lists.entries.push_rows.Goals as goal

pub push_row-requires-clause-from : goal.push_row-requires-clause-from
push_row-requires-clause-from c = (subst (FitsFrom c.args.start) (sym c.row-item.is) (c.requires.fit c.loop-row.row-index c.row-item.result c.loop-row-test.true)).from_fits

pub push_row-requires-clause-to : goal.push_row-requires-clause-to
push_row-requires-clause-to c = (subst (FitsFrom c.args.start) (sym c.row-item.is) (c.requires.fit c.loop-row.row-index c.row-item.result c.loop-row-test.true)).to_fits

pub loop-row-preserved : goal.loop-row-preserved
loop-row-preserved c =
    pushed_next (row_entry c.args.assets.now.rows c.args.start) c.loop-row.row-index c.args.rows.now c.row-item.result c.args.entries.now.items c.loop-row.entries.items c.push_row.new.entries.items
    c.loop-row-test.true c.row-item.is c.loop-row.invariant c.in_ok-push_row.ensures
