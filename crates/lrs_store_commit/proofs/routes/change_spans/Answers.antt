use Rattle.lrs_store_tables.specs.RowChanges.{less_spans, with_spans}
use Rattle.lrs_store_tables.proofs.Steady.{steady-with_spans}
use Rattle.lrs_store_commit.proofs.Last.{then_makes}
use Rattle.lrs_store_commit.proofs.routes.change_spans.Goals as goal

pub returns : goal.returns
returns g c =
    let change = c.args.change.now in
    then_makes (less_spans change.route change.spans_gone) (with_spans change.route change.spans_come) (steady-with_spans change.route change.spans_come) (rw (c.as_slice.ensures) at c.in_ok-write_all.ensures)
    (rw (c.as_slice-2.ensures) at c.write_all-2.ensures)
