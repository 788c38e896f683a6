use Rattle.std.proofs.Common.{◌∙◌, ap, not, arith}
use Rattle.lrs_measure.specs.Lists.{each_two}
use Rattle.lrs_measure.proofs.Filters.{each_two-filter}
use Rattle.lrs_events.specs.Changes.{same_row}
use Rattle.lrs_events.specs.LaneLists.Order.{row_before}
use Rattle.lrs_events.proofs.LaneLists.Inserted.{without_more, without_done}
use Rattle.lrs_events.proofs.lanes.sorted_rows.remove_rows.Goals as goal

pub loop-row-preserved : goal.loop-row-preserved
loop-row-preserved c =
    let row = c.row-item.result in
    let old = c.loop-row.rows.items in
    record {
      order = ap (each_two (row_before c.args.order)) c.remove_row.ensures.items ∙ each_two-filter (row_before c.args.order) (λ r. not (same_row row r)) old c.loop-row.invariant.order;
      rest = without_more c.args.gone.now c.loop-row.row-index row old c.remove_row.new.rows.items _ c.loop-row-test.true c.row-item.is c.remove_row.ensures.items c.loop-row.invariant.rest;
      len = omega arith;
      capacity = omega arith;
    }

pub returns-clause-items : goal.returns-clause-items
returns-clause-items c = without_done c.args.gone.now c.loop-row.row-index c.loop-row.rows.items _ c.loop-row-test.false c.loop-row.invariant.rest
