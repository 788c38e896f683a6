use Rattle.std.proofs.Common.{subst}
use Rattle.std.proofs.lemmas.List.{take_all}
use Rattle.lrs_events.proofs.LaneLists.Starts.{LieWithin, none_lie, one_more_lies}
use Rattle.lrs_events.proofs.lanes.sorted_rows.starts.Goals as goal

pub loop-row-init : goal.loop-row-init
loop-row-init c = none_lie _ _

pub loop-row-preserved : goal.loop-row-preserved
loop-row-preserved c =
    one_more_lies c.args.rows.now c.loop-row.row-index c.loop-row.least c.loop-row.greatest c.min-least.result c.max-greatest.result c.row-item.result c.loop-row-test.true c.row-item.is c.loop-row.invariant c.min-least.ensures c.max-greatest.ensures

pub returns : goal.returns
returns c = subst (LieWithin c.loop-row.least c.loop-row.greatest) (take_all c.loop-row.row-index c.args.rows.now c.loop-row-test.false) c.loop-row.invariant
