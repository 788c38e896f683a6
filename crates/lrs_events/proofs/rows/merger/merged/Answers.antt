use Rattle.std.proofs.Common.{subst, sym}
use Rattle.lrs_events.proofs.Row.Gathered.{IsMerged, merged_none, next_behind, next_row, merged_more, merged_all}
use Rattle.lrs_events.proofs.rows.merger.merged.Goals as goal

pub loop-row-init : goal.loop-row-init
loop-row-init c = subst (λ out. IsMerged c.args.rows.now 0 out) (sym c.new-out.ensures.items) (merged_none c.args.rows.now)

pub push_row-requires-clause-rows : goal.push_row-requires-clause-rows
push_row-requires-clause-rows c = c.loop-row.invariant.kept

pub push_row-requires-clause-row : goal.push_row-requires-clause-row
push_row-requires-clause-row c = next_row c.args.rows.now c.loop-row.row-index c.row-item.result c.loop-row-test.true c.row-item.is c.requires

pub push_row-requires-clause-behind : goal.push_row-requires-clause-behind
push_row-requires-clause-behind c = next_behind c.args.rows.now c.loop-row.row-index c.loop-row.out.items c.row-item.result c.loop-row-test.true c.row-item.is c.loop-row.invariant

pub loop-row-preserved : goal.loop-row-preserved
loop-row-preserved c =
    merged_more c.args.rows.now c.loop-row.row-index c.loop-row.out.items c.push_row.new.out.items c.row-item.result c.loop-row-test.true c.row-item.is c.requires c.loop-row.invariant
    c.in_ok-push_row.ensures.rows c.in_ok-push_row.ensures.more c.in_ok-push_row.ensures.behind

pub returns-clause-rows : goal.returns-clause-rows
returns-clause-rows c = c.loop-row.invariant.kept

pub returns-clause-same : goal.returns-clause-same
returns-clause-same c = merged_all c.args.rows.now c.loop-row.row-index c.loop-row.out.items c.loop-row-test.false c.loop-row.invariant
