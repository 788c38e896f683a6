use Rattle.std.proofs.Common.{get_or, sym, ◌∙◌}
use Rattle.lrs_events.proofs.RouteSpans.SearchFree.{free_more, not_free, free_all}
use Rattle.lrs_events.proofs.spans.search.is_free.Goals as goal

pub returns-then-not-all_leave_free : goal.returns-then-not-all_leave_free
returns-then-not-all_leave_free c =
    not_free c.args.rows.now c.args.span.now (get_or c.args.lanes.now c.loop-i.i c.index-lanes-i.result).class c.asset_rows.result.now c.asset_rows.ensures (sym c.all_leave_free.ensures ∙ c.if-not-all_leave_free.true)

pub loop-i-preserved : goal.loop-i-preserved
loop-i-preserved c =
    free_more c.args.lanes.now c.args.rows.now c.args.span.now c.loop-i.i c.index-lanes-i.result c.asset_rows.result.now c.loop-i-test.true c.asset_rows.ensures
    (sym c.all_leave_free.ensures ∙ c.if-not-all_leave_free.false) c.loop-i.invariant

pub returns : goal.returns
returns c = free_all c.args.lanes.now c.args.rows.now c.args.span.now c.loop-i.i c.requires.kept c.loop-i-test.false c.loop-i.invariant
