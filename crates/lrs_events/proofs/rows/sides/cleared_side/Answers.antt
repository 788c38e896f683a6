use Rattle.std.proofs.Common.{◌≤◌, arith}
use Rattle.lrs_events.proofs.Row.Sided.{parts_ordered, rests_ordered, removed, goes_in_order}
use Rattle.lrs_events.proofs.rows.sides.cleared_side.Goals as goal

pub merged-requires : goal.merged-requires
merged-requires c = parts_ordered c.args.found.now c.in_ok-parts.parts.items c.deref.result.now c.args.low c.max-high.result c.args.side c.requires c.in_ok-parts.ensures c.deref.ensures.value

pub merged-requires-2 : goal.merged-requires-2
merged-requires-2 c =
    let m = c.max-high.ensures in
    let l : c.args.low ≤ c.max-high.result = omega (arith, m) in
    rests_ordered c.args.found.now c.in_ok-rests.rests.items c.deref-2.result.now c.args.low c.max-high.result c.args.side l c.requires c.in_ok-rests.ensures c.deref-2.ensures.value

pub returns-clause-removal : goal.returns-clause-removal
returns-clause-removal c =
    removed c.args.found.now c.in_ok-rest.rest.items c.in_ok-parts.parts.items c.in_ok-rests.rests.items c.deref.result.now c.deref-2.result.now c.deref-3.result.now c.args.low c.args.high c.max-high.result c.args.side
    (record { left = c.in_ok-left.left; change = c.in_ok-change.change }) c.max-high.ensures c.in_ok-parts.ensures c.in_ok-rests.ensures c.deref.ensures.value c.deref-2.ensures.value c.deref-3.ensures.value
    c.in_ok-left.ensures.rows c.in_ok-left.ensures.same c.in_ok-rest.ensures.rows c.in_ok-rest.ensures.same c.in_ok-change.ensures.gone c.in_ok-change.ensures.come

pub returns-clause-in_order : goal.returns-clause-in_order
returns-clause-in_order c = goes_in_order c.args.found.now c.in_ok-change.change.gone.items c.deref-3.result.now c.requires c.in_ok-change.ensures.gone
