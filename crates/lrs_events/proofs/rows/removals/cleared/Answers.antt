use Rattle.std.proofs.Common.{◌∙◌, ap}
use Rattle.lrs_events.specs.Spans.{are_rows}
use Rattle.lrs_events.proofs.Row.Pieces.{rests_rows}
use Rattle.lrs_events.proofs.Row.Cleared.{cleared, none_cleared}
use Rattle.lrs_events.proofs.Row.Sided.{goes_in_order}
use Rattle.lrs_events.proofs.rows.removals.cleared.Goals as goal

pub difference-requires-clause-new : goal.difference-requires-clause-new
difference-requires-clause-new c = ap are_rows (c.deref.ensures.value ∙ c.in_ok-rest.ensures) ∙ rests_rows c.args.low c.args.high c.args.found.now c.if-high-low.false c.requires.rows

pub returns-clause-removal : goal.returns-clause-removal
returns-clause-removal c rows test of h e f =
    cleared rows c.args.found.now c.deref.result.now (record { left = c.in_ok-left.left; change = c.in_ok-change.change }) test of c.args.low c.args.high c.if-high-low.false h c.requires.rows e f
    c.in_ok-left.ensures (c.deref.ensures.value ∙ c.in_ok-rest.ensures) c.in_ok-change.ensures.gone c.in_ok-change.ensures.come

pub returns-clause-in_order : goal.returns-clause-in_order
returns-clause-in_order c = goes_in_order c.args.found.now c.in_ok-change.change.gone.items c.deref.result.now c.requires.rows c.in_ok-change.ensures.gone

pub returns-then-high-low-clause-removal : goal.returns-then-high-low-clause-removal
returns-then-high-low-clause-removal c =
    none_cleared c.args.found.now c.args.low c.args.high c.no_removal.result c.if-high-low.true c.no_removal.ensures.left c.no_removal.ensures.gone c.no_removal.ensures.come
