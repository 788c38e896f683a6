use Rattle.std.proofs.Common.{◌∙◌, ap}
use Rattle.lrs_events.specs.Spans.{are_rows}
use Rattle.lrs_events.proofs.Row.Pieces.{clips_rows}
use Rattle.lrs_events.proofs.Row.Halves.{cut_off}
use Rattle.lrs_events.proofs.Row.Sided.{goes_in_order}
use Rattle.lrs_events.proofs.rows.cuts.cut_at.Goals as goal

pub difference-requires-clause-new : goal.difference-requires-clause-new
difference-requires-clause-new c = ap are_rows (c.deref.ensures.value ∙ c.in_ok-front.ensures) ∙ clips_rows 0 c.args.at c.args.found.now c.requires

pub returns-clause-cut : goal.returns-clause-cut
returns-clause-cut c rows h e =
    cut_off rows c.args.found.now c.deref.result.now (record { rear = c.in_ok-rear.rear; change = c.in_ok-change.change }) c.args.at h c.requires e
    (c.deref.ensures.value ∙ c.in_ok-front.ensures) c.in_ok-rear.ensures c.in_ok-change.ensures.gone c.in_ok-change.ensures.come

pub returns-clause-in_order : goal.returns-clause-in_order
returns-clause-in_order c = goes_in_order c.args.found.now c.in_ok-change.change.gone.items c.deref.result.now c.requires c.in_ok-change.ensures.gone
