use Rattle.std.proofs.Common.{sym, ap, subst, ◌∙◌}
use Rattle.lrs_events.specs.Changes.{changed}
use Rattle.lrs_events.specs.Spans.{are_rows, span_before}
use Rattle.lrs_events.specs.RouteSpans.OpenRows.{Opened, HaveRoom}
use Rattle.lrs_events.proofs.RouteSpans.Tying.{can_change, kept_changed}
use Rattle.lrs_events.proofs.spans.open_spans.OpenSpans.change.Goals as goal

pub change_lanes-requires-clause-can : goal.change_lanes-requires-clause-can
change_lanes-requires-clause-can c =
    can_change c.args.gone.now c.args.come.now c.self.inside.rows.items (ap (λ (z : Opened). are_rows (changed span_before c.args.gone.now c.args.come.now z.rows)) c.self.view_is ∙ c.requires.canonical) c.self.inside.lanes.items c.self.invariant.tied
    (subst (λ (z : Opened). HaveRoom c.args.come.now z.lanes) (sym c.self.view_is) c.requires.room.lanes)

pub invariant_of-self : goal.invariant_of-self
invariant_of-self c =
    let gone = c.args.gone.now in
    let come = c.args.come.now in
    kept_changed gone come c.self.inside.rows.items (ap (λ (z : Opened). are_rows (changed span_before gone come z.rows)) c.self.view_is ∙ c.requires.canonical) c.change_in_room.new.rows.items c.self.inside.lanes.items c.change_lanes.new.lanes.items
    c.change_in_room.ensures.items
    c.self.invariant.tied
    (subst (λ (z : Opened). HaveRoom come z.lanes) (sym c.self.view_is) c.requires.room.lanes)
    c.change_lanes.ensures
