use Rattle.std.proofs.Common.{◌∙◌, ap}
use Rattle.lrs_events.specs.declared.span.Span.{Span}
use Rattle.lrs_events.specs.Spans.{are_rows}
use Rattle.lrs_events.proofs.Row.Replaced.{found_rows}
use Rattle.lrs_events.specs.RouteSpans.Overlaps.{is_met_asset}
use Rattle.lrs_events.proofs.RouteSpans.ClassPlaces.{met_removal}
use Rattle.lrs_events.proofs.spans.spans.Spans.plan_remove_class_places.Goals as goal

pub cleared_side-requires : goal.cleared_side-requires
cleared_side-requires c =
    ap are_rows (c.deref.ensures.value ∙ c.in_ok-found.ensures.found) ∙ found_rows (λ (r : Span). is_met_asset c.args.self.now c.args.class c.args.low c.args.high r.class r.asset) c.args.self.now c.in_ok-found.ensures.canonical

pub returns-clause-removal : goal.returns-clause-removal
returns-clause-removal c =
    met_removal c.args.self.now c.args.class c.args.low c.args.high c.args.side c.in_ok-removal.removal
    (c.in_ok-removal.ensures.removal c.args.self.now (is_met_asset c.args.self.now c.args.class c.args.low c.args.high) c.in_ok-found.ensures.canonical (c.deref.ensures.value ∙ c.in_ok-found.ensures.found))

pub returns-clause-plan : goal.returns-clause-plan
returns-clause-plan c =
    let removed = c.in_ok-removal.ensures.removal c.args.self.now (is_met_asset c.args.self.now c.args.class c.args.low c.args.high) c.in_ok-found.ensures.canonical (c.deref.ensures.value ∙ c.in_ok-found.ensures.found) in
    record { kept = removed.kept; change = removed.change; in_order = c.in_ok-removal.ensures.in_order }
