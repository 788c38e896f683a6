use Rattle.std.proofs.Common.{ap, sym, ◌∙◌}
use Rattle.lrs_measure.specs.Texts.{same_name}
use Rattle.lrs_events.specs.RouteSpans.Overlaps.{met_in, met_of}
use Rattle.lrs_events.proofs.RouteSpans.Pushes.{pushed, not_pushed, mapped_more}
use Rattle.lrs_events.proofs.spans.overlaps.collect_of.Goals.{then-eq+in_ok-push_class, else-eq}
use Rattle.lrs_events.proofs.spans.overlaps.collect_of.Goals as goal

pub loop-of-preserved : goal.loop-of-preserved
loop-of-preserved c =
    let of = c.of-item.result in
    let out = c.loop-of.found.items in
    let new = c.if-eq.found.items in
    let met = met_in c.args.low c.args.high of in
    mapped_more (met_of c.args.class c.args.low c.args.high) c.args.lanes.now c.loop-of.of-index of out new c.loop-of-test.true c.of-item.is c.loop-of.invariant
    (elim c.if-eq.branch [
      | then-eq+in_ok-push_class w ↦ pushed (same_name of.class c.args.class) out new met (sym c.eq.ensures ∙ w.if-eq.true) (ap (λ z. z.items) w.found-is ∙ w.in_ok-push_class.ensures)
      | else-eq w ↦ not_pushed (same_name of.class c.args.class) out new met (sym c.eq.ensures ∙ w.if-eq.false) (ap (λ z. z.items) w.found-is)
    ])
