use Rattle.std.proofs.Common.{◌+◌, ℕ, take, Option, sym, subst, ◌∙◌, ap, Some}
use Rattle.lrs_events.specs.declared.span.Span.{Span}
use Rattle.lrs_events.specs.LaneLists.Lane.{is_met, IsLeast, least_with}
use Rattle.lrs_events.proofs.LaneLists.Lanes.{least_next, least_same}
use Rattle.lrs_events.proofs.lanes.lane.least_met.Goals as goal
use Rattle.lrs_events.proofs.lanes.lane.least_met.Goals.{then-is_met, else-is_met}

pub loop-row-preserved : goal.loop-row-preserved
loop-row-preserved c =
    let P : Option ℕ → Type 0 = λ o. IsLeast (is_met c.args.low c.args.high) (take (c.loop-row.row-index + 1) c.args.rows.now) o in
    let r = c.row-item.result in
    let o = c.loop-row.least in
    let test = is_met c.args.low c.args.high in
    elim c.if-is_met.branch [
      | then-is_met w ↦ subst P (sym (w.least-is ∙ ap Some (w.lesser.ensures ∙ ap (λ (z : Span). least_with o z.asset) c.row-item.is))) (least_next test c.args.rows.now c.loop-row.row-index r o c.loop-row-test.true c.loop-row.invariant (sym (ap test c.row-item.is) ∙ sym c.is_met.ensures ∙ w.if-is_met.true))
      | else-is_met w ↦ subst P (sym w.least-is) (least_same test c.args.rows.now c.loop-row.row-index r o c.loop-row-test.true c.loop-row.invariant (sym (ap test c.row-item.is) ∙ sym c.is_met.ensures ∙ w.if-is_met.false))
    ]
