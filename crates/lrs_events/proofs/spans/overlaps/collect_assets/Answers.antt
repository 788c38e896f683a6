use Rattle.std.proofs.Common.{◌≡◌, ◌+◌, List, ◌++◌, ◌&&◌, take, sym, ap, subst, ◌∙◌}
use Rattle.std.proofs.lemmas.List.{take_all}
use Rattle.lrs_events.specs.declared.span.Span.{Span}
use Rattle.lrs_events.specs.Changes.{has_row}
use Rattle.lrs_events.specs.RouteSpans.Overlaps.{is_with}
use Rattle.lrs_events.proofs.RouteSpans.Gathering.{with_more}
use Rattle.lrs_events.proofs.spans.overlaps.collect_assets.Goals.{then-not-repeats+in_ok-extend_from_slice, else-not-repeats}
use Rattle.lrs_events.proofs.spans.overlaps.collect_assets.Goals as goal

pub loop-i-preserved : goal.loop-i-preserved
loop-i-preserved c =
    let rows = c.args.rows.now in
    let class = c.args.class in
    let met = c.args.met.now in
    let i = c.loop-i.i in
    let P : List Span → Type 0 = λ xs. (r : Span) → has_row xs r ≡ (has_row rows r && is_with class (take (i + 1) met) r) in
    elim c.if-not-repeats.branch [
      | then-not-repeats+in_ok-extend_from_slice w ↦
          subst P (sym (ap (λ z. z.items) w.found-is ∙ w.in_ok-extend_from_slice.ensures.items ∙ ap (λ (xs : List Span). c.loop-i.found.items ++ xs) w.asset_rows.ensures))
          (with_more met i c.loop-i-test.true rows class w.index-met-i.result c.loop-i.found.items c.loop-i.invariant)
      | else-not-repeats w ↦
          subst P (sym (ap (λ z. z.items) w.found-is)) (λ r. c.loop-i.invariant r ∙ ap (λ b. has_row rows r && b) (sym (c.repeats.ensures w.if-not-repeats.false class r)))
    ]

pub returns : goal.returns
returns c r = c.loop-i.invariant r ∙ ap (λ z. has_row c.args.rows.now r && is_with c.args.class z r) (take_all c.loop-i.i c.args.met.now c.loop-i-test.false)
