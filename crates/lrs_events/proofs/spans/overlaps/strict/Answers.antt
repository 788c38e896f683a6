use Rattle.std.proofs.Common.{arith, ◌+◌, List, [], ◌∷◌, ◌++◌, sym, ap, subst, ◌∙◌}
use Rattle.std.proofs.lemmas.Grind.{common_steps}
use Rattle.lrs_events.specs.declared.span.Span.{Span}
use Rattle.lrs_events.specs.RouteSpans.Overlaps.{goes_before}
use Rattle.lrs_events.proofs.RouteSpans.Gathering.{AreGathered, sorting_ranks, gathered_more, gathered_same}
use Rattle.lrs_events.proofs.spans.overlaps.strict.Goals.{then-is_new+in_ok-push, else-is_new}
use Rattle.lrs_events.proofs.spans.overlaps.strict.Goals as goal

pub loop-i-preserved : goal.loop-i-preserved
loop-i-preserved c =
    let before = goes_before c.args.by in
    let rows = c.args.rows.now in
    let i = c.loop-i.i in
    let found = c.loop-i.found.items in
    let P : List Span → Type 0 = λ xs. AreGathered before rows (i + 1) xs in
    elim c.if-is_new.branch [
      | then-is_new+in_ok-push w ↦
          let x = w.index-rows-i.result in
          subst P (sym (ap (λ z. z.items) w.found-is ∙ w.in_ok-push.ensures.items ∙ (λ j. found ++ w.index-rows-i.is j ∷ [])))
          (gathered_more before (sorting_ranks c.args.by) rows c.requires.sorted c.requires.ranked i x found c.loop-i-test.true (sym (c.is_new.ensures x) ∙ w.if-is_new.true) c.loop-i.invariant)
      | else-is_new w ↦
          subst P (sym (ap (λ z. z.items) w.found-is))
          (gathered_same before (sorting_ranks c.args.by) rows c.requires.sorted c.requires.ranked i found c.loop-i-test.true (λ d. sym (c.is_new.ensures d) ∙ w.if-is_new.false) c.loop-i.invariant)
    ]

pub returns-clause-order : goal.returns-clause-order
returns-clause-order c = grind (arith, common_steps)

pub returns-clause-same : goal.returns-clause-same
returns-clause-same c = grind (arith, common_steps)
