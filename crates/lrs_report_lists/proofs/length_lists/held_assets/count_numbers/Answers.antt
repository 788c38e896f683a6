use Rattle.std.proofs.Common.{◌+◌, subst, sym, ◌∙◌, arith}
use Rattle.std.proofs.lemmas.Bool.{not-true, not-false}
use Rattle.lrs_report_lists.proofs.Length.Numbered.{Counted, counted_new, counted_none, counted_old}
use Rattle.lrs_report_lists.proofs.length_lists.held_assets.count_numbers.Goals as goal
use Rattle.lrs_report_lists.proofs.length_lists.held_assets.count_numbers.Goals.{then-is_new, else-is_new}

pub loop-i-init : goal.loop-i-init
loop-i-init c = record { counted = counted_none c.args.numbers.now; few = omega arith }

pub loop-i-preserved : goal.loop-i-preserved
loop-i-preserved c =
    let numbers = c.args.numbers.now in
    let i = c.loop-i.i in
    let before = c.loop-i.invariant.counted in
    let few = c.loop-i.invariant.few in
    elim c.if-is_new.branch [
      | then-is_new w ↦ record {
        counted = subst (Counted numbers (i + 1)) (sym w.count-is) (counted_new numbers i c.loop-i.count 0 c.loop-i-test.true (not-true _ (sym c.is_new.ensures ∙ w.if-is_new.true)) before);
        few = omega (arith, few, w.count-is);
      }
      | else-is_new w ↦ record {
        counted = subst (Counted numbers (i + 1)) (sym w.count-is) (counted_old numbers i c.loop-i.count 0 c.loop-i-test.true (not-false _ (sym c.is_new.ensures ∙ w.if-is_new.false)) before);
        few = omega (arith, few, w.count-is);
      }
    ]
