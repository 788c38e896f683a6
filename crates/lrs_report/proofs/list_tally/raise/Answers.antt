use Rattle.std.proofs.Common.{◌<◌, length, sym, ap, ◌∙◌, arith}
use Rattle.std.specs.Ordering.{is_eq, is_ge}
use Rattle.std.proofs.lemmas.List.{get_or_default}
use Rattle.lrs_measure.specs.OrderedLists.{place_by}
use Rattle.lrs_machine.specs.declared.total.Total.{Total}
use Rattle.lrs_measure.specs.KeyOrder.{name_after}
use Rattle.lrs_report.specs.ListTally.{are_by_class, class_order, raised, total_before}
use Rattle.lrs_report.proofs.Keyed.{missed, beyond}
use Rattle.lrs_report.proofs.Changed.{changed, unchanged}
use Rattle.lrs_report.proofs.Tallied.{order_stays}
use Rattle.lrs_report.proofs.list_tally.raise.Goals.{else-at-len-via-then-at-len+else-is_of, else-at-len-via-else-at-len}
use Rattle.lrs_report.proofs.list_tally.raise.Goals as goal

pub returns-then-is_of-clause-sums : goal.returns-then-is_of-clause-sums
returns-then-is_of-clause-sums c =
    let class = c.args.class.now in
    let xs = c.args.totals.now.items in
    let at = c.totals_below-at.result in
    let read = c.index-then-is_of.result.now in
    let place = c.totals_below-at.ensures.place ∙ ap (place_by (λ (t : Total). is_ge (class_order class t))) c.deref.ensures.value in
    let within : at < length xs = omega arith in
    let here = ap (λ t. is_eq (class_order class t)) (get_or_default xs at read c.index.result.now within ∙ sym c.index.ensures) ∙ sym c.is_of.ensures ∙ c.if-is_of.true in
    changed (class_order class) total_before (λ a b first below. name_after a.class b.class class first below) (raised c.args.sum c.args.length) xs at read c.raised.result c.requires.order place within here
    (c.raised.ensures ∙ ap (raised c.args.sum c.args.length) c.index-then-is_of.ensures)

pub returns-then-is_of-clause-order : goal.returns-then-is_of-clause-order
returns-then-is_of-clause-order c = ap are_by_class (returns-then-is_of-clause-sums c) ∙ order_stays c.args.class.now c.args.sum c.args.length c.args.totals.now.items ∙ c.requires.order

pub returns-else-at-len-clause-sums : goal.returns-else-at-len-clause-sums
returns-else-at-len-clause-sums c =
    let class = c.args.class.now in
    let xs = c.args.totals.now.items in
    let at = c.totals_below-at.result in
    let place = c.totals_below-at.ensures.place ∙ ap (place_by (λ (t : Total). is_ge (class_order class t))) c.deref.ensures.value in
    unchanged (class_order class) (raised c.args.sum c.args.length) xs (elim c.else-at-len.branch [
      | else-at-len-via-then-at-len+else-is_of w ↦
          missed (class_order class) total_before (λ a b first below. name_after a.class b.class class first below) xs at w.index.result.now c.requires.order place (omega arith)
          (ap (λ t. is_eq (class_order class t)) (sym w.index.ensures) ∙ sym w.is_of.ensures ∙ w.if-is_of.false)
      | else-at-len-via-else-at-len w ↦ beyond (class_order class) xs at place (omega arith)
    ])
