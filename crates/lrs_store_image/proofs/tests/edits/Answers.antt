use Rattle.std.proofs.Common.{Ok, ap, sym, ◌∙◌, rules}
use Rattle.lrs_machine.specs.Sound.{are_edits}
use Rattle.lrs_machine.specs.declared.table.Table.TheVariants as table
use Rattle.lrs_store_image.proofs.Counted.{not_counted, counted_failed, counted_passed}
use Rattle.lrs_store_image.proofs.tests.edits.Goals as goal

pub returns-in_default : goal.returns-in_default
returns-in_default c = not_counted table.Edit (are_edits c.args.entered.now c.args.gone.now) c.args.found.items c.sorted_edits-sorted.result.items c.sorted_edits-sorted.ensures.permutation c.sorted_edits-sorted.ensures.sorted (search rules)

pub returns-then-not-sound : goal.returns-then-not-sound
returns-then-not-sound c = counted_failed table.Edit (are_edits c.args.entered.now c.args.gone.now) c.args.found.items c.sorted_edits-sorted.result.items c.sorted_edits-sorted.ensures.permutation c.sorted_edits-sorted.ensures.sorted c.in-Some.edits.items (search rules) (search rules)

pub returns : goal.returns
returns c =
    counted_passed table.Edit (are_edits c.args.entered.now c.args.gone.now) c.args.found.items c.sorted_edits-sorted.result.items c.sorted_edits-sorted.ensures.permutation c.sorted_edits-sorted.ensures.sorted c.in-Some.edits.items (search rules) (search rules)
    ∙ sym (ap Ok c.from_vec.ensures)
