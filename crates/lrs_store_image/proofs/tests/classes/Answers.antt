use Rattle.std.proofs.Common.{Ok, ap, ◌∙◌, rules}
use Rattle.lrs_machine.specs.Sound.{class_before}
use Rattle.lrs_machine.specs.Sound.{are_classes}
use Rattle.lrs_machine.specs.declared.table.Table.TheVariants as table
use Rattle.lrs_store_tables.proofs.Contents.Orders.{classes_rank}
use Rattle.lrs_store_image.proofs.Sorted.{passed, failed}
use Rattle.lrs_store_image.proofs.tests.classes.Goals as goal

pub returns-then-not-are_classes : goal.returns-then-not-are_classes
returns-then-not-are_classes c = failed class_before classes_rank table.Class are_classes (λ xs h. h) c.args.found.items c.sorted_classes-classes.result.items c.sorted_classes-classes.ensures.permutation c.sorted_classes-classes.ensures.sorted (search rules)

pub returns : goal.returns
returns c = ap Ok c.from_vec.ensures ∙ passed class_before classes_rank table.Class are_classes (λ xs h. h) c.args.found.items c.sorted_classes-classes.result.items c.sorted_classes-classes.ensures.permutation c.sorted_classes-classes.ensures.sorted (search rules)
