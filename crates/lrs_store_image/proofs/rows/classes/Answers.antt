use Rattle.std.proofs.Common.{◌∙◌, rules}
use Rattle.lrs_machine.specs.Sound.{class_before}
use Rattle.lrs_machine.specs.Sound.{are_classes}
use Rattle.lrs_machine.specs.declared.table.Table.TheVariants as table
use Rattle.lrs_store_tables.specs.Contents.Decoders.{class_of}
use Rattle.lrs_store_tables.specs.StoredRows.{class_in}
use Rattle.lrs_store_image.proofs.Said.{nothing_said, all_said, reads_along}
use Rattle.lrs_store_image.proofs.rows.classes.Goals as goal

pub returns-in_default : goal.returns-in_default
returns-in_default c = nothing_said class_before class_of class_in table.Class are_classes c.args.rows.now (search rules)

pub returns : goal.returns
returns c = reads_along c.classes.result _ c.as_read.result (c.classes.ensures ∙ all_said class_before class_of class_in table.Class are_classes c.args.rows.now c.in-Some.found.items (search rules)) c.as_read.ensures
