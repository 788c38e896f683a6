use Rattle.std.proofs.Common.{rules}
use Rattle.lrs_machine.specs.Sound.{are_edits}
use Rattle.lrs_machine.specs.declared.table.Table.TheVariants as table
use Rattle.lrs_store_tables.specs.Contents.Decoders.{sorted, number_before, counted, edit_of}
use Rattle.lrs_store_tables.specs.Contents.Content.{read}
use Rattle.lrs_store_tables.specs.StoredRows.{edit_in}
use Rattle.lrs_store_image.proofs.Counted.{nothing_numbered, all_numbered}
use Rattle.lrs_store_image.proofs.Said.{reads_along}
use Rattle.lrs_store_image.proofs.rows.edits.Goals as goal

pub returns-in_default : goal.returns-in_default
returns-in_default c = nothing_numbered edit_of edit_in table.Edit (are_edits c.args.entered.now c.args.gone.now) c.args.rows.items (search rules)

pub returns : goal.returns
returns c = reads_along (read table.Edit (counted 1 (sorted number_before c.in-Some.found.items)) (are_edits c.args.entered.now c.args.gone.now)) _ c.edits.result (all_numbered edit_of edit_in table.Edit (are_edits c.args.entered.now c.args.gone.now) c.args.rows.items c.in-Some.found.items (search rules)) c.edits.ensures
