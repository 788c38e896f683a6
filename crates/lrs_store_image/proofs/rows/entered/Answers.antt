use Rattle.std.proofs.Common.{Some, rules}
use Rattle.lrs_events.specs.Parts.{part_before}
use Rattle.lrs_machine.specs.Sound.{are_entered}
use Rattle.lrs_machine.specs.declared.table.Table.TheVariants as table
use Rattle.lrs_store_tables.specs.Contents.Decoders.{sorted, part_of}
use Rattle.lrs_store_tables.specs.Contents.Content.{read}
use Rattle.lrs_store_tables.specs.StoredRows.{entered_in}
use Rattle.lrs_store_image.proofs.Said.{nothing_said, all_said, reads_along}
use Rattle.lrs_store_image.proofs.rows.entered.Goals as goal

pub returns-in_default : goal.returns-in_default
returns-in_default c = nothing_said part_before part_of entered_in table.Entered (are_entered c.args.links.now c.args.assets.now) c.args.rows.now (search rules)

pub returns : goal.returns
returns c = reads_along (read table.Entered (Some (sorted part_before c.in-Some.found.items)) (are_entered c.args.links.now c.args.assets.now)) _ c.entered.result (all_said part_before part_of entered_in table.Entered (are_entered c.args.links.now c.args.assets.now) c.args.rows.now c.in-Some.found.items (search rules)) c.entered.ensures
