use Rattle.std.proofs.Common.{◌∙◌, rules}
use Rattle.lrs_machine.specs.Sound.{asset_before}
use Rattle.lrs_machine.specs.Sound.{are_assets}
use Rattle.lrs_machine.specs.declared.table.Table.TheVariants as table
use Rattle.lrs_store_tables.specs.Contents.Decoders.{asset_of}
use Rattle.lrs_store_tables.specs.StoredRows.{asset_in}
use Rattle.lrs_store_image.proofs.Said.{nothing_said, all_said, reads_along}
use Rattle.lrs_store_image.proofs.rows.assets.Goals as goal

pub returns-in_default : goal.returns-in_default
returns-in_default c = nothing_said asset_before asset_of asset_in table.Asset (are_assets c.args.classes.now) c.args.rows.now (search rules)

pub returns : goal.returns
returns c = reads_along c.assets.result _ c.as_read.result (c.assets.ensures ∙ all_said asset_before asset_of asset_in table.Asset (are_assets c.args.classes.now) c.args.rows.now c.in-Some.found.items (search rules)) c.as_read.ensures
