use Rattle.std.proofs.Common.{◌∙◌, rules}
use Rattle.lrs_machine.specs.Sound.{link_before}
use Rattle.lrs_machine.specs.Sound.{are_links}
use Rattle.lrs_machine.specs.declared.table.Table.TheVariants as table
use Rattle.lrs_store_tables.specs.Contents.Decoders.{link_of}
use Rattle.lrs_store_tables.specs.StoredRows.{link_in}
use Rattle.lrs_store_image.proofs.Said.{nothing_said, all_said, reads_along}
use Rattle.lrs_store_image.proofs.rows.links.Goals as goal

pub returns-in_default : goal.returns-in_default
returns-in_default c = nothing_said link_before link_of link_in table.Link are_links c.args.rows.now (search rules)

pub returns : goal.returns
returns c = reads_along c.links.result _ c.as_read.result (c.links.ensures ∙ all_said link_before link_of link_in table.Link are_links c.args.rows.now c.in-Some.found.items (search rules)) c.as_read.ensures
