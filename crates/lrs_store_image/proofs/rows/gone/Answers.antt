use Rattle.std.proofs.Common.{Some, rules}
use Rattle.lrs_machine.specs.Sound.{gone_before}
use Rattle.lrs_machine.specs.Sound.{are_gone}
use Rattle.lrs_image_sound.specs.Tables.{route_spans}
use Rattle.lrs_machine.specs.declared.table.Table.TheVariants as table
use Rattle.lrs_store_tables.specs.Contents.Decoders.{sorted, gone_of}
use Rattle.lrs_store_tables.specs.Contents.Content.{read}
use Rattle.lrs_store_tables.specs.StoredRows.{gone_in}
use Rattle.lrs_store_image.proofs.Said.{nothing_said, all_said, reads_along}
use Rattle.lrs_store_image.proofs.rows.gone.Goals as goal

pub returns-in_default : goal.returns-in_default
returns-in_default c = nothing_said gone_before gone_of gone_in table.Gone (are_gone c.args.links.now c.args.assets.now (route_spans c.args.routes.now) c.args.entered.now) c.args.rows.now (search rules)

pub returns : goal.returns
returns c = reads_along (read table.Gone (Some (sorted gone_before c.in-Some.found.items)) (are_gone c.args.links.now c.args.assets.now (route_spans c.args.routes.now) c.args.entered.now)) _ c.gone.result (all_said gone_before gone_of gone_in table.Gone (are_gone c.args.links.now c.args.assets.now (route_spans c.args.routes.now) c.args.entered.now) c.args.rows.now c.in-Some.found.items (search rules)) c.gone.ensures
