use Rattle.std.proofs.Common.{Some, Bool, List, rules}
use Rattle.std.specs.Prelude.{◌&&◌}
use Rattle.lrs_machine.specs.Sound.{are_origins}
use Rattle.lrs_machine.specs.declared.table.Table.TheVariants as table
use Rattle.lrs_store_tables.specs.Contents.Decoders.{sorted, Origin, origin_of}
use Rattle.lrs_store_tables.specs.Contents.Content.{read, origin_before, has_origins}
use Rattle.lrs_store_tables.specs.StoredRows.{origin_in}
use Rattle.lrs_store_image.proofs.Said.{nothing_said, all_said, reads_along}
use Rattle.lrs_store_image.proofs.rows.origins.Goals as goal

pub returns-in_default : goal.returns-in_default
returns-in_default c =
    let test : List Origin → Bool = λ os. are_origins c.args.entered.now c.args.assets.now && has_origins c.args.version c.args.assets.now os in
    nothing_said origin_before origin_of origin_in table.Origin test c.args.rows.now (search rules)

pub returns : goal.returns
returns c =
    let test : List Origin → Bool = λ os. are_origins c.args.entered.now c.args.assets.now && has_origins c.args.version c.args.assets.now os in
    reads_along (read table.Origin (Some (sorted origin_before c.in-Some.found.items)) test) _ c.origins.result (all_said origin_before origin_of origin_in table.Origin test c.args.rows.now c.in-Some.found.items (search rules)) c.origins.ensures
