use Rattle.std.proofs.Common.{Ok, Bool, List, ap, sym, ◌∙◌, rules}
use Rattle.std.specs.Prelude.{◌&&◌}
use Rattle.lrs_machine.specs.Sound.{are_origins}
use Rattle.lrs_machine.specs.declared.table.Table.TheVariants as table
use Rattle.lrs_store_tables.specs.Contents.Decoders.{Origin}
use Rattle.lrs_store_tables.specs.Contents.Content.{origin_before, has_origins}
use Rattle.lrs_store_tables.proofs.Contents.Orders.{origins_rank}
use Rattle.lrs_store_image.proofs.OriginRows.{origins_ask}
use Rattle.lrs_store_image.proofs.Sorted.{passed, failed}
use Rattle.lrs_store_image.proofs.tests.origins.Goals as goal

pub returns-then-not-sound : goal.returns-then-not-sound
returns-then-not-sound c =
    let test : List Origin → Bool = λ os. are_origins c.args.entered.now c.args.assets.now && has_origins c.args.version c.args.assets.now os in
    sym (failed origin_before origins_rank table.Origin test (origins_ask c.args.version c.args.assets.now c.args.entered.now c.requires.assets) c.args.found.items c.sorted_origins-origins.result.items c.sorted_origins-origins.ensures.permutation c.sorted_origins-origins.ensures.sorted (search rules))

pub returns : goal.returns
returns c =
    let test : List Origin → Bool = λ os. are_origins c.args.entered.now c.args.assets.now && has_origins c.args.version c.args.assets.now os in
    sym (ap Ok c.from_vec.ensures ∙ passed origin_before origins_rank table.Origin test (origins_ask c.args.version c.args.assets.now c.args.entered.now c.requires.assets) c.args.found.items c.sorted_origins-origins.result.items c.sorted_origins-origins.ensures.permutation c.sorted_origins-origins.ensures.sorted (search rules))
