use Rattle.std.proofs.Common.{Ok, ap, ◌∙◌, rules}
use Rattle.lrs_machine.specs.Sound.{asset_before}
use Rattle.lrs_machine.specs.Sound.{are_assets}
use Rattle.lrs_machine.specs.declared.table.Table.TheVariants as table
use Rattle.lrs_store_tables.proofs.Contents.Orders.{assets_rank}
use Rattle.lrs_store_image.proofs.Asks.{assets_ask}
use Rattle.lrs_store_image.proofs.Sorted.{passed, failed}
use Rattle.lrs_store_image.proofs.tests.assets.Goals as goal

pub returns-then-not-are_assets : goal.returns-then-not-are_assets
returns-then-not-are_assets c = failed asset_before assets_rank table.Asset (are_assets c.args.classes.now) (assets_ask c.args.classes.now) c.args.found.items c.sorted_assets-assets.result.items c.sorted_assets-assets.ensures.permutation c.sorted_assets-assets.ensures.sorted (search rules)

pub returns : goal.returns
returns c = ap Ok c.from_vec.ensures ∙ passed asset_before assets_rank table.Asset (are_assets c.args.classes.now) (assets_ask c.args.classes.now) c.args.found.items c.sorted_assets-assets.result.items c.sorted_assets-assets.ensures.permutation c.sorted_assets-assets.ensures.sorted (search rules)
