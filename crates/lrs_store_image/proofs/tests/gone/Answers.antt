use Rattle.std.proofs.Common.{Ok, ap, sym, ◌∙◌, rules}
use Rattle.lrs_machine.specs.Sound.{gone_before}
use Rattle.lrs_machine.specs.Sound.{are_gone}
use Rattle.lrs_image_sound.specs.Tables.{route_spans}
use Rattle.lrs_machine.specs.declared.table.Table.TheVariants as table
use Rattle.lrs_store_tables.proofs.Contents.Orders.{gone_rank}
use Rattle.lrs_store_image.proofs.Asks.{gone_ask}
use Rattle.lrs_store_image.proofs.Sorted.{passed, failed}
use Rattle.lrs_store_image.proofs.tests.gone.Goals as goal

pub returns-then-not-sound : goal.returns-then-not-sound
returns-then-not-sound c = sym (failed gone_before gone_rank table.Gone (are_gone c.args.links.now c.args.assets.now (route_spans c.args.routes.now) c.args.entered.now) (gone_ask c.args.links.now c.args.assets.now (route_spans c.args.routes.now) c.args.entered.now) c.args.found.items c.sorted_gone-gone.result.items c.sorted_gone-gone.ensures.permutation c.sorted_gone-gone.ensures.sorted (search rules))

pub returns : goal.returns
returns c = sym (ap Ok c.from_vec.ensures ∙ passed gone_before gone_rank table.Gone (are_gone c.args.links.now c.args.assets.now (route_spans c.args.routes.now) c.args.entered.now) (gone_ask c.args.links.now c.args.assets.now (route_spans c.args.routes.now) c.args.entered.now) c.args.found.items c.sorted_gone-gone.result.items c.sorted_gone-gone.ensures.permutation c.sorted_gone-gone.ensures.sorted (search rules))
