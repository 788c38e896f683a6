use Rattle.std.proofs.Common.{Ok, ap, sym, ◌∙◌, rules}
use Rattle.lrs_events.specs.Parts.{part_before}
use Rattle.lrs_machine.specs.Sound.{are_entered}
use Rattle.lrs_machine.specs.declared.table.Table.TheVariants as table
use Rattle.lrs_store_tables.proofs.Contents.Orders.{parts_rank}
use Rattle.lrs_store_image.proofs.Asks.{entered_ask}
use Rattle.lrs_store_image.proofs.Sorted.{passed, failed}
use Rattle.lrs_store_image.proofs.tests.entered.Goals as goal

pub returns-then-not-sound : goal.returns-then-not-sound
returns-then-not-sound c = sym (failed part_before parts_rank table.Entered (are_entered c.args.links.now c.args.assets.now) (entered_ask c.args.links.now c.args.assets.now) c.args.found.items c.sorted_parts-entered.result.items c.sorted_parts-entered.ensures.permutation c.sorted_parts-entered.ensures.sorted (search rules))

pub returns : goal.returns
returns c = sym (ap Ok c.from_vec.ensures ∙ passed part_before parts_rank table.Entered (are_entered c.args.links.now c.args.assets.now) (entered_ask c.args.links.now c.args.assets.now) c.args.found.items c.sorted_parts-entered.result.items c.sorted_parts-entered.ensures.permutation c.sorted_parts-entered.ensures.sorted (search rules))
