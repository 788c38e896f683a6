use Rattle.std.proofs.Common.{ap, ◌∙◌, drop}
use Rattle.lrs_measure.specs.Lists.{each_two}
use Rattle.lrs_machine.specs.Sound.{asset_before}
use Rattle.lrs_store_image.proofs.Entered.{order_kept}
use Rattle.lrs_store_image.proofs.entering_edits.enter_all.Goals as goal

pub enter-requires : goal.enter-requires
enter-requires c = record { order = ap (each_two asset_before) c.loop-i.invariant ∙ order_kept (drop c.loop-i.i c.args.entered.now) c.args.assets.now.items ∙ c.requires.order }
