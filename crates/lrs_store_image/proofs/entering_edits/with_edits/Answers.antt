use Rattle.std.proofs.Common.{ap, ◌∙◌}
use Rattle.lrs_measure.specs.Lists.{each_two}
use Rattle.lrs_machine.specs.Sound.{asset_before}
use Rattle.lrs_store_image.specs.EnteringEdits.{entered_all}
use Rattle.lrs_store_image.proofs.Entered.{all_entered, order_without}
use Rattle.lrs_store_image.proofs.entering_edits.with_edits.Goals as goal

pub enter_all-requires : goal.enter_all-requires
enter_all-requires c = record { order = ap (each_two asset_before) c.in_ok-found.ensures ∙ order_without c.args.assets.now ∙ c.requires.order }

pub returns : goal.returns
returns c = c.from_vec.ensures ∙ c.enter_all.ensures ∙ ap (entered_all c.args.entered.now) c.in_ok-found.ensures ∙ all_entered c.args.entered.now c.args.assets.now
