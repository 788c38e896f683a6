use Rattle.std.proofs.Common.{◌≡◌, rules}
use Rattle.std.proofs.lemmas.List.Sorted.{answers_always}
use Rattle.lrs_events.specs.declared.class.Asset.{Asset}
use Rattle.lrs_machine.specs.Sound.{asset_before}
use Rattle.lrs_image_sound.proofs.Rising.{risen, less_chain}
use Rattle.lrs_image_sound.proofs.order.assets_rise.Goals as goal

pub returns : goal.returns
returns c =
    risen asset_before (less_chain (λ (a : Asset). a.number)) c.args.assets.now c.is_sorted_by.result
    (c.is_sorted_by.ensures.cases asset_before (answers_always _ (λ a r. r ≡ asset_before a.0.now a.1.0.now) _ (λ f a r f' q. search rules)))
