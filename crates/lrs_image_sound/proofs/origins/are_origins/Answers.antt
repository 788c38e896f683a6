use Rattle.std.proofs.Common.{sym, ◌∙◌}
use Rattle.lrs_image_sound.proofs.Fitting.{ok_so}
use Rattle.lrs_image_sound.proofs.Rearranged.{same_origins}
use Rattle.lrs_image_sound.proofs.origins.are_origins.Goals as goal

pub returns : goal.returns
returns c = ok_so _ _ c.are_origins_by_asset.result (λ sound h. (rw c.deref.ensures.value at h) ∙ sym (same_origins c.args.entered.now c.in_ok-sorted.sorted.items c.in_ok-sorted.ensures.permutation c.args.assets.now)) c.are_origins_by_asset.ensures
