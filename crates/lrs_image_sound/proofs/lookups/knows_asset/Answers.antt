use Rattle.std.proofs.Common.{true, sym, ◌∙◌}
use Rattle.lrs_events.specs.declared.class.Asset.{Asset}
use Rattle.lrs_image_sound.proofs.Keyed.{row_known}
use Rattle.lrs_image_sound.proofs.lookups.knows_asset.Goals as goal

pub returns-in-Some : goal.returns-in-Some
returns-in-Some c = sym (c.in-Some.ensures (λ (a : Asset). true)) ∙ row_known (λ (a : Asset). a.number) c.args.assets.now c.args.number

pub returns-in-None : goal.returns-in-None
returns-in-None c = sym (c.in-None.ensures (λ (a : Asset). true)) ∙ row_known (λ (a : Asset). a.number) c.args.assets.now c.args.number
