use Rattle.std.proofs.Common.{ap, ◌∙◌}
use Rattle.lrs_measure.specs.Lists.{each_two}
use Rattle.lrs_machine.specs.Sound.{asset_before}
use Rattle.lrs_store_image.proofs.OfEntries.{order_with}
use Rattle.lrs_store_image.proofs.steps.read_image.Goals as goal

pub origins-requires : goal.origins-requires
origins-requires c =
    let n = c.args.held.first.named in
    ap (each_two asset_before) c.as_slice-assets.ensures ∙ ap (λ i. each_two asset_before i.assets) c.in-Ok-with_edits.ensures ∙ order_with c.args.held.entered n.assets ∙ c.requires.order
