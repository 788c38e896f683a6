use Rattle.std.proofs.Common.{◌∙◌}
use Rattle.std.specs.List.{list_all}
use Rattle.lrs_image_sound.specs.Tables.{fits_route}
use Rattle.lrs_image_sound.proofs.Spanned.{rows_fit}
use Rattle.lrs_image_sound.proofs.image.gone_pass.Goals as goal

pub are_gone-requires-clause-spans : goal.are_gone-requires-clause-spans
are_gone-requires-clause-spans c =
    let image = c.args.image.now in
    (λ j. list_all (fits_route (c.as_slice-2.ensures j)) (c.as_slice-3.ensures j)) ∙ rows_fit image.links image.classes image.assets image.routes c.requires.spans
