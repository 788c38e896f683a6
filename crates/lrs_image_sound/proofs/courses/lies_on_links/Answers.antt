use Rattle.std.proofs.Common.{ap, ◌∙◌}
use Rattle.std.specs.List.{list_all}
use Rattle.lrs_machine.specs.Sound.{is_on_a_link}
use Rattle.lrs_image_sound.proofs.Laid.{pieces_are}
use Rattle.lrs_image_sound.proofs.courses.lies_on_links.Goals as goal

pub returns : goal.returns
returns c =
    c.end_on_links.ensures ∙ pieces_are c.args.links.now c.pieces.result.now c.pieces.ensures.fewest.filled ∙ ap (list_all (is_on_a_link c.args.links.now)) c.pieces.ensures.course
