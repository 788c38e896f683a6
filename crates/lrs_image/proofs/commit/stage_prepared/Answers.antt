use Rattle.std.proofs.Common.{ap, ◌∙◌}
use Rattle.lrs_measure.specs.Lists.{each_two}
use Rattle.lrs_machine.specs.declared.image.Image.{Image}
use Rattle.lrs_machine.specs.Sound.{route_before}
use Rattle.lrs_image.specs.OpenLists.{image_of}
use Rattle.lrs_image.proofs.Tables.{routes_in_order}
use Rattle.lrs_image.proofs.commit.stage_prepared.Goals as goal

pub put_back-requires-clause-order : goal.put_back-requires-clause-order
put_back-requires-clause-order g c =
    ap (λ (i : Image). each_two route_before i.routes) c.in_ok-opened.ensures.image ∙ routes_in_order (image_of c.args.kept.now) c.requires.sound
