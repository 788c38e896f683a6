use Rattle.std.proofs.Common.{Err, ap, ◌∙◌}
use Rattle.lrs_measure.specs.Lists.{each_two}
use Rattle.lrs_machine.specs.declared.image.Image.{Image}
use Rattle.lrs_machine.specs.Sound.{route_before}
use Rattle.lrs_image.specs.OpenLists.{image_of}
use Rattle.lrs_image.proofs.OneChange.{failed_one, kept_one}
use Rattle.lrs_image.proofs.Tables.{routes_in_order}
use Rattle.lrs_image.proofs.commit.keep_prepared.Goals as goal

pub put_back-requires-clause-order : goal.put_back-requires-clause-order
put_back-requires-clause-order g c =
    ap (λ (i : Image). each_two route_before i.routes) c.in_ok-opened.ensures.image ∙ routes_in_order (image_of c.args.kept.now) c.requires.sound

pub returns-in-Ok-clause-keeps : goal.returns-in-Ok-clause-keeps
returns-in-Ok-clause-keeps g c =
    kept_one g.K.Holder c.args.change.now (image_of c.args.kept.now) c.args.keeper.now c.keep_one.new.keeper c.requires.has.content _ _ c.in-Ok.ensures.keeps

pub returns-in-Err-clause-keeps : goal.returns-in-Err-clause-keeps
returns-in-Err-clause-keeps g c =
    failed_one g.K.Holder c.args.change.now (image_of c.args.kept.now) c.args.keeper.now c.keep_one.new.keeper c.requires.has.content _ c.in-Err.ensures.keeps
    (λ e. c.in-Err.ensures.cause (ap Err e))
