use Rattle.lrs_image.specs.declared.keeper.CommitFault.TheVariants.{Memory, Store}
use Rattle.lrs_image.specs.OpenLists.{image_of}
use Rattle.lrs_image.proofs.OneChange.{failed_as, kept_as}
use Rattle.lrs_image.proofs.commit.make_change.Goals as goal

pub returns-in-Ok-clause-keeps : goal.returns-in-Ok-clause-keeps
returns-in-Ok-clause-keeps g c =
    kept_as g.K.Holder Memory Store Memory Store c.args.change (image_of c.args.kept.now) c.args.keeper.now c.keep_prepared.new.keeper _ _ c.in-Ok.ensures.keeps

pub returns-in-Err-clause-keeps : goal.returns-in-Err-clause-keeps
returns-in-Err-clause-keeps g c =
    failed_as g.K.Holder Memory Store Memory Store c.args.change (image_of c.args.kept.now) c.args.keeper.now c.keep_prepared.new.keeper _ _ (λ e. e) (λ e. e) (λ e. e) c.in-Err.ensures.keeps
