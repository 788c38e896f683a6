use Rattle.std.proofs.Common.{[], ◌∷◌, ◌++◌, List, ap, ◌∙◌}
use Rattle.lrs_image.specs.declared.change.Change.{Change}
use Rattle.lrs_image.proofs.OneChange.{keeps_through}
use Rattle.lrs_image.proofs.commit.keep_one.Goals as goal

pub returns-clause-keeps : goal.returns-clause-keeps
returns-clause-keeps g c =
    keeps_through g.K.Holder c.args.keeper.now c.stage_copy.new.keeper c.commit.new.self _ _ c.commit.result c.stage_copy.ensures.rest
    (c.in_ok-stage_copy.ensures.ok ∙ ap (λ (xs : List Change). xs ++ c.args.change.now ∷ []) c.requires.staged) c.commit.ensures.keeps
