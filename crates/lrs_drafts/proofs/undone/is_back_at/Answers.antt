use Rattle.std.proofs.Common.{◌∙◌, subst}
use Rattle.lrs_machine.specs.Sound.{IsSound}
use Rattle.lrs_image.specs.OpenLists.{image_of}
use Rattle.lrs_difference.proofs.KnownRows.{told_as}
use Rattle.lrs_drafts.proofs.BeforeFirst.{undone}
use Rattle.lrs_drafts.proofs.undone.is_back_at.Goals as goal

pub returns : goal.returns
returns g c =
    told_as c.is_back.result _ _
    (λ back said. undone c.args.from c.args.number c.args.first (image_of c.args.before.now) c.args.former.now.image (image_of c.kept.result.now) (image_of c.args.after.now) back c.requires.first c.requires.not_before c.requires.not_behind (c.kept.ensures.image ∙ c.inventory-inventory.ensures) (subst IsSound c.inventory-inventory.ensures c.prove_sound.ensures) c.requires.made said)
    c.is_back.ensures
