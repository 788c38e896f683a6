use Rattle.std.proofs.Common.{◌∙◌}
use Rattle.lrs_image.specs.OpenLists.{image_of}
use Rattle.lrs_drafts.proofs.Holding.{same_held}
use Rattle.lrs_drafts.proofs.holdings.holds_what_held.Goals as goal

pub returns : goal.returns
returns c =
    same_held (image_of c.args.before.now) (image_of c.args.after.now) c.args.asset c.args.number c.get.result c.get-2.result c.deref.result.now c.deref-2.result.now c.are_same_stretches.result c.get.ensures.number c.get-2.ensures.number
    (c.deref.ensures.value ∙ c.in_ok-held_before.ensures) (c.deref-2.ensures.value ∙ c.in_ok-held_after.ensures) c.are_same_stretches.ensures
