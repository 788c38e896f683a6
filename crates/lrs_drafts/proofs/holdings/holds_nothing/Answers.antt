use Rattle.std.proofs.Common.{◌∙◌}
use Rattle.lrs_image.specs.OpenLists.{image_of}
use Rattle.lrs_drafts.proofs.Holding.{nothing_held}
use Rattle.lrs_drafts.proofs.holdings.holds_nothing.Goals as goal

pub returns : goal.returns
returns c =
    nothing_held (image_of c.args.kept.now) c.args.asset c.get.result c.deref.result.now c.none_of.result (c.deref.ensures.value ∙ c.in_ok-held.ensures) c.get.ensures.number c.none_of.ensures
