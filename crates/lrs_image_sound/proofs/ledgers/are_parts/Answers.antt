use Rattle.std.proofs.Common.{sym, ◌∙◌}
use Rattle.lrs_image_sound.proofs.Rearranged.{same_parts}
use Rattle.lrs_image_sound.proofs.ledgers.are_parts.Goals as goal

pub returns : goal.returns
returns c = (rw c.deref.ensures.value at c.are_parts_in_order.ensures) ∙ sym (same_parts c.args.parts.now c.in_ok-sorted.sorted.items c.in_ok-sorted.ensures.permutation c.args.links.now c.args.assets.now)
