use Rattle.std.proofs.Common.{sym, subst, ◌∙◌}
use Rattle.std.specs.List.{AllByRecursion}
use Rattle.lrs_image_sound.specs.SweptParts.{IsFilled}
use Rattle.lrs_image_sound.proofs.Excluding.{exclusive_same}
use Rattle.lrs_image_sound.proofs.Rearranged.{same_filled, same_held}
use Rattle.lrs_image_sound.proofs.exclusive.keep_exclusive.Goals as goal

pub keyed_parts-requires-clause-filled : goal.keyed_parts-requires-clause-filled
keyed_parts-requires-clause-filled c = subst (AllByRecursion IsFilled) (sym c.deref.ensures.value) (same_filled c.args.held.items c.into_line_order-sorted.result.items c.into_line_order-sorted.ensures.permutation c.requires.filled)

pub returns : goal.returns
returns c =
    let assets = c.args.assets.now in
    let classes = c.args.classes.now in
    let sorted = c.into_line_order-sorted.result.items in
    let keyed = c.in_ok-keyed.keyed.items in
    λ links routes h. c.do_share_nothing.ensures
    ∙ sym (exclusive_same links classes assets routes sorted keyed c.requires.assets (same_held c.args.held.items sorted c.into_line_order-sorted.ensures.permutation links assets routes h) (rw c.deref.ensures.value at c.in_ok-keyed.ensures))
