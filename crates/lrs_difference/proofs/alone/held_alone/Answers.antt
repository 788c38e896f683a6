use Rattle.std.proofs.Common.{List, subst, sym}
use Rattle.std.specs.List.Sorted.{IsPermutation}
use Rattle.lrs_difference.specs.declared.link_stretches.HeldStretch.{HeldStretch}
use Rattle.lrs_difference.proofs.NearStretches.{alone_of_sorted, if_ok}
use Rattle.lrs_difference.proofs.alone.held_alone.Goals as goal

pub returns : goal.returns
returns c =
    let left = c.args.left.now in
    let right = c.args.right.now in
    let one = c.deref.result.now in
    let other = c.deref-2.result.now in
    if_ok c.sorted_alone.result (λ rows. alone_of_sorted left right one other rows.items
    (subst (λ (z : List HeldStretch). IsPermutation left z) (sym c.deref.ensures.value) c.in_ok-sorted_left.ensures.same)
    (subst (λ (z : List HeldStretch). IsPermutation right z) (sym c.deref-2.ensures.value) c.in_ok-sorted_right.ensures.same))
    c.sorted_alone.ensures
