use Rattle.std.proofs.Common.{List, map, subst, sym}
use Rattle.std.specs.List.Sorted.{IsPermutation}
use Rattle.lrs_image.specs.OpenLists.{image_of}
use Rattle.lrs_drafts.specs.declared.holdings.ToldStretch.{ToldStretch}
use Rattle.lrs_drafts.specs.Holdings.{told}
use Rattle.lrs_drafts.proofs.Holding.{exchanged}
use Rattle.lrs_drafts.proofs.holdings.are_exchanged.Goals as goal

pub returns : goal.returns
returns c =
    exchanged (image_of c.args.before.now) (image_of c.args.after.now) c.in_ok-lost.lost.rows c.in_ok-gained.gained.rows c.deref.result.now c.deref-2.result.now c.are_same_told.result c.in_ok-lost.ensures c.in_ok-gained.ensures
    (subst (λ (xs : List ToldStretch). IsPermutation (map told c.in_ok-lost.lost.rows) xs) (sym c.deref.ensures.value) c.in_ok-lost_told.ensures)
    (subst (λ (xs : List ToldStretch). IsPermutation (map told c.in_ok-gained.gained.rows) xs) (sym c.deref-2.ensures.value) c.in_ok-gained_told.ensures)
    c.are_same_told.ensures
