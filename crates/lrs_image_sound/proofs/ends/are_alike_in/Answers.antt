use Rattle.std.proofs.Common.{◌≡◌, ◌++◌, filter, sym, subst}
use Rattle.std.specs.List.{AllByRecursion}
use Rattle.std.proofs.lemmas.List.Elements.{filter-append}
use Rattle.std.proofs.lemmas.Slice.Eq.{slice_eq-Decides}
use Rattle.lrs_image_sound.specs.SweptParts.{IsFilled}
use Rattle.lrs_image_sound.specs.Pairs.{is_in, AreHadAlike}
use Rattle.lrs_image_sound.proofs.Ending.{alike_from_same, same_from_alike, end_eq}
use Rattle.lrs_image_sound.proofs.Chunked.{alike_in, alike_of, filled_in}
use Rattle.lrs_image_sound.proofs.ends.are_alike_in.Goals as goal

pub returns : goal.returns
returns c =
    let chunk = c.args.chunk in
    let xs = c.args.first.now ++ c.args.more.now in
    let all = c.args.all.now in
    let parts = filter (is_in chunk) c.args.first.now ++ filter (is_in chunk) c.args.more.now in
    let whole = filter (is_in chunk) all in
    let split : filter (is_in chunk) xs ≡ parts = filter-append (is_in chunk) c.args.first.now c.args.more.now in
    let filled : AllByRecursion IsFilled parts = subst (AllByRecursion IsFilled) split (filled_in chunk xs c.requires.filled) in
    let filled_all = filled_in chunk all c.requires.filled_all in
    let there = c.in_ok-there.there.items in
    let back = c.in_ok-back.back.items in
    let a = alike_from_same parts whole filled filled_all there back c.in_ok-there.ensures.permutation c.in_ok-back.ensures.permutation in
    let b = same_from_alike parts whole filled filled_all there back c.in_ok-there.ensures.permutation c.in_ok-back.ensures.permutation c.in_ok-there.ensures.sorted c.in_ok-back.ensures.sorted in
    let t = slice_eq-Decides end_eq there back c.eq.result c.eq.ensures in (
      λ h. alike_in chunk xs all (subst (λ z. AreHadAlike z whole) (sym split) (a (t.0 h))),
      λ h. t.1 (b (subst (λ z. AreHadAlike z whole) split (alike_of chunk xs all h))),
    )
