use Rattle.std.proofs.lemmas.List.Sorted.{IsPermutation-refl}
use Rattle.lrs_image_sound.proofs.Summed.{sums_answer}
use Rattle.lrs_image_sound.proofs.sums.have_few_places.Goals as goal

pub returns : goal.returns
returns c =
    let parts = c.args.sorted.now in
    sums_answer parts parts c.args.most c.sums_are_within.result (IsPermutation-refl parts) c.sums_are_within.ensures.within c.sums_are_within.ensures.beyond
