use Rattle.std.proofs.lemmas.List.Sorted.{IsPermutation-refl}
use Rattle.lrs_image_sound.proofs.Sweeping.{sweep_answer}
use Rattle.lrs_image_sound.proofs.sweep.do_share_nothing_in_order.Goals as goal

pub returns : goal.returns
returns c =
    let parts = c.args.sorted.now in
    sweep_answer parts parts c.neighbours_share_nothing.result c.requires.filled (IsPermutation-refl parts) c.requires.order c.neighbours_share_nothing.ensures.all c.neighbours_share_nothing.ensures.some
