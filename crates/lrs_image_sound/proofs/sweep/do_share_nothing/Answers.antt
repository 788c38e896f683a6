use Rattle.lrs_image_sound.proofs.Sweeping.{sweep_answer}
use Rattle.lrs_image_sound.proofs.sweep.do_share_nothing.Goals as goal

pub returns : goal.returns
returns c = sweep_answer c.args.parts.items c.into_line_order-sorted.result.items c.neighbours_share_nothing.result c.requires.filled c.into_line_order-sorted.ensures.permutation c.into_line_order-sorted.ensures.sorted
    (rw c.deref.ensures.value at c.neighbours_share_nothing.ensures.all) (rw c.deref.ensures.value at c.neighbours_share_nothing.ensures.some)
