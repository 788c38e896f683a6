use Rattle.lrs_element.proofs.Apart.{repeat_answer}
use Rattle.lrs_element.proofs.checks.have_repeat.Goals as goal

pub returns : goal.returns
returns c = repeat_answer c.args.pieces.now c.in_ok-sorted.sorted.items c.neighbours_meet.result c.requires c.in_ok-sorted.ensures.permutation c.in_ok-sorted.ensures.sorted
    (rw c.deref.ensures.value at c.neighbours_meet.ensures.meet) (rw c.deref.ensures.value at c.neighbours_meet.ensures.apart)
