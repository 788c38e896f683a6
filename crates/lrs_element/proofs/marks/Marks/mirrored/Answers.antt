use Rattle.lrs_element.proofs.Lining.{are_marks-mirrored}
use Rattle.lrs_element.proofs.marks.Marks.mirrored.Goals as goal

pub invariant_of-result : goal.invariant_of-result
invariant_of-result c = rw (c.in_ok-list.ensures, c.deref.ensures.value) (are_marks-mirrored c.self.inside.list.items c.self.invariant)
