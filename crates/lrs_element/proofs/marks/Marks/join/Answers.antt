use Rattle.lrs_element.proofs.Lining.{are_marks-joined}
use Rattle.lrs_element.proofs.marks.Marks.join.Goals as goal

pub invariant_of-self : goal.invariant_of-self
invariant_of-self c = rw (c.in_ok-list.ensures, c.deref.ensures.value, c.deref-2.ensures.value)
    (are_marks-joined c.self.inside.list.items c.other.inside.list.items c.self.invariant c.other.invariant (rw (← c.self.view_is, ← c.other.view_is) at c.requires.few) (rw (← c.self.view_is, ← c.other.view_is) at c.requires.measures))
