use Rattle.lrs_element.proofs.Lining.{are_marks-to, are_marks-from}
use Rattle.lrs_element.proofs.marks.Marks.cut.Goals as goal

pub invariant_of-before : goal.invariant_of-before
invariant_of-before c = rw (c.in_ok-marks_to.ensures, c.deref.ensures.value) (are_marks-to c.self.inside.list.items c.args.at c.self.invariant (rw (← c.self.view_is) at c.requires))

pub invariant_of-after : goal.invariant_of-after
invariant_of-after c = rw (c.in_ok-marks_from.ensures, c.deref-2.ensures.value) (are_marks-from c.self.inside.list.items c.args.at c.self.invariant (rw (← c.self.view_is) at c.requires))
