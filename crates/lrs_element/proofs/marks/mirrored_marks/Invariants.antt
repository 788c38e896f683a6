use Rattle.std.proofs.Common.{◌≡◌, drop, map}
use Rattle.std.specs.Prelude.{reverse}
use Rattle.lrs_element.proofs.Lining.{mirror}
use Rattle.lrs_element.proofs.marks.mirrored_marks.Given as goal

abbrev pub invariant-loop-i : goal.invariant-loop-i
invariant-loop-i l = l.out.items ≡ reverse (map (mirror l.end.chainage l.ends) (drop l.i l.marks))
