use Rattle.std.proofs.Common.{◌≡◌, ◌+◌, drop, None}
use Rattle.std.specs.Option.{option_map}
use Rattle.lrs_element.specs.Marks.{first_bad_mark}
use Rattle.lrs_element.proofs.marks.first_bad_mark.Given as goal

abbrev pub invariant-loop-i : goal.invariant-loop-i
invariant-loop-i l = option_map (λ k. k + l.i) (first_bad_mark l.len l.before (drop l.i l.marks)) ≡ first_bad_mark l.len None l.marks
