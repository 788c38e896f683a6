use Rattle.std.proofs.Common.{◌≡◌, ◌-◌, ◌<◌, ◌≤◌, [], true, None, take, length}
use Rattle.std.specs.Prelude.{is_some}
use Rattle.lrs_element.specs.Course.{first_repeated}
use Rattle.lrs_element.proofs.checks.first_repeated.Given as goal

abbrev pub invariant-loop-clean : goal.invariant-loop-clean
invariant-loop-clean l = record {
  order : l.clean < l.repeats;
  within : l.repeats ≤ length l.pieces;
  clean : first_repeated [] (take l.clean l.pieces) ≡ None;
  repeats : is_some (first_repeated [] (take l.repeats l.pieces)) ≡ true;
}

abbrev pub decreases-loop-clean : goal.decreases-loop-clean
decreases-loop-clean l = l.repeats - l.clean
