-- What holds of the rows of a state holds of the rows that lists of commands leave.
use Rattle.std.proofs.Common.{◌≡◌, true, sym, subst}
use Rattle.std.specs.Prelude.{◌↔◌}
use Rattle.lrs_machine.specs.Image.{state_of}
use Rattle.lrs_machine.specs.Machine.{state_after}
use Rattle.lrs_machine.specs.State.{State}
use Rattle.lrs_promises.specs.DeskLaws.InventoryRows.{rows_of_inventory, has_row, courses_in, HoldAlike, IsMaximal, Tells}
use Rattle.lrs_promises.specs.DeskLaws.LeftRows.{CommandsLeaveMaximalRows, CommandsLeaveTheSameRows, CommandsLeaveFewestRows}
use Rattle.lrs_promises.proofs.DeskLaws.Runs.{rows_are_one}
use Rattle.lrs_promises.proofs.DeskLaws.Maximal.{rows_are_maximal}
use Rattle.lrs_promises.proofs.DeskLaws.Fewest.{none_is_shorter}

pub commands_leave_maximal_rows : CommandsLeaveMaximalRows
commands_leave_maximal_rows limits commands start i left r =
    subst (λ (s : State). (has_row (rows_of_inventory i) r ≡ true) ↔ IsMaximal (courses_in s) s.holds r) left.stands (rows_are_maximal i left.sound r)

pub commands_leave_the_same_rows : CommandsLeaveTheSameRows
commands_leave_the_same_rows limits others commands instead start begin i j left right alike r =
    let first : HoldAlike (state_of i) (state_after others instead begin) = subst (λ (s : State). HoldAlike s (state_after others instead begin)) (sym left.stands) alike in
    rows_are_one i j left.sound right.sound (subst (HoldAlike (state_of i)) (sym right.stands) first) r

pub commands_leave_fewest_rows : CommandsLeaveFewestRows
commands_leave_fewest_rows limits commands start i rows left tells =
    none_is_shorter i rows left.sound (subst (Tells rows) (sym left.stands) tells)
