-- The rows that lists of commands leave: a function of the courses and of what is held then, whatever the commands were.
use Rattle.std.specs.Prelude.{◌≡◌, ◌↔◌, true, List}
use Rattle.lrs_machine.specs.declared.answer.Limits.{Limits}
use Rattle.lrs_machine.specs.declared.image.Image.{Image}
use Rattle.lrs_machine.specs.Image.{state_of}
use Rattle.lrs_machine.specs.Machine.{Record, state_after}
use Rattle.lrs_machine.specs.Sound.{IsSound}
use Rattle.lrs_machine.specs.State.{State}
use Rattle.lrs_promises.specs.DeskLaws.InventoryRows.{Row, rows_of_inventory, has_row, courses_in, HoldAlike, IsMaximal, Tells, IsFewest}

-- the image is sound, and stands for the state after these commands
pub record Leaves (limits : Limits) (commands : List Record) (start : State) (i : Image) : Type 0 where
  pub sound : IsSound i
  pub stands : state_of i ≡ state_after limits commands start

-- After any commands, the rows are the maximal stretches of what is held then.
abbrev pub CommandsLeaveMaximalRows : Type 0
CommandsLeaveMaximalRows = (limits : Limits) (commands : List Record) (start : State) (i : Image) → Leaves limits commands start i → (r : Row)
    → (has_row (rows_of_inventory i) r ≡ true) ↔ IsMaximal (courses_in (state_after limits commands start)) (state_after limits commands start).holds r

-- Two lists of commands after which courses and holdings are the same leave the same rows, whatever states they began with
-- and whatever the limits were.
abbrev pub CommandsLeaveTheSameRows : Type 0
CommandsLeaveTheSameRows = (limits other_limits : Limits) (commands other_commands : List Record) (start other_start : State) (i j : Image)
    → Leaves limits commands start i → Leaves other_limits other_commands other_start j
    → HoldAlike (state_after limits commands start) (state_after other_limits other_commands other_start)
    → (r : Row) → has_row (rows_of_inventory i) r ≡ has_row (rows_of_inventory j) r

-- After any commands, no list of rows that tells the state reached is shorter than the rows left.
abbrev pub CommandsLeaveFewestRows : Type 0
CommandsLeaveFewestRows = (limits : Limits) (commands : List Record) (start : State) (i : Image) (rows : List Row) → Leaves limits commands start i
    → Tells rows (state_after limits commands start) → IsFewest (rows_of_inventory i) rows
