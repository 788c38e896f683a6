-- What brings an inventory back to where it stood: a join after a split, and a turn after a turn.
use Rattle.std.specs.Prelude.{◌≡◌, ℕ, [], ◌∷◌, Ok}
use Rattle.lrs_measure.specs.Texts.{Name}
use Rattle.lrs_machine.specs.declared.answer.Answer.TheVariants.{Done}
use Rattle.lrs_machine.specs.declared.answer.Limits.{Limits}
use Rattle.lrs_machine.specs.declared.command.Command.{Command}
use Rattle.lrs_machine.specs.declared.command.Command.TheVariants as verb
use Rattle.lrs_machine.specs.declared.image.Image.{Image}
use Rattle.lrs_machine.specs.Image.{state_of}
use Rattle.lrs_machine.specs.Machine.{attempt, Record, answers, state_after}
use Rattle.lrs_machine.specs.Sound.{IsSound}
use Rattle.lrs_machine.specs.State.{State}
use Rattle.lrs_promises.specs.DeskLaws.Rows.{rows_by_name}

-- After a command that passes, another one passes too, and all is as it was: routes, referents, what is held, and both ledgers.
abbrev pub IsUndoneBy : Command → Command → Type 0
IsUndoneBy command back = (i : Image) (m n : ℕ) (t : State) → IsSound i → attempt m command (state_of i) ≡ Ok t → attempt n back t ≡ Ok (state_of i)

-- A route that is split is as it was once its parts are joined, in the order in which they lie.
abbrev pub SplitIsUndone : Type 0
SplitIsUndone = (route name : Name) (at : ℕ) → IsUndoneBy (verb.Split route at name) (verb.Join route name)

-- A route that is turned is as it was once it is turned again.
abbrev pub TurnIsUndone : Type 0
TurnIsUndone = (route : Name) → IsUndoneBy (verb.Turn route) (verb.Turn route)

-- The second of two inventories is what the first becomes by both commands under their keys, and both are done.
pub record BecomesBy (limits : Limits) (first second : Record) (i j : Image) (m n : ℕ) : Type 0 where
  pub done : answers limits (first ∷ second ∷ []) (state_of i) ≡ Done m ∷ Done n ∷ []
  pub state : state_of j ≡ state_after limits (first ∷ second ∷ []) (state_of i)

-- By both commands, under whatever keys, an inventory becomes one of the same rows.
abbrev pub LeaveTheRows : Command → Command → Type 0
LeaveTheRows command back = (limits : Limits) (key other : Name) (i j : Image) (m n : ℕ) → IsSound i → IsSound j
    → BecomesBy limits (record { key = key; command = command }) (record { key = other; command = back }) i j m n → rows_by_name j ≡ rows_by_name i

abbrev pub SplitAndJoinLeaveTheRows : Type 0
SplitAndJoinLeaveTheRows = (route name : Name) (at : ℕ) → LeaveTheRows (verb.Split route at name) (verb.Join route name)

abbrev pub TurnsLeaveTheRows : Type 0
TurnsLeaveTheRows = (route : Name) → LeaveTheRows (verb.Turn route) (verb.Turn route)
