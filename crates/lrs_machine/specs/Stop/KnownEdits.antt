-- Which edit of a state a command is.
use Rattle.std.specs.Prelude.{ℕ, ◌+◌, Bool, if◌then◌else◌, Option, Some, None, is_some}
use Rattle.std.specs.Option.{option_and_then}
use Rattle.lrs_measure.specs.Texts.{same_name}
use Rattle.lrs_machine.specs.Lines.{line_of}
use Rattle.lrs_machine.specs.State.{State}
use Rattle.lrs_machine.specs.Machine.{Record, place_of_key, line_at}

-- the number of the edit that has the command's key, if its line is the command's
abbrev pub edit_of : State → Record → Option ℕ
edit_of s r = option_and_then (λ place. if same_name (line_at place s.done) (line_of r.command) then Some (place + 1) else None) (place_of_key r.key s.done)

-- whether the command is an edit of the state
abbrev pub is_edit : State → Record → Bool
is_edit s r = is_some (edit_of s r)
