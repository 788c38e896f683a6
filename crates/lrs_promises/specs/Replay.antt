-- The log of an inventory, done as an edit sheet, makes that inventory again.
use Rattle.std.specs.Prelude.{◌≡◌, ◌≤◌, ◌+◌, ℕ, List, [], ◌∷◌, ◌++◌, length, Some, None, Ok}
use Rattle.std.specs.List.{AllByRecursion}
use Rattle.lrs_machine.specs.Lines.{Text}
use Rattle.lrs_machine.specs.Machine.{Record, state_after}
use Rattle.lrs_machine.specs.State.{Edit, State, nothing_known}
use Rattle.lrs_machine.specs.declared.answer.Answer.TheVariants.{Done}
use Rattle.lrs_machine.specs.declared.answer.Limits.{Limits}
use Rattle.lrs_sheet.specs.Laws.{Outcome}
use Rattle.lrs_sheet.specs.Replies.{lines_of, tally_of}
use Rattle.lrs_sheet_records.specs.Rows.{max_records}
use Rattle.lrs_sheet.specs.Sheets.{AnswersAll, Runs}
use Rattle.lrs_sheet.specs.declared.reply.Reply.{Reply}
use Rattle.lrs_sheet_records.specs.declared.sheet.Sheet.TheVariants.{Edits}
use Rattle.lrs_sheet_log.specs.Log.{edits_between, edits_text}
use Rattle.lrs_sheet_log.specs.Laws.{IsPrintable}

-- each edit is done, under the numbers that follow this one
abbrev pub done_replies : ℕ → List Edit → List Reply
done_replies number [] = []
done_replies number (e ∷ edits) = record { key = Some e.key; answer = Done (number + 1) } ∷ done_replies (number + 1) edits

-- The log of these edits is answered so, as an edit sheet, and the state after it is the other: each record is done, under the number of its edit.
abbrev pub AnswersEachDone : Limits → State → List Edit → State → Text → Type 0
AnswersEachDone limits before edits after old =
    AnswersAll [] Edits limits (edits_text edits) before after (Some old) (Some (old ++ lines_of (done_replies (length before.done) edits))) (tally_of (done_replies (length before.done) edits))

-- The log of these edits, done as an edit sheet, makes the one state of the other.
pub record MakesAgain (limits : Limits) (before : State) (edits : List Edit) (after : State) : Type 0 where
  pub answered : (old : Text) → AnswersEachDone limits before edits after old
  -- so every run of that sheet that ends without a fault leaves that state, and answers each record so
  pub every_run : (together : ℕ) (old : Text) (run : Outcome) → Runs Edits together limits (edits_text edits) before run.state (Some old) (Some run.written) (Ok run.tally)
      → (run.state ≡ after) × (run.tally ≡ tally_of (done_replies (length before.done) edits))

-- The log of the state that commands make, done on the empty inventory, makes that state again.
abbrev pub LogMakesState : Type 0
LogMakesState = (limits : Limits) (commands : List Record) (after : State) → AllByRecursion IsPrintable commands → after ≡ state_after limits commands nothing_known
    → length after.done ≤ max_records → MakesAgain limits nothing_known after.done after

-- A part of the log goes on with a copy: from the edit behind those of a state on, done on that state, it makes the state that further commands made of it.
abbrev pub PartGoesOn : Type 0
PartGoesOn = (limits : Limits) (commands : List Record) (before after : State) → AllByRecursion IsPrintable commands → after ≡ state_after limits commands before
    → length after.done ≤ max_records → MakesAgain limits before (edits_between (length before.done + 1) None after.done) after
