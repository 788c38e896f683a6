-- Sheets of which each record is done.
use Rattle.std.specs.Prelude.{◌≡◌, Result, Ok, Err}
use Rattle.lrs_machine.specs.Lines.{Text}
use Rattle.lrs_machine.specs.State.{State}
use Rattle.lrs_sheet_records.specs.declared.fault.SheetFault.{SheetFault}
use Rattle.lrs_sheet_records.specs.declared.sheet.Sheet.TheVariants.{Edits}
use Rattle.lrs_sheet.specs.declared.reply.Tally.{Tally}
use Rattle.lrs_sheet.specs.Trials.{IsTried}

-- no record was refused or known before, and the sheet was read to its end
abbrev pub IsWhole : Result Tally SheetFault → Type 0
IsWhole (Ok tally) = (tally.refused ≡ 0) × (tally.again ≡ 0)
IsWhole (Err fault) = ⊥

-- An edit sheet was tried so from the one state, and made the other.
pub record IsDoneWhole (sheet : Text) (before after : State) : Type 0 where
  pub replies : Text
  pub tally : Tally
  pub tried : IsTried Edits 0 sheet before after replies (Ok tally)
  pub none_refused : tally.refused ≡ 0
  pub none_again : tally.again ≡ 0
