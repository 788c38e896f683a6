-- What an edit sheet makes of the empty inventory.
use Rattle.std.specs.Prelude.{Option, Result}
use Rattle.lrs_machine.specs.Image.{nothing, state_of}
use Rattle.lrs_machine.specs.Lines.{Text}
use Rattle.lrs_machine.specs.declared.answer.Limits.{Limits}
use Rattle.lrs_machine.specs.declared.image.Image.{Image}
use Rattle.lrs_sheet.specs.Sheets.{RunsEdits}
use Rattle.lrs_sheet_records.specs.declared.fault.SheetFault.{SheetFault}
use Rattle.lrs_sheet.specs.declared.reply.Tally.{Tally}
use Rattle.lrs_sheet.specs.Trials.{IsFull}

-- An edit sheet, done on the empty inventory, made this image, and ended so.
pub record IsMadeWith (sheet : Text) (outcome : Result Tally SheetFault) (made : Image) : Type 0 where
  pub limits : Limits
  pub full : IsFull limits
  pub old : Option Text
  pub new : Option Text
  pub runs : RunsEdits limits sheet (state_of nothing) (state_of made) old new outcome

-- ... whatever it was answered
abbrev pub IsMadeBy : Text → Image → Type 0
IsMadeBy sheet made = (outcome : Result Tally SheetFault) × IsMadeWith sheet outcome made
