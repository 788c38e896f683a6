-- What a sheet is answered that is tried at a copy of an inventory, and what it makes.
use Rattle.std.specs.Prelude.{◌≡◌, ℕ, List, [], length, Some, Result}
use Rattle.lrs_measure.specs.Limits.{most_assets, most_edits, most_routes}
use Rattle.lrs_machine.specs.Lines.{Text}
use Rattle.lrs_machine.specs.State.{State}
use Rattle.lrs_machine.specs.declared.answer.Limits.{Limits}
use Rattle.lrs_sheet_records.specs.declared.sheet.Sheet.{Sheet}
use Rattle.lrs_sheet.specs.Sheets.{RunsBehind, StandAtFront}
use Rattle.lrs_sheet_records.specs.declared.fault.SheetFault.{SheetFault}
use Rattle.lrs_sheet.specs.declared.reply.Tally.{Tally}

-- an inventory may hold as much as one may hold at all
pub record IsFull (limits : Limits) : Type 0 where
  pub routes : limits.routes ≡ most_routes
  pub assets : limits.assets ≡ most_assets
  pub edits : limits.edits ≡ most_edits

-- The records of a sheet behind those that are passed over are done from the one state, one after the other, and make the other; these are the lines of the replies.
pub record IsTried (kind : Sheet) (passed : ℕ) (text : Text) (before after : State) (replies : Text) (outcome : Result Tally SheetFault) : Type 0 where
  pub limits : Limits
  pub full : IsFull limits
  pub runs : (front : List (List Text)) → StandAtFront text front → length front ≡ passed → RunsBehind front kind 1 limits text before after (Some []) (Some replies) outcome
