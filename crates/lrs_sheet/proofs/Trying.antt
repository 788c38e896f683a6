-- A sheet that is tried at a copy, and a log that is done at an empty desk.
use Rattle.std.proofs.Common.{◌≡◌, ℕ, List, [], Option, Some, None, Result, subst}
use Rattle.std.specs.Prelude.{IfSome}
use Rattle.lrs_machine.specs.Image.{nothing, state_of}
use Rattle.lrs_machine.specs.declared.image.Image.{Image}
use Rattle.lrs_machine.specs.declared.table.Table.{Table}
use Rattle.lrs_sheet_records.specs.declared.fault.SheetFault.{SheetFault}
use Rattle.lrs_sheet_records.specs.declared.sheet.Sheet.{Sheet}
use Rattle.lrs_sheet_records.specs.declared.sheet.Sheet.TheVariants.{Edits}
use Rattle.lrs_sheet.specs.DeskView.{DeskView}
use Rattle.lrs_sheet.specs.declared.reply.Tally.{Tally}
use Rattle.lrs_sheet.specs.MadeLogs.{IsMadeWith}
use Rattle.lrs_sheet.specs.Runs.{IsRunBehind, IsWholeRun}
use Rattle.lrs_sheet.specs.Sheets.{RunsBehind, RunsEdits}
use Rattle.lrs_sheet.specs.Trials.{IsFull, IsTried}

-- what is run one by one at a desk with full limits is tried
pub tried : {K : Type 0} (holds : K → Result Image Table → Type 0) (kind : Sheet) (passed : ℕ) (known : Option (List ℕ)) (before after : DeskView K) (first replies : List ℕ) (outcome : Result Tally SheetFault)
    → first ≡ [] → IsFull before.limits → IsRunBehind holds (record { sheet = kind; together = 1; passed = passed }) known before after (Some first) (Some replies) outcome
    → IfSome known (λ text. IsTried kind passed text (state_of before.image) (state_of after.image) replies outcome)
tried holds kind passed None before after first replies outcome empty full ran = tt
tried holds kind passed (Some text) before after first replies outcome empty full ran = record {
  limits = before.limits;
  full = full;
  runs = λ front at count. subst (λ (xs : List ℕ). RunsBehind front kind 1 before.limits text (state_of before.image) (state_of after.image) (Some xs) (Some replies) outcome) empty (ran.runs front at count);
}

-- what an edit sheet makes at a desk with full limits over the empty inventory
pub made : {K : Type 0} (holds : K → Result Image Table → Type 0) (known : Option (List ℕ)) (before after : DeskView K) (old new : Option (List ℕ)) (outcome : Result Tally SheetFault)
    → before.image ≡ nothing → IsFull before.limits → IsWholeRun holds Edits 1 known before after old new outcome
    → IfSome known (λ text. IsMadeWith text outcome after.image)
made holds None before after old new outcome fresh full ran = tt
made holds (Some text) before after old new outcome fresh full ran = record {
  limits = before.limits;
  full = full;
  old = old;
  new = new;
  runs = subst (λ (i : Image). RunsEdits before.limits text (state_of i) (state_of after.image) old new outcome) fresh ran.runs;
}
