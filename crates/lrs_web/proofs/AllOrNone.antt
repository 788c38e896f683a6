-- A sheet that is done as a whole or not at all.
use Rattle.std.proofs.Common.{◌≡◌, ◌⊎◌, ◌∙◌, Result, Ok, Err, IfOk, false, inl, inr, subst}
use Rattle.lrs_machine.specs.Image.{state_of}
use Rattle.lrs_machine.specs.Lines.{Text}
use Rattle.lrs_machine.specs.declared.image.Image.{Image}
use Rattle.lrs_machine.specs.declared.table.Table.{Table}
use Rattle.lrs_sheet.specs.DeskView.{DeskView}
use Rattle.lrs_sheet.specs.Trials.{IsTried}
use Rattle.lrs_sheet.specs.declared.reply.Tally.{Tally}
use Rattle.lrs_sheet_records.specs.declared.fault.SheetFault.{SheetFault}
use Rattle.lrs_sheet_records.specs.declared.sheet.Sheet.{Sheet}
use Rattle.lrs_web_requests.specs.Text.{Answer, empty_answer}
use Rattle.lrs_web.specs.Sheets.{DoesAllOrNone, DoesTried, IsAccepted, IsUndone, RunsSheet, WasTried, refusal_after}

-- what was tried at a copy of an image was tried from its state
pub was_tried : {X E : Type 0} (replies : X → Text) (outcome : X → Result Tally SheetFault) (sheet : Sheet) (input : Text) (copy image made : Image) (result : Result X E) → copy ≡ image
    → IfOk result (λ trial. IsTried sheet 0 input (state_of copy) (state_of made) (replies trial) (outcome trial)) → IfOk result (λ trial. WasTried sheet input (state_of image) (replies trial) (outcome trial))
was_tried replies outcome sheet input copy image made (Ok trial) same tried = (state_of made, subst (λ (i : Image). IsTried sheet 0 input (state_of i) (state_of made) (replies trial) (outcome trial)) same tried)
was_tried replies outcome sheet input copy image made (Err e) same tried = tt

-- a refusal that may give way to an empty 503, and does so once more
pub limited_so : (outcome : Result Tally SheetFault) (replies : Text) (due given : Answer) → (due ≡ refusal_after outcome replies) ⊎ (due ≡ empty_answer 503) → (given ≡ due) ⊎ (given ≡ empty_answer 503)
    → (given ≡ refusal_after outcome replies) ⊎ (given ≡ empty_answer 503)
limited_so outcome replies due given (inl is) (inl same) = inl (same ∙ is)
limited_so outcome replies due given (inr none) (inl same) = inr (same ∙ none)
limited_so outcome replies due given is (inr none) = inr none

module _ {K : Type 0} (holds : K → Result Image Table → Type 0) (sheet : Sheet) (input replies : Text) (outcome : Result Tally SheetFault) (old new : DeskView K) (answer : Answer) where
  -- nothing was refused
  pub done_so : IsAccepted outcome → RunsSheet holds sheet false input old answer new ⊎ IsUndone old answer new → DoesTried holds sheet input replies outcome old answer new ⊎ IsUndone old answer new
  done_so accepted (inl runs) = inl (inl (accepted, runs))
  done_so accepted (inr undone) = inr undone

  -- something was
  pub refused_so : (IsAccepted outcome → ⊥) → new ≡ old → (answer ≡ refusal_after outcome replies) ⊎ (answer ≡ empty_answer 503) → DoesTried holds sheet input replies outcome old answer new ⊎ IsUndone old answer new
  refused_so refused same (inl is) = inl (inr (refused, same, is))
  refused_so refused same (inr none) = inr (same, none)

  -- the sheet was tried at this desk
  pub tried_so : old.is_ahead ≡ false → WasTried sheet input (state_of old.image) replies outcome → DoesTried holds sheet input replies outcome old answer new ⊎ IsUndone old answer new → DoesAllOrNone holds sheet input old answer new
  tried_so behind tried (inl does) = inl (behind, replies, outcome, tried, does)
  tried_so behind tried (inr undone) = inr undone
