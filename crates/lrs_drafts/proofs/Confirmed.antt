-- A sheet that is done on a copy is a draft.
use Rattle.std.proofs.Common.{◌≡◌, subst, Result, Ok, Err}
use Rattle.lrs_machine.specs.Image.{state_of}
use Rattle.lrs_machine.specs.Lines.{Text}
use Rattle.lrs_machine.specs.Sound.{IsSound}
use Rattle.lrs_machine.specs.State.{State}
use Rattle.lrs_machine.specs.declared.image.Image.{Image}
use Rattle.lrs_sheet_records.specs.declared.fault.SheetFault.{SheetFault}
use Rattle.lrs_sheet_records.specs.declared.sheet.Sheet.TheVariants.{Edits}
use Rattle.lrs_sheet.specs.declared.reply.Tally.{Tally}
use Rattle.lrs_sheet.specs.Trials.{IsTried}
use Rattle.lrs_drafts.specs.declared.draft.Draft.{Draft}
use Rattle.lrs_drafts.specs.Drafts.{Intends, IsDraft}
use Rattle.lrs_drafts.specs.Wholes.{IsDoneWhole, IsWhole}

-- a sheet of which each record was done
pub done_whole : (sheet : Text) (before after : State) (replies : Text) (outcome : Result Tally SheetFault) → IsTried Edits 0 sheet before after replies outcome → IsWhole outcome
    → IsDoneWhole sheet before after
done_whole sheet before after replies (Ok tally) tried whole = record { replies = replies; tally = tally; tried = tried; none_refused = whole.0; none_again = whole.1 }
done_whole sheet before after replies (Err fault) tried whole = absurd whole

-- ... and which made what is intended
pub is_draft : (draft : Draft) (i copied made : Image) (sheet : Text) → copied ≡ i → IsDoneWhole sheet (state_of copied) (state_of made) → IsSound made → Intends draft i made → IsDraft draft i sheet
is_draft draft i copied made sheet same done sound intended =
    let at = subst (λ (j : Image). IsDoneWhole sheet (state_of j) (state_of made)) same done in
    record {
      made = made;
      sound = sound;
      replies = at.replies;
      tally = at.tally;
      tried = at.tried;
      none_refused = at.none_refused;
      none_again = at.none_again;
      intended = intended;
    }
