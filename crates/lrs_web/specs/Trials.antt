-- What a sheet over HTTP is answered that is tried.
use Rattle.std.specs.Prelude.{◌≡◌, ◌⊎◌, true, List, Option, Some, None, Result, Ok, Err}
use Rattle.std.specs.Option.{option_map_or}
use Rattle.lrs_machine.specs.Image.{state_of}
use Rattle.lrs_machine.specs.Lines.{Text}
use Rattle.lrs_machine.specs.Sound.{IsSound}
use Rattle.lrs_machine.specs.declared.image.Image.{Image}
use Rattle.lrs_difference.specs.Text.{difference_text}
use Rattle.lrs_sheet.specs.DeskView.{DeskView}
use Rattle.lrs_sheet.specs.Trials.{IsTried}
use Rattle.lrs_sheet.specs.declared.reply.Tally.{Tally}
use Rattle.lrs_sheet_records.specs.declared.fault.SheetFault.{SheetFault}
use Rattle.lrs_sheet_records.specs.declared.fault.SheetFault.TheVariants as fault
use Rattle.lrs_sheet_records.specs.declared.sheet.Sheet.{Sheet}
use Rattle.lrs_sheet_advice.specs.declared.advice_list.AdviceItem.{AdviceItem}
use Rattle.lrs_web_requests.specs.Text.{Answer, empty_answer}
use Rattle.lrs_web_replies.specs.Trials.{Outcome, trial_answer}
use Rattle.lrs_web_replies.specs.declared.trial.TrialFault.TheVariants as told

-- How a trial ended, where that is told. Of other faults the sheet is not the cause.
abbrev pub outcome_told : Result Tally SheetFault → Option Outcome
outcome_told (Ok tally) = Some (Ok (record { done = tally.done; again = tally.again; refused = tally.refused }))
outcome_told (Err fault.BadHeader) = Some (Err told.BadHeader)
outcome_told (Err fault.BadCsv) = Some (Err told.BadCsv)
outcome_told (Err fault.Read) = None
outcome_told (Err fault.Write) = None
outcome_told (Err (fault.Desk e)) = None
outcome_told (Err fault.Memory) = None

-- The reply to a sheet whose trial ended so: the lines of its replies, this advice, and the lines of this difference.
abbrev pub answer_after_trial : Result Tally SheetFault → Text → List AdviceItem → Text → Answer
answer_after_trial outcome replies advice difference = option_map_or (λ ended. trial_answer ended replies advice difference) (outcome_told outcome) (empty_answer 503)

-- ... with some advice; where there is no room for it, there is an empty 503 in its place
abbrev pub IsAnswerAfterTrial : Result Tally SheetFault → Text → Text → Answer → Type 0
IsAnswerAfterTrial outcome replies difference answer = ((advice : List AdviceItem) × (answer ≡ answer_after_trial outcome replies advice difference)) ⊎ (answer ≡ empty_answer 503)

-- A sheet of these bytes is tried from an image, makes another, and this is the reply to that, with what the two differ in. What the advice is, nothing says.
pub record RepliesToTrial (kind : Sheet) (i : Image) (input : Text) (answer : Answer) : Type 0 where
  pub made : Image
  pub sound : IsSound made
  pub replies : Text
  pub outcome : Result Tally SheetFault
  pub advice : List AdviceItem
  pub tried : IsTried kind 0 input (state_of i) (state_of made) replies outcome
  pub is : answer ≡ answer_after_trial outcome replies advice (difference_text i made)

-- A sheet is tried at a desk, and leaves it as it is. It has an empty 503 where memory runs out, the reply would have more bytes than it may or its client is gone, and once a commit of several commands has failed: the image may be ahead of what is kept then.
abbrev pub AnswersTrial : {K : Type 0} → Sheet → Text → DeskView K → Answer → DeskView K → Type 0
AnswersTrial kind input old answer new =
    (new ≡ old) × (RepliesToTrial kind old.image input answer ⊎ (answer ≡ empty_answer 503)) × (old.is_ahead ≡ true → answer ≡ empty_answer 503)
