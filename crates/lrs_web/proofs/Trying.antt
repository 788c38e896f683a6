-- A reply to a sheet that was tried.
use Rattle.std.proofs.Common.{◌≡◌, ◌⊎◌, List, Option, Some, Result, inl, inr, ap, ◌∙◌}
use Rattle.std.specs.Option.{option_map_or}
use Rattle.lrs_machine.specs.Image.{state_of}
use Rattle.lrs_machine.specs.Lines.{Text}
use Rattle.lrs_machine.specs.Sound.{IsSound}
use Rattle.lrs_machine.specs.declared.image.Image.{Image}
use Rattle.lrs_difference.specs.Text.{difference_text}
use Rattle.lrs_sheet.specs.Trials.{IsTried}
use Rattle.lrs_sheet.specs.declared.reply.Tally.{Tally}
use Rattle.lrs_sheet_records.specs.declared.fault.SheetFault.{SheetFault}
use Rattle.lrs_sheet_records.specs.declared.sheet.Sheet.{Sheet}
use Rattle.lrs_sheet_advice.specs.declared.advice_list.AdviceItem.{AdviceItem}
use Rattle.lrs_web_requests.specs.Text.{Answer, empty_answer}
use Rattle.lrs_web_replies.specs.Trials.{Outcome, trial_answer}
use Rattle.lrs_web.specs.Trials.{IsAnswerAfterTrial, RepliesToTrial, answer_after_trial, outcome_told}

module _ (outcome : Result Tally SheetFault) (replies : Text) (advice : List AdviceItem) (difference : Text) (answer : Answer) where
  -- the reply by how a trial is told to have ended
  abbrev answer_by : Option Outcome → Answer
  answer_by o = option_map_or (λ ended. trial_answer ended replies advice difference) o (empty_answer 503)

  pub told : (ended : Outcome) → Some ended ≡ outcome_told outcome → (answer ≡ trial_answer ended replies advice difference) ⊎ (answer ≡ empty_answer 503)
      → (answer ≡ answer_after_trial outcome replies advice difference) ⊎ (answer ≡ empty_answer 503)
  told ended is (inl due) = inl (due ∙ ap answer_by is)
  told ended is (inr none) = inr none

  pub advised : (answer ≡ answer_after_trial outcome replies advice difference) ⊎ (answer ≡ empty_answer 503) → IsAnswerAfterTrial outcome replies difference answer
  advised (inl due) = inl (advice, due)
  advised (inr none) = inr none

-- a trial that made a sound image, and the reply to it
pub replied : (kind : Sheet) (i made : Image) (input replies : Text) (outcome : Result Tally SheetFault) (answer : Answer) → IsSound made → IsTried kind 0 input (state_of i) (state_of made) replies outcome
    → IsAnswerAfterTrial outcome replies (difference_text i made) answer → RepliesToTrial kind i input answer ⊎ (answer ≡ empty_answer 503)
replied kind i made input replies outcome answer sound tried (inl (advice, is)) =
    inl (record { made = made; sound = sound; replies = replies; outcome = outcome; advice = advice; tried = tried; is = is })
replied kind i made input replies outcome answer sound tried (inr none) = inr none
