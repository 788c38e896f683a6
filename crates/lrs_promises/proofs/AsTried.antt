-- A sheet that is done as a whole or not at all ends as its trial.
use Rattle.std.proofs.Common.{◌≡◌, ◌⊎◌, inl, inr, false, [], Some, Result, Ok, Err, refl, sym, ap, subst, ◌∙◌}
use Rattle.lrs_machine.specs.Image.{state_of}
use Rattle.lrs_machine.specs.Lines.{Text}
use Rattle.lrs_machine.specs.State.{State}
use Rattle.lrs_machine.specs.declared.image.Image.{Image}
use Rattle.lrs_machine.specs.declared.table.Table.{Table}
use Rattle.lrs_desk.specs.DeskView.{DeskView}
use Rattle.lrs_sheet_records.specs.declared.sheet.Sheet.{Sheet}
use Rattle.lrs_sheet_records.specs.declared.fault.SheetFault.{SheetFault}
use Rattle.lrs_sheet_records.specs.declared.fault.SheetFault.TheVariants as fault
use Rattle.lrs_sheet.specs.Sheets.{Runs, records_together}
use Rattle.lrs_sheet.specs.Trials.{IsFull, IsTried}
use Rattle.lrs_sheet.specs.declared.reply.Tally.{Tally}
use Rattle.lrs_web_requests.specs.Text.{Answer}
use Rattle.lrs_web.specs.Sheets.{RunsSheet, answer_after, lines_answer, refusal_after}
use Rattle.lrs_promises.specs.Determinism.{AllOrNoneIsAsTried}
use Rattle.lrs_promises.proofs.Ends.{answer_of_end, run_of_trial, sheets_end_alike}
use Rattle.lrs_promises.proofs.FullLimits.{full_alike}
use Rattle.lrs_promises.proofs.Given.{answer_decided}

module _ {K : Type 0} (holds : K → Result Image Table → Type 0) (sheet : Sheet) (input : Text) (old new : DeskView K) (answer : Answer) (served : answer.status ≡ 503 → ⊥) where
  -- nothing was refused
  abbrev AsTried : Type 0
  AsTried = (replies : Text) × (tally : Tally) × IsTried sheet 0 input (state_of old.image) (state_of new.image) replies (Ok tally) × (tally.refused ≡ 0) × (answer ≡ lines_answer 200 replies)

  as_tried : (made : State) (replies : Text) (tally : Tally) → IsFull old.limits → IsTried sheet 0 input (state_of old.image) made replies (Ok tally) → tally.refused ≡ 0 → RunsSheet holds sheet false input old answer new → AsTried
  as_tried made replies tally full tried none (ended, lines, run, is) =
      let limits = full_alike tried.limits old.limits tried.full full in
      let trial = coe 0 1 (k. Runs sheet 1 (limits k) input (state_of old.image) made (Some []) (Some replies) (Ok tally)) (run_of_trial sheet input (state_of old.image) made replies (Ok tally) tried) in
      let h = sheets_end_alike sheet 1 records_together old.limits input (state_of old.image) made (state_of new.image) [] replies [] lines (Ok tally) ended refl (answer_decided ended lines answer is served) trial run.runs in
      let lines_are : lines ≡ replies = h.wrote.same ∙ sym h.wrote.one in (
        replies,
        tally,
        subst (λ (s : State). IsTried sheet 0 input (state_of old.image) s replies (Ok tally)) h.state tried,
        none,
        answer_of_end ended lines answer is served ∙ (λ i. answer_after (sym h.wrote.ends i) (lines_are i)),
      )

  -- something was
  refused_with : (outcome : Result Tally SheetFault) (replies : Text) → answer ≡ refusal_after outcome replies → (answer.status ≡ 409) ⊎ (answer.status ≡ 422)
  refused_with (Ok tally) replies is = inl (ap (λ (a : Answer). a.status) is)
  refused_with (Err fault.BadHeader) replies is = inr (ap (λ (a : Answer). a.status) is)
  refused_with (Err fault.BadCsv) replies is = inr (ap (λ (a : Answer). a.status) is)
  refused_with (Err fault.Read) replies is = absurd (served (ap (λ (a : Answer). a.status) is))
  refused_with (Err fault.Write) replies is = absurd (served (ap (λ (a : Answer). a.status) is))
  refused_with (Err fault.Memory) replies is = absurd (served (ap (λ (a : Answer). a.status) is))
  refused_with (Err (fault.Desk e)) replies is = absurd (served (ap (λ (a : Answer). a.status) is))

pub all_or_none_is_as_tried : {K : Type 0} (holds : K → Result Image Table → Type 0) → AllOrNoneIsAsTried holds
all_or_none_is_as_tried holds sheet input old new answer full (inr (same, none)) served = absurd (served (ap (λ (a : Answer). a.status) none))
all_or_none_is_as_tried holds sheet input old new answer full (inl (behind, replies, outcome, tried, inr (refused, same, is))) served = inr (same, refused_with holds sheet input old new answer served outcome replies is)
all_or_none_is_as_tried holds sheet input old new answer full (inl (behind, replies, Err e, tried, inl (accepted, runs))) served = absurd accepted
all_or_none_is_as_tried holds sheet input old new answer full (inl (behind, replies, Ok tally, (made, tried), inl (accepted, runs))) served =
    inl (as_tried holds sheet input old new answer served made replies tally full tried accepted runs)
