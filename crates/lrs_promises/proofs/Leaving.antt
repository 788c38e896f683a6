-- What commands leave.
use Rattle.std.proofs.Common.{◌≡◌, ◌⊎◌, inl, inr, ℕ, ◌+◌, false, length, Result, Ok, Err, ◌∙◌}
use Rattle.std.specs.Prelude.{OnOk, IfOk}
use Rattle.lrs_machine.specs.Image.{state_of}
use Rattle.lrs_machine.specs.Machine.{Record, step_record}
use Rattle.lrs_machine.specs.State.{State}
use Rattle.lrs_machine.specs.declared.answer.Answer.{Answer}
use Rattle.lrs_machine.specs.declared.answer.Answer.TheVariants.{Done}
use Rattle.lrs_machine.specs.declared.image.Image.{Image}
use Rattle.lrs_machine.specs.declared.table.Table.{Table}
use Rattle.lrs_machine.proofs.Keeping.{only_done_changes}
use Rattle.lrs_image.specs.KeeperCalls.{HoldsOnly}
use Rattle.lrs_desk.specs.Desk.{FindsImage}
use Rattle.lrs_desk.specs.DeskView.{DeskView}
use Rattle.lrs_machine.specs.declared.stops.fault.Fault.{Fault}
use Rattle.lrs_promises.specs.Safe.{IsAnswered}

module _ {K : Type 0} (holds : K → Result Image Table → Type 0) (clean : K → Type 0) (r : Record) (old new : DeskView K) where
  abbrev said : Answer
  said = (step_record old.limits r (state_of old.image)).answer

  abbrev next : State
  next = (step_record old.limits r (state_of old.image)).state

  -- any answer but `Done` leaves the state
  only_done : (a : Answer) → a ≡ said → state_of new.image ≡ next → ((number : ℕ) × (a ≡ Done number)) ⊎ (state_of new.image ≡ state_of old.image)
  only_done a is state = by (only_done_changes old.limits r.key r.command (state_of old.image))
    where
      by : (said ≡ Done (length (state_of old.image).done + 1)) ⊎ (next ≡ state_of old.image) → ((number : ℕ) × (a ≡ Done number)) ⊎ (state_of new.image ≡ state_of old.image)
      by (inl done) = inl (length (state_of old.image).done + 1, is ∙ done)
      by (inr same) = inr (state ∙ same)

  pub is_answered : (result : Result Answer Fault) → IfOk result (λ a. a ≡ said) → OnOk result (state_of new.image ≡ next) → OnOk result (HoldsOnly (holds new.keeper) new.image)
      → FindsImage holds clean new → OnOk result (new.must_reopen ≡ false) → OnOk result (new.is_ahead ≡ old.is_ahead) → IfOk result (IsAnswered holds clean r old new)
  is_answered (Ok a) answer state kept found goes ahead = record {
    said = answer;
    state = state;
    only_done = only_done a answer state;
    kept = kept;
    found = found goes;
    serves = goes;
    ahead = ahead;
  }
  is_answered (Err e) answer state kept found goes ahead = tt
