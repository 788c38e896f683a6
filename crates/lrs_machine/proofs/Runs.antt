-- A repeated key acts once.
use Rattle.std.proofs.Common.{◌≡◌, ℕ, Bool, true, false, cond, List, [], ◌∷◌, Option, Some, None, refl, ap, ◌∙◌}
use Rattle.std.specs.Prelude.{is_some}
use Rattle.lrs_measure.specs.Texts.{Name}
use Rattle.lrs_machine.specs.declared.answer.Limits.{Limits}
use Rattle.lrs_machine.specs.declared.command.Command.{Command}
use Rattle.lrs_machine.specs.State.{State}
use Rattle.lrs_machine.specs.Machine.{Record, step, step_record, step_by_key, state_after, place_of_key}
use Rattle.lrs_machine.specs.Laws.{once, ActsOnce}

-- A key that is known changes nothing.
keeps : (limits : Limits) (key : Name) (command : Command) (s : State) (n : Option ℕ) → is_some n ≡ true → (step_by_key limits key command s n).state ≡ s
keeps limits key command s None h = cc
keeps limits key command s (Some n) h = refl

known_keeps : (limits : Limits) (r : Record) (s : State) → is_some (place_of_key r.key s.done) ≡ true → (step_record limits r s).state ≡ s
unfolding step
known_keeps limits r s h = keeps limits r.key r.command s (place_of_key r.key s.done) h

module _ (limits : Limits) where
  abbrev rest : Record → List Record → State → Bool → List Record
  rest r rs s b = cond b (once limits rs s) (r ∷ once limits rs (step_record limits r s).state)

  acts_once : (rs : List Record) (s : State) → state_after limits rs s ≡ state_after limits (once limits rs s) s
  acts_once [] s = refl
  acts_once (r ∷ rs) s =
      elim (is_some (place_of_key r.key s.done)) as (λ b. is_some (place_of_key r.key s.done) ≡ b → state_after limits (r ∷ rs) s ≡ state_after limits (rest r rs s b) s) [
        | true ↦ λ h. ap (state_after limits rs) (known_keeps limits r s h) ∙ acts_once rs s
        | false ↦ λ h. acts_once rs (step_record limits r s).state
      ] refl

pub repeated_key_acts_once : ActsOnce
repeated_key_acts_once limits rs s = acts_once limits rs s
