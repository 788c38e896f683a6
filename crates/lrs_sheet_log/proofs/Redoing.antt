-- The edits that commands made, done again, make the same state.
use Rattle.std.proofs.Common.{◌≡◌, ◌+◌, List, [], ◌∷◌, ◌++◌, length, refl, sym, ap, subst, ◌∙◌, append_assoc, append-nil}
use Rattle.std.specs.List.{AllByRecursion}
use Rattle.lrs_machine.specs.Machine.{Outcome, Record, state_after, step_record}
use Rattle.lrs_machine.specs.State.{Edit, State}
use Rattle.lrs_machine.specs.declared.answer.Answer.TheVariants.{Done}
use Rattle.lrs_machine.specs.declared.answer.Limits.{Limits}
use Rattle.lrs_machine.proofs.Stop.Edits as edits
use Rattle.lrs_machine.proofs.Stop.Edits.{Outcomes, outcomes}
use Rattle.lrs_sheet_log.specs.Laws.{IsPrintable, edit_of}

-- each edit is of a command that is done, and these make the one state of the other
abbrev pub Redone : Limits → State → List Edit → State → Type 0
Redone limits s [] t = t ≡ s
Redone limits s (e ∷ more) t =
    (r : Record) × IsPrintable r × (e ≡ edit_of r) × ((step_record limits r s).answer ≡ Done (length s.done + 1)) × ((step_record limits r s).state.done ≡ s.done ++ e ∷ [])
    × Redone limits (step_record limits r s).state more t

-- the edits that a state has beyond those of another make it again
pub record IsRedone (limits : Limits) (s t : State) : Type 0 where
  pub beyond : List Edit
  pub all : t.done ≡ s.done ++ beyond
  pub redone : Redone limits s beyond t

-- a command that is not done is left out
left-out : (limits : Limits) (r : Record) (rs : List Record) (s : State) → (step_record limits r s).state ≡ s → IsRedone limits s (state_after limits rs s) → IsRedone limits s (state_after limits (r ∷ rs) s)
left-out limits r rs s same h = subst (λ (u : State). IsRedone limits s (state_after limits rs u)) (sym same) h

-- one that is done is the first of them
taken-in : (limits : Limits) (r : Record) (rs : List Record) (s : State) → IsPrintable r → (step_record limits r s).answer ≡ Done (length s.done + 1) → (step_record limits r s).state.done ≡ s.done ++ edit_of r ∷ []
    → IsRedone limits (step_record limits r s).state (state_after limits rs (step_record limits r s).state) → IsRedone limits s (state_after limits (r ∷ rs) s)
taken-in limits r rs s printable answer kept h = record {
  beyond = edit_of r ∷ h.beyond;
  all = h.all ∙ ap (λ (d : List Edit). d ++ h.beyond) kept ∙ append_assoc s.done (edit_of r ∷ []) h.beyond;
  redone = (r, printable, refl, answer, kept, h.redone);
}

one-more : (limits : Limits) (r : Record) (rs : List Record) (s : State) (o : Outcome) → Outcomes r.key r.command s o → step_record limits r s ≡ o → IsPrintable r
    → IsRedone limits s (state_after limits rs s) → IsRedone limits (step_record limits r s).state (state_after limits rs (step_record limits r s).state) → IsRedone limits s (state_after limits (r ∷ rs) s)
one-more limits r rs s _ (edits.done t none same) is printable out more =
    taken-in limits r rs s printable (ap (λ (o : Outcome). o.answer) is) (ap (λ (o : Outcome). o.state.done) is ∙ ap (λ (d : List Edit). d ++ edit_of r ∷ []) same) more
one-more limits r rs s _ (edits.known place at) is printable out more = left-out limits r rs s (ap (λ (o : Outcome). o.state) is) out
one-more limits r rs s _ (edits.refused c) is printable out more = left-out limits r rs s (ap (λ (o : Outcome). o.state) is) out

pub made-again : (limits : Limits) (rs : List Record) (s : State) → AllByRecursion IsPrintable rs → IsRedone limits s (state_after limits rs s)
made-again limits [] s all = record { beyond = []; all = sym (append-nil s.done); redone = refl }
made-again limits (r ∷ rs) s all =
    one-more limits r rs s _ (outcomes limits r.key r.command s) refl all.0 (made-again limits rs s all.1) (made-again limits rs (step_record limits r s).state all.1)
