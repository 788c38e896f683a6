-- Part of a log is the log of an earlier state.
use Rattle.std.proofs.Common.{◌≡◌, ◌∙◌, ℕ, ◌+◌, ◌-◌, List, [], ◌∷◌, ◌++◌, length, take, drop, refl, sym, ap, append_assoc, append-nil, arith}
use Rattle.std.proofs.lemmas.List.{take-append-drop, take_at}
use Rattle.lrs_machine.specs.Machine.{Outcome, Record, state_after, step_record}
use Rattle.lrs_machine.specs.State.{Edit, State}
use Rattle.lrs_machine.specs.declared.answer.Limits.{Limits}
use Rattle.lrs_machine.proofs.Stop.Edits as edits
use Rattle.lrs_machine.proofs.Stop.Edits.{Outcomes, outcomes}
use Rattle.lrs_sheet_log.specs.Laws.{LogsHaveParts, edit_of}

-- a state has the edits of another, and maybe more
abbrev Goes : State → State → Type 0
Goes s t = (beyond : List Edit) × (t.done ≡ s.done ++ beyond)

goes-step : (r : Record) (s : State) (o : Outcome) → Outcomes r.key r.command s o → Goes s o.state
goes-step r s _ (edits.done t none same) = (edit_of r ∷ [], ap (λ (d : List Edit). d ++ edit_of r ∷ []) same)
goes-step r s _ (edits.known place at) = ([], sym (append-nil s.done))
goes-step r s _ (edits.refused c) = ([], sym (append-nil s.done))

goes-on : (limits : Limits) (rs : List Record) (s : State) → Goes s (state_after limits rs s)
goes-on limits [] s = ([], sym (append-nil s.done))
goes-on limits (r ∷ rs) s =
    let (one, first) = goes-step r s (step_record limits r s) (outcomes limits r.key r.command s) in
    let (more, others) = goes-on limits rs (step_record limits r s).state in
    (one ++ more, others ∙ ap (λ (d : List Edit). d ++ more) first ∙ append_assoc s.done one more)

pub logs_have_parts : LogsHaveParts
logs_have_parts = record {
  parts = λ edits number.
      let behind : (number + 1) - 1 ≡ number = omega arith in
      ap (λ (n : ℕ). take number edits ++ drop n edits) behind ∙ take-append-drop number edits;
  earlier = λ limits commands s.
      let (beyond, all) = goes-on limits commands s in
      ap (λ (d : List Edit). take (length s.done) d) all ∙ take_at s.done beyond (length s.done) refl;
}
