-- Two commands of which the second undoes the first leave the rows as they were.
use Rattle.std.proofs.Common.{◌≡◌, ℕ, ◌+◌, Bool, true, false, cond, List, [], ◌∷◌, ◌++◌, length, Option, Some, None, Result, Ok, Err, refl, sym, ap, subst, ◌∙◌}
use Rattle.std.specs.Prelude.{IfOk}
use Rattle.lrs_measure.specs.Texts.{Name, same_name}
use Rattle.lrs_machine.specs.declared.answer.Answer.TheVariants.{Done, Again, Refused}
use Rattle.lrs_machine.specs.declared.answer.Cause.{Cause}
use Rattle.lrs_machine.specs.declared.answer.Cause.TheVariants as cause
use Rattle.lrs_machine.specs.declared.answer.Limits.{Limits}
use Rattle.lrs_machine.specs.declared.command.Command.{Command}
use Rattle.lrs_machine.specs.declared.command.Command.TheVariants as verb
use Rattle.lrs_machine.specs.Image.{state_of}
use Rattle.lrs_machine.specs.Lines.{line_of}
use Rattle.lrs_machine.specs.Machine.{attempt, check_room, accept, outcome_of, next, place_of_key, line_at, step, step_by_key}
use Rattle.lrs_machine.specs.State.{State, Edit}
use Rattle.lrs_machine.proofs.Checks.{behind}
use Rattle.lrs_promises.specs.DeskLaws.Rows.{courses_by_name, class_of_asset}
use Rattle.lrs_promises.specs.DeskLaws.Inverses.{LeaveTheRows, SplitAndJoinLeaveTheRows, TurnsLeaveTheRows}
use Rattle.lrs_promises.proofs.DeskLaws.Alike.{rows_are_determined, firsts, rests}
use Rattle.lrs_promises.proofs.DeskLaws.Undone.{IsTakenBack, IsFiled, filed, split_taken_back, turn_taken_back}

-- The state after a command that is done: what its attempt gives, with one edit more.
record IsDone (P : State → Type 0) (key : Name) (command : Command) (after : State) : Type 0 where
  pub made : State
  pub has : P made
  pub accepted : after ≡ accept key command made

module _ (limits : Limits) (key : Name) (command : Command) (s : State) (P : State → Type 0) (goes : IfOk (attempt (length s.done + 1) command s) P) (m : ℕ) where
  by_outcome : (r : Result State Cause) → IfOk r P → (outcome_of key command s r).answer ≡ Done m → IsDone P key command (outcome_of key command s r).state
  by_outcome (Ok t) h is = record { made = t; has = h; accepted = refl }
  by_outcome (Err c) h is = absurd (cc is)

  not_known : (place : ℕ) (b : Bool) → cond b (Again (place + 1)) (Refused (cause.KeyUsed (place + 1))) ≡ Done m → ⊥
  not_known place true is = cc is
  not_known place false is = cc is

  by_key : (o : Option ℕ) → (step_by_key limits key command s o).answer ≡ Done m → IsDone P key command (step_by_key limits key command s o).state
  by_key (Some place) is = absurd (not_known place (same_name (line_at place s.done) (line_of command)) is)
  by_key None is = by_outcome (next limits command s) (behind P (check_room limits command s) (attempt (length s.done + 1) command s) goes) is

  done_gives : (step limits key command s).answer ≡ Done m → IsDone P key command (step limits key command s).state
  unfolding step
  done_gives is = by_key (place_of_key key s.done) is

module _ (command back : Command) (goes : (s : State) → IsFiled s → (m : ℕ) → IfOk (attempt m command s) (IsTakenBack back s)) (limits : Limits) (key other : Name) (s : State) (h : IsFiled s) (m n : ℕ) where
  abbrev once : State
  once = (step limits key command s).state

  abbrev twice : State
  twice = (step limits other back once).state

  -- the state after both, but for the accepted edits
  both : (step limits key command s).answer ≡ Done m → (step limits other back once).answer ≡ Done n → (edits : List Edit) × (twice ≡ record s { done = edits })
  both first second =
      let x = done_gives limits key command s (IsTakenBack back s) (goes s h (length s.done + 1)) m first in
      let with : Edit = record { key = key; line = line_of command } in
      let edits : List Edit = x.made.done ++ with ∷ [] in
      let is : State → Type 0 = λ u. u ≡ record s { done = edits } in
      let back_there : attempt (length once.done + 1) back once ≡ Ok (record s { done = edits }) = ap (attempt (length once.done + 1) back) x.accepted ∙ x.has.taken (length once.done + 1) edits in
      let y = done_gives limits other back once is (subst (λ r. IfOk r is) (sym back_there) refl) n second in
      ((accept other back (record s { done = edits })).done, y.accepted ∙ ap (accept other back) y.has)

rows_left : (command back : Command) → ((s : State) → IsFiled s → (m : ℕ) → IfOk (attempt m command s) (IsTakenBack back s)) → LeaveTheRows command back
rows_left command back goes limits key other i j m n s t by =
    let s1 : State = (step limits key command (state_of i)).state in
    let first = firsts (step limits key command (state_of i)).answer (Done m) ((step limits other back s1).answer ∷ []) (Done n ∷ []) by.done in
    let rest = rests (step limits key command (state_of i)).answer (Done m) ((step limits other back s1).answer ∷ []) (Done n ∷ []) by.done in
    let second = firsts (step limits other back s1).answer (Done n) [] [] rest in
    let x = both command back goes limits key other (state_of i) (filed i s) m n first second in
    let is : state_of j ≡ record (state_of i) { done = x.0 } = by.state ∙ x.1 in
    rows_are_determined j i t s (record {
      courses = ap courses_by_name is;
      classes = λ a. ap (λ u. class_of_asset u a) is;
      holds = λ a p. ap (λ (u : State). u.holds a p) is;
    })

pub split_and_join_leave_the_rows : SplitAndJoinLeaveTheRows
split_and_join_leave_the_rows route name at = rows_left (verb.Split route at name) (verb.Join route name) (λ s h m. split_taken_back s h route name at m)

pub turns_leave_the_rows : TurnsLeaveTheRows
turns_leave_the_rows route = rows_left (verb.Turn route) (verb.Turn route) (λ s h m. turn_taken_back s h route m)
