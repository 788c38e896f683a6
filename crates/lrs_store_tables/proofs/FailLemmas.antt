-- Why a SELECT of all rows of a table answers an error, and why a call does of which it is a part.
use Rattle.std.proofs.Common.{Option, ◌≤◌, arith, ◌≡◌, ℕ, List, [], length, IsTrue, true, false, IsSome, inl, inr, sym, ap, subst, subst₂, ◌∙◌, ◌⊎◌, Err, None, Some}
use Rattle.std.proofs.lemmas.Bool.{cases_Bool, false≢true}
use Rattle.sqlite_disk.specs.Disk.{MoreFaults}
use Rattle.sqlite_sql.specs.Term.{Term}
use Rattle.sqlite_typing.specs.Types.{accepts_program}
use Rattle.sqlite_value.specs.Order.{Row}
use Rattle.sqlite_trees.specs.Tree.{Trees}
use Rattle.sqlite_trees.specs.declared.store.Store.{Ghosts}
use Rattle.sqlite.specs.Held.{Held, state}
use Rattle.sqlite.specs.Steps.{FailsToCommit}
use Rattle.sqlite_schema.specs.declared.command.Command.{Command}
use Rattle.sqlite_schema.specs.declared.command.Command.TheVariants.{Select}
use Rattle.sqlite_schema.specs.declared.command.Returning.{Returning}
use Rattle.sqlite.specs.declared.run.Mode.{Mode}
use Rattle.sqlite.specs.Does.{Does}
use Rattle.sqlite_resolve.specs.declared.compiled.Compiled.{Compiled}
use Rattle.sqlite_trees.specs.declared.error.StoreError.{StoreError}
use Rattle.sqlite_trees.specs.declared.error.StoreError.TheVariants as stored
use Rattle.sqlite.specs.declared.error.Error.{Error}
use Rattle.sqlite.specs.Effect.{RefusesToRead}
use Rattle.sqlite.specs.Listing.{understood, reads_listing, IsSourceOf}
use Rattle.sqlite.specs.State.{IsUnchanged, Survives, IsMisplaced, MayChange, State, HasCleanDisk, Fails, IsNoStatement, IsNotRun, FailsToQuery, IsTooLate, store_error, HasCause}
use Rattle.sqlite.proofs.Callers.{IsPlain, command_of}
use Rattle.lrs_store_tables.specs.Schema.{inventory}
use Rattle.lrs_store_tables.specs.StoredRows.{LeavesStore}
use Rattle.lrs_store_tables.specs.Failures.{HasReason}
use Rattle.lrs_store_tables.proofs.Answers.{over}
use Rattle.lrs_store_tables.proofs.AloneStatements.{IsAlone}

cause_of : (old new : State) (e : Error) (too_big : Type 0) → (too_big → IsSome old.step_limit) → (cause : StoreError) → e ≡ store_error cause → HasCause old new too_big cause → HasReason old new e
cause_of old new e too_big fits stored.OutOfMemory is h = inl is
cause_of old new e too_big fits stored.Io is h = inr (inl h)
cause_of old new e too_big fits stored.Corrupt is h = inr (inl h)
cause_of old new e too_big fits stored.Full is h = inr (inl h)
cause_of old new e too_big fits stored.Broken is h = inr (inr (inl h))
cause_of old new e too_big fits stored.Unstorable is h = inr (inr (inr (fits h)))

-- a store fails, where no row is too big but under a limit of steps
pub fails_limited : (old new : State) (e : Error) (too_big : Type 0) → (too_big → IsSome old.step_limit) → Fails old new too_big e → HasReason old new e
fails_limited old new e too_big fits h = cause_of old new e too_big fits h.0 h.1 h.2

pub fails_for : (old new : State) (e : Error) → Fails old new ⊥ e → HasReason old new e
fails_for old new e = fails_limited old new e ⊥ (λ none. absurd none)

-- how a command that is run ends in an error
abbrev pub RanFor : State → State → Compiled → Mode → Row → Error → Option Returning → Command → List ℕ → Type 0
RanFor old new c mode params e returning command text =
    ((IsMisplaced old command e ⊎ (MayChange c × Does old.step_limit mode params old.now text returning command (Err (Some e)))) × IsUnchanged old new)
    ⊎ Fails old new (Does old.step_limit mode params old.now text returning command (Err None)) e

-- A SELECT .. FROM one table is refused by no database of the tables, but by a limit of steps.
module _ (sql : List ℕ) (names : List (List ℕ)) (tree : ℕ) (project : List Term)
    (is : (command_of (understood inventory sql) ≡ Select (record { lets = []; body = over tree [] project [] }) names) × (IsPlain (understood inventory sql) × (reads_listing inventory sql ≡ false)))
    (alone : IsAlone sql (understood inventory sql)) (typed : accepts_program inventory [] (over tree [] project []) [] ≡ true) where
  unrefused : (old : State) (e : Error) → old.now.schema ≡ inventory → RefusesToRead old.step_limit (Select (record { lets = []; body = over tree [] project [] }) names) old.now [] e → IsSome old.step_limit
  unrefused old e has (inl h) = absurd (false≢true (sym (subst (λ s. accepts_program s [] (over tree [] project []) [] ≡ false) has h.1) ∙ typed))
  unrefused old e has (inr (inl (h, inl none))) = absurd none
  unrefused old e has (inr (inl (h, inr any))) = absurd any.4
  unrefused old e has (inr (inr h)) = h.1

  no_statement : (old : State) (e : Error) → old.now.schema ≡ inventory → IsNoStatement old sql [] e → ⊥
  no_statement old e has (inl (fault, bad, so)) = subst (IsAlone sql) (sym (ap (λ s. understood s sql) has) ∙ bad) alone
  no_statement old e has (inr (c, good, inl (more, so))) = more (subst (IsAlone sql) (sym (ap (λ s. understood s sql) has) ∙ good) alone).0
  no_statement old e has (inr (c, good, inr (inl (given, so)))) = given (sym (ap length (subst (IsAlone sql) (sym (ap (λ s. understood s sql) has) ∙ good) alone).1))
  no_statement old e has (inr (c, good, inr (inr (clock, so)))) = clock (subst IsPlain (sym (ap (λ s. understood s sql) has) ∙ good) is.1.0).1

  pub not_run_for : (old new : State) (e : Error) → old.now.schema ≡ inventory → IsNotRun old new sql [] e → HasReason old new e
  unfolding IsNotRun
  not_run_for old new e has (inl h) = absurd (no_statement old e has h.0)
  not_run_for old new e has (inr h) = fails_for old new e h

  open_fails : (old new : State) (e : Error) → old.now.schema ≡ inventory → FailsToQuery sql [] old new e → HasReason old new e
  unfolding FailsToQuery
  open_fails old new e has (inl h) = not_run_for old new e has h
  open_fails old new e has (inr h) =
      let known = sym h.1.is ∙ ap (λ s. understood s sql) has in
      let bare = subst IsPlain (sym known) is.1.0 in
      let it = rw (bare.0, bare.1) at h.2 in
      let db : it.0 ≡ old.now = subst (λ b. IsSourceOf b old.now it.0) (ap (λ s. reads_listing s sql) has ∙ is.1.1) it.1 in
      inr (inr (inr (unrefused old e has (subst₂ (λ k d. RefusesToRead old.step_limit k d [] e) (ap command_of known ∙ is.0) db it.2))))

  too_late : (old new : State) (e : Error) → old.now.schema ≡ inventory → IsTooLate sql [] old new e → ⊥
  too_late old new e has h =
      let known = sym h.1.is ∙ ap (λ s. understood s sql) has in
      let bare = subst IsPlain (sym known) is.1.0 in
      false≢true (subst IsSome bare.0 h.2)

  -- why the rows are not read
  pub fails : (old new : State) (e : Error) → (IsTrue old.is_open → old.now.schema ≡ inventory) → FailsToQuery sql [] old new e ⊎ IsTooLate sql [] old new e → HasReason old new e
  fails old new e has h = elim (cases_Bool old.is_open) [
    | inl opened ↦ elim h [
      | inl failed ↦ open_fails old new e (has opened) failed
      | inr late ↦ absurd (too_late old new e (has opened) late)
    ]
    | inr shut ↦ inr (inr (inl shut))
  ]

-- ---- a call of several

rises_to : (a b c : ℕ) → MoreFaults a b → b ≤ c → MoreFaults a c
rises_to a b c more rest = omega (arith, more, rest)

rises_from : (a b c : ℕ) → a ≤ b → MoreFaults b c → MoreFaults a c
rises_from a b c less more = omega (arith, less, more)

module _ (a b c : State) (e : Error) {Commits : Trees → Type 0} where
  -- it stays the reason where more follows
  pub reason_then : Survives b c Commits → HasReason a b e → HasReason a c e
  reason_then survives (inl memory) = inl memory
  reason_then survives (inr (inl more)) = inr (inl (rises_to a.faults b.faults c.faults more survives.counts))
  reason_then survives (inr (inr other)) = inr (inr other)

  -- and where something went before
  pub reason_after : LeavesStore a b → Survives b c Commits → HasCleanDisk c → HasReason b c e → HasReason a c e
  reason_after first last clean (inl memory) = inl memory
  reason_after first last clean (inr (inl more)) = inr (inl (rises_from a.faults b.faults c.faults first.counts more))
  reason_after first last clean (inr (inr (inl shut))) =
      let early : HasCleanDisk b = omega (arith, clean, last.clean) in
      elim (cases_Bool a.is_open) [
        | inl was ↦ elim (first.closes early was) [
          | inl is ↦ absurd (false≢true (sym shut ∙ is))
          | inr more ↦ inr (inl (rises_to a.faults b.faults c.faults more last.counts))
        ]
        | inr was ↦ inr (inr (inl was))
      ]
  reason_after first last clean (inr (inr (inr limit))) = inr (inr (inr (subst IsSome first.limit limit)))

-- the commit of a transaction
pub commit_fails : (old new : State) (e : Error) → IsTrue old.in_transaction → FailsToCommit old new e → HasReason old new e
commit_fails old new e begun (inl failed) = fails_for old new e failed
commit_fails old new e begun (inr (so, out, same)) = absurd (false≢true (sym out ∙ begun))

-- a call that fails in a transaction of its own, and what began it
pub reason_begun : {S : Type 0} (g : Ghosts S) (old tx : Held S) (last : State) (e : Error) → tx ≡ record old { in_transaction = true } → HasReason (state g tx) last e → HasReason (state g old) last e
reason_begun g old tx last e is = by tx (sym is)
  where
    by : (t : Held _) → record old { in_transaction = true } ≡ t → HasReason (state g t) last e → HasReason (state g old) last e
    by t same = subst (λ (x : Held _). HasReason (state g x) last e → HasReason (state g old) last e) same (λ h. h)
