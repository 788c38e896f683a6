-- What a crash leaves of a transaction: what it would have left before, or what the transaction had made as it was committed.
use Rattle.std.proofs.Common.{◌≡◌, ℕ, true, IsTrue, IfErr, Result, Ok, Err, refl, sym, subst, arith}
use Rattle.sqlite_trees.specs.declared.store.Store.{Ghosts}
use Rattle.sqlite_trees.specs.Tree.{Trees}
use Rattle.sqlite.specs.Held.{Held, state}
use Rattle.sqlite.specs.State.{State, HasCleanDisk, Survives}
use Rattle.sqlite.proofs.StateLemmas.{survives_then}
use Rattle.sqlite.specs.Steps.{FailsToCommit}
use Rattle.sqlite.specs.declared.error.Error.{Error}
use Rattle.sqlite.proofs.Callers.{survives_begin}
use Rattle.lrs_store_tables.specs.StoredRows.{LeavesStore}
use Rattle.lrs_store_tables.specs.TableCreation.{first_tables, IsBegun}
use Rattle.lrs_store_tables.specs.Failures.{ErrHasReason}
use Rattle.lrs_store_tables.proofs.FailLemmas.{reason_then, reason_after, reason_begun, commit_fails}

-- it begins, makes something, and is committed
pub survives_transaction : {S : Type 0} (g : Ghosts S) (old tx mid : Held S) (last : State) (Made : Held S → Type 0) (P : Trees → Type 0) → tx ≡ record old { in_transaction = true }
    → Survives (state g tx) (state g mid) (λ _. ⊥) → Made tx → Survives (state g mid) last (λ db. db ≡ (state g mid).now.trees)
    → (Made (record old { in_transaction = true }) → HasCleanDisk (state g old) → HasCleanDisk (state g mid) → P (state g mid).now.trees) → Survives (state g old) last P
survives_transaction {S} g old tx mid last Made P is one made two gives = by tx (sym is) one made
  where
    begun : Held S
    begun = record old { in_transaction = true }

    at_begin : Survives (state g begun) (state g mid) (λ _. ⊥) → Made begun → Survives (state g old) last P
    at_begin first made = survives_begin g old last P (survives_then (state g begun) (state g mid) last (λ _. ⊥) (λ db. db ≡ (state g mid).now.trees) P (λ _ db none. absurd none) (λ clean db same.
        let m : HasCleanDisk (state g mid) = omega (arith, two.clean) in
        let early : HasCleanDisk (state g old) = omega (arith, m, first.clean) in
        subst P (sym same) (gives made early m)) first two)

    by : (t : Held S) → begun ≡ t → Survives (state g t) (state g mid) (λ _. ⊥) → Made t → Survives (state g old) last P
    by t same = subst (λ (x : Held S). Survives (state g x) (state g mid) (λ _. ⊥) → Made x → Survives (state g old) last P) same at_begin

-- ---- why a transaction that makes tables fails

module _ {S : Type 0} (g : Ghosts S) (n : ℕ) (old tx mid : Held S) (last : State) (is : tx ≡ record old { in_transaction = true })
    (tables : HasCleanDisk (state g old) → IsTrue (state g old).is_open → (state g old).now.schema ≡ first_tables n) where
  begins : (t : Held S) → t ≡ record old { in_transaction = true } → HasCleanDisk (state g t) → IsBegun n (state g t)
  begins t same = subst (λ (x : Held S). HasCleanDisk (state g x) → IsBegun n (state g x)) (sym same) (λ early. record { begun = refl; tables = tables early })

  -- what is made in it
  pub making_fails : {A : Type 0} (r : Result A Error) → LeavesStore (state g tx) (state g mid) → (IsBegun n (state g tx) → ErrHasReason r (state g tx) (state g mid)) → LeavesStore (state g mid) last → ErrHasReason r (state g old) last
  making_fails (Ok x) one fails two clean = tt
  making_fails (Err e) one fails two clean =
      let m : HasCleanDisk (state g mid) = omega (arith, clean, two.clean) in
      let early : HasCleanDisk (state g tx) = omega (arith, m, one.clean) in
      reason_begun g old tx last e is (reason_then (state g tx) (state g mid) last e two (fails (begins tx is early) m))

  -- and its commit
  pub committing_fails : {A : Type 0} (r : Result A Error) {Commits : Trees → Type 0} → LeavesStore (state g tx) (state g mid) → (HasCleanDisk (state g mid) → IsBegun n (state g tx) → IsTrue (state g mid).in_transaction)
      → Survives (state g mid) last Commits → (HasCleanDisk last → IfErr r (FailsToCommit (state g mid) last)) → ErrHasReason r (state g old) last
  committing_fails (Ok x) one begun two fails clean = tt
  committing_fails (Err e) one begun two fails clean =
      let m : HasCleanDisk (state g mid) = omega (arith, clean, two.clean) in
      let early : HasCleanDisk (state g tx) = omega (arith, m, one.clean) in
      reason_begun g old tx last e is (reason_after (state g tx) (state g mid) last e one two clean (commit_fails (state g mid) last e (begun m (begins tx is early)) (fails clean)))
