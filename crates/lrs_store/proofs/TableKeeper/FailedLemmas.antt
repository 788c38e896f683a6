-- Why a call of several statements answers an error.
use Rattle.std.proofs.Common.{◌≡◌, ◌∙◌, inl, inr, true, IsTrue, IsSome, Ok, Err, Result, sym, subst, arith}
use Rattle.std.proofs.lemmas.Bool.{false≢true}
use Rattle.sqlite_trees.specs.declared.store.Store.{Ghosts}
use Rattle.sqlite.specs.declared.error.Error.{Error}
use Rattle.sqlite.specs.declared.error.Error.TheVariants.{SqliteFailure}
use Rattle.sqlite.specs.declared.error.ErrorCode.TheVariants.{OutOfMemory}
use Rattle.sqlite.specs.Held.{Held, state}
use Rattle.sqlite.specs.State.{State, HasCleanDisk}
use Rattle.lrs_image.specs.declared.keeper.LoadFault.{LoadFault}
use Rattle.lrs_image.specs.declared.keeper.LoadFault.TheVariants.{Memory, Store}
use Rattle.lrs_store_tables.specs.StoredRows.{IsWriting, LeavesStore}
use Rattle.lrs_store_tables.specs.Connections.{IsReady}
use Rattle.lrs_store_tables.specs.Failures.{HasFailed, HasReason, ErrHasReason, ErrInsideHasReason}
use Rattle.lrs_store_tables.proofs.FailLemmas.{reason_then, reason_after}
use Rattle.lrs_store.specs.TableKeeper.Openings.{IsSecond, IsNotSecond}
use Rattle.lrs_store.proofs.TableKeeper.ReadLemmas.{begins}
use Rattle.lrs_store.proofs.TableKeeper.CommitLemmas.{Stays}

-- a call that fails in a transaction of its own, which is rolled back
pub fails_alone : {S A : Type 0} (g : Ghosts S) (old tx mid : Held S) (last : State) (r : Result A Error) → tx ≡ record old { in_transaction = true } → IsReady (state g old)
    → LeavesStore (state g tx) (state g mid) → ErrInsideHasReason r (state g tx) (state g mid) → LeavesStore (state g mid) last → ErrHasReason r (state g old) last
fails_alone g old tx mid last (Ok x) is ready one cause two clean = tt
fails_alone {S} {A} g old tx mid last (Err e) is ready one cause two clean = by tx (sym is) one cause
  where
    begun : Held S
    begun = record old { in_transaction = true }

    at_begin : LeavesStore (state g begun) (state g mid) → (IsWriting (state g begun) → HasCleanDisk (state g mid) → HasReason (state g begun) (state g mid) e) → HasReason (state g old) last e
    at_begin first fails =
        let m : HasCleanDisk (state g mid) = omega (arith, clean, two.clean) in
        let early : HasCleanDisk (state g old) = omega (arith, m, first.clean) in
        reason_then (state g old) (state g mid) last e two (fails (begins g old ready early) m)

    by : (t : Held S) → begun ≡ t → LeavesStore (state g t) (state g mid) → (IsWriting (state g t) → HasCleanDisk (state g mid) → HasReason (state g t) (state g mid) e) → HasReason (state g old) last e
    by t same = subst (λ (x : Held S). LeavesStore (state g x) (state g mid) → (IsWriting (state g x) → HasCleanDisk (state g mid) → HasReason (state g x) (state g mid) e) → HasReason (state g old) last e) same at_begin

-- the reason of what follows a call that changed nothing
pub reason_behind : {A : Type 0} (a b c : State) (r : Result A Error) → LeavesStore a b → LeavesStore b c → ErrHasReason r b c → ErrHasReason r a c
reason_behind a b c (Ok x) first last cause clean = tt
reason_behind a b c (Err e) first last cause clean = reason_after a b c e first last clean (cause clean)

-- what is told as a failure of the store is no lack of memory
pub store_failed : (f : LoadFault) (e : Error) (old new : State) → (e ≡ SqliteFailure OutOfMemory → f ≡ Memory) → f ≡ Store → HasReason old new e → HasFailed old new
store_failed f e old new memory is (inl ran_out) = absurd (let both = sym (memory ran_out) ∙ is in cc)
store_failed f e old new memory is (inr failed) = failed

-- behind a call that changed nothing and left the store open
pub failed_behind : (a b c : State) → LeavesStore a b → IsTrue b.is_open → HasFailed b c → HasFailed a c
failed_behind a b c first opened (inl more) = inl (omega (arith, first.counts, more))
failed_behind a b c first opened (inr (inl shut)) = absurd (false≢true (sym shut ∙ opened))
failed_behind a b c first opened (inr (inr limit)) = inr (inr (subst IsSome first.limit limit))

-- no rows of a store that is open are of version 2 and of another
pub not_both : {S : Type 0} (g : Ghosts S) (stays : Stays g) (h : Held S) → HasCleanDisk (state g h) → IsTrue (state g h).is_open → IsSecond (state g h) → IsNotSecond (state g h) → ⊥
not_both g stays h clean opened second other =
    let left = stays h.store opened in
    let db = (state g h).committed.trees in
    other clean db left (second clean db left)
