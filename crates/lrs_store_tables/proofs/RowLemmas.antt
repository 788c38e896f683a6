-- Tables that are read one after the other, and nothing changes.
use Rattle.std.proofs.Common.{◌≡◌, Ok, Err, Result, IfOk, IfErr, sym, ap, subst, ◌∙◌, arith}
use Rattle.std.specs.Prelude.{IsErrAnd}
use Rattle.sqlite_trees.specs.declared.store.Store.{Ghosts}
use Rattle.sqlite.specs.declared.error.Error.{Error}
use Rattle.sqlite.specs.declared.transaction.Transaction.{Transaction}
use Rattle.sqlite.specs.Effect.{Database}
use Rattle.sqlite.specs.Held.{state}
use Rattle.sqlite.specs.State.{State, HasCleanDisk, IsUnchanged}
use Rattle.sqlite.proofs.Callers.{unchanged_then}
use Rattle.sqlite.proofs.StateLemmas.{survives_then}
use Rattle.lrs_store_tables.specs.Contents.Tables.{Tables}
use Rattle.lrs_store_tables.specs.StoredRows.{stored, IsWriting, HasTables, LeavesStore}
use Rattle.lrs_store_tables.specs.TableReads.{Reads}
use Rattle.lrs_store_tables.proofs.FailLemmas.{reason_after}

-- where nothing has changed, the connection is still inside the transaction
still : (a b : State) → IsWriting a → IsUnchanged a b → IsWriting b
still a b writing same = record {
  begun = same.0.mode ∙ writing.begun;
  schema = λ opened. ap (λ (d : Database). d.schema) same.0.now_is ∙ writing.schema same.0.was_open;
  tables = λ opened. subst (λ (d : Database). HasTables d.trees) (sym same.0.now_is) (writing.tables same.0.was_open);
}

pub err_told : {A : Type 0} (P : Error → Type 0) {e : Error} (r : Result A Error) → IsErrAnd r (λ y. y ≡ e) → P e → IfErr r P
err_told P (Ok x) h told = absurd h
err_told P (Err y) h told = subst P (sym h) told

none_read : {A : Type 0} (P : A → Type 0) (Q : Error → Type 0) (r : Result A Error) → IsErrAnd r Q → IfOk r P
none_read P Q (Ok x) h = absurd h
none_read P Q (Err e) h = tt

pub leaves_then : (a b c : State) → LeavesStore a b → LeavesStore b c → LeavesStore a c
leaves_then a b c = survives_then a b c (λ _. ⊥) (λ _. ⊥) (λ _. ⊥) (λ clean db none. none) (λ clean db none. none)

still_clean : (a b : State) → LeavesStore a b → HasCleanDisk b → HasCleanDisk a
still_clean a b leaves clean = omega (arith, clean, leaves.clean)

-- ---- what several reads do together

module _ {S A B : Type 0} {g : Ghosts S} {P : A → Tables → Type 0} {Q : B → Tables → Type 0} {a b c : Transaction S} {x : A} where
  -- both have read
  pub both : {y : B} → Reads g P a b (Ok x) → Reads g Q b c (Ok y) → Reads g (λ (found : A × B) t. P found.0 t × Q found.1 t) a c (Ok (x, y))
  both {y} first second = record {
    same_reference = second.same_reference ∙ first.same_reference;
    read = λ clean writing.
        let one = first.read (still_clean _ _ second.survives clean) writing in
        let two = second.read clean (still _ _ writing one.same) in
        record { rows = (one.rows, subst (λ (d : Database). Q y (stored d.trees)) one.same.0.now_is two.rows); same = unchanged_then _ _ _ one.same two.same };
    cause = λ writing clean. tt;
    survives = leaves_then _ _ _ first.survives second.survives;
  }

  -- the second fails
  pub fails_behind : {e : Error} → Reads g P a b (Ok x) → Reads g Q b c (Err e) → Reads g Q a c (Err e)
  fails_behind {e} first second = record {
    same_reference = second.same_reference ∙ first.same_reference;
    read = λ clean writing. tt;
    cause = λ writing clean.
        let one = first.read (still_clean _ _ second.survives clean) writing in
        reason_after _ _ _ e first.survives second.survives clean (second.cause (still _ _ writing one.same) clean);
    survives = leaves_then _ _ _ first.survives second.survives;
  }

module _ {S A B : Type 0} {g : Ghosts S} {P : A → Tables → Type 0} {Q : B → Tables → Type 0} {a b : Transaction S} where
  -- what was read is these rows
  pub read_as : {x : A} {y : B} → Reads g P a b (Ok x) → ((t : Tables) → P x t → Q y t) → Reads g Q a b (Ok y)
  read_as first told = record {
    same_reference = first.same_reference;
    read = λ clean writing. let one = first.read clean writing in record { rows = told _ one.rows; same = one.same };
    cause = λ writing clean. tt;
    survives = first.survives;
  }

  -- an error that is handed on
  pub handed_on : {e : Error} (result : Result B Error) → IsErrAnd result (λ y. y ≡ e) → Reads g P a b (Err e) → Reads g Q a b result
  handed_on result is first = record {
    same_reference = first.same_reference;
    read = λ clean writing. none_read _ _ result is;
    cause = λ writing clean. err_told _ result is (first.cause writing clean);
    survives = first.survives;
  }
