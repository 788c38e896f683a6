-- What the query of all rows of a table reads.
use Rattle.std.proofs.Common.{◌≡◌, ◌⊎◌, ℕ, List, [], map, true, false, Ok, Err, Result, IfOk, IfErr, sym, subst}
use Rattle.std.specs.Global.{Vec}
use Rattle.std.specs.List.Sorted.{IsPermutation}
use Rattle.std.proofs.lemmas.List.Sorted.{IsPermutation-map}
use Rattle.sqlite_typing.specs.Types.{accepts_program}
use Rattle.sqlite_value.specs.Order.{Row, column}
use Rattle.sqlite_trees.specs.Tree.{Trees}
use Rattle.sqlite_trees.specs.declared.store.Store.{Ghosts}
use Rattle.sqlite_sql.specs.Term.{Term}
use Rattle.sqlite_schema.specs.declared.command.Command.TheVariants.{Select}
use Rattle.sqlite.specs.declared.error.Error.{Error}
use Rattle.sqlite.specs.declared.transaction.Transaction.{Transaction}
use Rattle.sqlite.specs.Held.{state}
use Rattle.sqlite.specs.Listing.{understood, reads_listing}
use Rattle.sqlite.specs.State.{HasCleanDisk, Shown, FailsToQuery, IsTooLate}
use Rattle.sqlite.proofs.Callers.{IsPlain, command_of}
use Rattle.lrs_store_tables.specs.Contents.Tables.{Tables}
use Rattle.lrs_store_tables.specs.Schema.{inventory}
use Rattle.lrs_store_tables.specs.StoredRows.{rows_of, stored, LeavesStore}
use Rattle.lrs_store_tables.specs.TableReads.{Reads, AreRowsOf}
use Rattle.lrs_store_tables.proofs.Answers.{over, shown_of}
use Rattle.lrs_store_tables.proofs.AloneStatements.{IsAlone}
use Rattle.lrs_store_tables.proofs.ReadLemmas.{reads}
use Rattle.lrs_store_tables.proofs.FailLemmas.{fails}

module _ (sql : List ℕ) (names : List (List ℕ)) (tree : ℕ) (project : List Term) (places : List ℕ)
    (is : (command_of (understood inventory sql) ≡ Select (record { lets = []; body = over tree [] project [] }) names) × (IsPlain (understood inventory sql) × (reads_listing inventory sql ≡ false)))
    (alone : IsAlone sql (understood inventory sql)) (typed : accepts_program inventory [] (over tree [] project []) [] ≡ true)
    (shows : (r : Row) → shown_of project [] r ≡ map (column r) places) where
  -- the query's clauses are those of a read
  pub reads_table : {S X : Type 0} {g : Ghosts S} (table : Tables → List X) (said : Row → X) → ((db : Trees) → table (stored db) ≡ map said (rows_of db tree places))
      → (old new : Transaction S) (result : Result (Vec Row) Error) → new.conn.ghost_name ≡ old.conn.ghost_name
      → (HasCleanDisk (state g new.conn.now) → IfOk result (λ rows. Shown sql [] (state g old.conn.now) (state g new.conn.now) rows.items))
      → (HasCleanDisk (state g new.conn.now) → IfErr result (λ e. FailsToQuery sql [] (state g old.conn.now) (state g new.conn.now) e ⊎ IsTooLate sql [] (state g old.conn.now) (state g new.conn.now) e))
      → LeavesStore (state g old.conn.now) (state g new.conn.now) → Reads g (AreRowsOf table said) old new result
  reads_table {S} {X} {g} table said of old new (Ok rows) same ok err survives = record {
    same_reference = same;
    read = λ clean writing.
        let found = reads sql names tree project places is shows (state g old.conn.now) (state g new.conn.now) rows.items writing (ok clean) in
        record { rows = subst (λ ys. IsPermutation ys (map said rows.items)) (sym (of (state g old.conn.now).now.trees)) (IsPermutation-map said _ _ found.0); same = found.1 };
    cause = λ writing clean. tt;
    survives = survives;
  }
  reads_table {S} {X} {g} table said of old new (Err e) same ok err survives = record {
    same_reference = same;
    read = λ clean writing. tt;
    cause = λ writing clean. fails sql names tree project is alone typed (state g old.conn.now) (state g new.conn.now) e writing.schema (err clean);
    survives = survives;
  }
