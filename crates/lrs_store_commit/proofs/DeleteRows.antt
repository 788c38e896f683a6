-- What DELETE .. WHERE makes of a plain table.
use Rattle.std.proofs.Common.{◌≡◌, ◌≢◌, ℕ, List, [], ◌∷◌, map, Option, None, Ok, slice_get, Some, not, sym, ap, subst, ◌∙◌}
use Rattle.std.specs.Prelude.{filter}
use Rattle.std.specs.List.{AllByRecursion}
use Rattle.std.specs.List.Sorted.{IsPermutation}
use Rattle.std.proofs.lemmas.List.Sorted.{IsPermutation-map}
use Rattle.sqlite_value.specs.declared.value.Value.TheVariants.{Null, Int}
use Rattle.sqlite_value.specs.declared.keys.Order.{Order}
use Rattle.sqlite_value.specs.Order.{Row}
use Rattle.sqlite_sql.specs.Term.{Term, col}
use Rattle.sqlite_schema.specs.declared.schema.Column.{Column}
use Rattle.sqlite_schema.specs.declared.schema.Reference.{Reference}
use Rattle.sqlite_schema.specs.declared.schema.Table.{Table}
use Rattle.sqlite_schema.specs.declared.schema.Constraint.TheVariants.{Datatype, NotNull}
use Rattle.sqlite_schema.specs.Rules.{Keeps}
use Rattle.sqlite_schema.specs.declared.schema.Schema.{Schema}
use Rattle.sqlite_schema.specs.declared.schema.Keys.TheVariants.{Enforced}
use Rattle.sqlite_schema.specs.declared.program.Program.{Program}
use Rattle.sqlite_schema.specs.declared.command.Command.TheVariants.{Delete}
use Rattle.sqlite_trees.specs.Tree.{Trees, rowid, IsTable}
use Rattle.sqlite_rules.specs.declared.error.Rowids.TheVariants.{Given}
use Rattle.sqlite_rules.specs.Calls.{ids_of}
use Rattle.sqlite_rules.specs.Edit.{edit_of, taken_by}
use Rattle.sqlite.specs.Listing.{understood}
use Rattle.sqlite.specs.Effect.{Database}
use Rattle.sqlite.specs.Rows.{Written, Deletes}
use Rattle.sqlite.specs.Does.{Does}
use Rattle.sqlite.specs.State.{State, mode_of, Executes}
use Rattle.sqlite.proofs.Callers.{IsPlain, command_of, statement_of, runs_as, one_step}
use Rattle.lrs_store_tables.specs.Schema.{table}
use Rattle.lrs_store_tables.proofs.Answers.{over, passes, shown_of, answers, map_map}
use Rattle.lrs_store_commit.proofs.DeleteLemmas.{deleted, id_of}
use Rattle.lrs_store_tables.proofs.Rows.{NeverActs, works_none, went, same_value, concluded, task_on}

-- the rows that pass are gone, and the others stay in their order
pub record Removes (schema : Schema) (tree : ℕ) (tests : List Term) (params : Row) (db next : Trees) : Type 0 where
  pub rows : next tree ≡ filter (λ r. not (passes tests params r)) (db tree)
  pub others : AllByRecursion (λ (t : Table). t.tree ≢ tree → next t.tree ≡ db t.tree) schema.tables
  pub typed : Keeps Datatype schema next
  pub present : Keeps NotNull schema next

abbrev pub finding : ℕ → List Term → Program
finding tree tests = record { lets = []; body = over tree tests (col 1 0 ∷ []) [] }

module _ (schema : Schema) (at tree : ℕ) (name : List ℕ) (key : Option ℕ) (primary : List ℕ) (uniques : List (List ℕ)) (orders : List Order) (references : List Reference) (columns : List Column)
    (never : NeverActs schema) (tests : List Term) where
  abbrev its : Table
  its = table name tree key primary uniques orders references columns

  rows_removed : (limit : Option ℕ) (params : Row) (db : Trees) (w : Written) → IsTable (db tree) → AllByRecursion (λ x. Int (id_of x) ≡ rowid x) (db tree)
      → Deletes (task_on limit schema its params) (finding tree tests) db (Ok w) → Removes schema tree tests params db w.trees
  rows_removed limit params db w up ints h =
      let queried = went h in
      let written = went queried.2 in
      let ended = written.2 in
      let edit = edit_of db its (ids_of queried.0) Given 0 [] in
      let applied = one_step schema Enforced db written.0 edit (works_none schema 0 tree (taken_by db edit) edit.news never) written.1 in
      let trees : w.trees ≡ written.0 = ap (λ (it : Written). it.trees) (same_value ended) in
      let shown = IsPermutation-map id_of _ _ (answers tree tests (col 1 0 ∷ []) [] db params queried.0 (queried.1.answer Null)) in
      let found : IsPermutation (map id_of (filter (passes tests params) (db tree))) (ids_of queried.0) =
      subst (λ ids. IsPermutation ids (ids_of queried.0)) (map_map (shown_of (col 1 0 ∷ []) params) id_of (filter (passes tests params) (db tree))) shown in
      subst (Removes schema tree tests params db) (sym trees) (record { rows = applied.rows ∙ deleted (passes tests params) (db tree) (ids_of queried.0) up ints found; others = applied.tables; typed = applied.fits.rules Datatype (λ e. absurd cc); present = applied.fits.rules NotNull (λ e. absurd cc) })

  pub removes : slice_get schema.tables at ≡ Some its → (sql : List ℕ) (params : Row) (old new : State) (count : ℕ) → old.now.schema ≡ schema
      → command_of (understood schema sql) ≡ Delete at (finding tree tests) → IsPlain (understood schema sql) → IsTable (old.now.trees tree) → AllByRecursion (λ x. Int (id_of x) ≡ rowid x) (old.now.trees tree)
      → Executes sql params old new (Ok count) → (new.now.schema ≡ schema) × Removes schema tree tests params old.now.trees new.now.trees
  removes placed sql params old new count has is plain up ints h =
      let db = old.now.trees in
      let command = Delete at (finding tree tests) in
      let w = runs_as sql params old new schema has command is plain count h in
      let text = statement_of sql (understood schema sql) in
      let done = went (rw placed at (subst (λ s. Does old.step_limit (mode_of old) params (record old.now { schema = s }) text None command (Ok (w.tally, new.now))) has w.changed)) in
      let now = concluded (task_on old.step_limit schema its params) (mode_of old) done.0 w.tally new.now done.2 in
      let gone = rows_removed old.step_limit params db done.0 up ints done.1 in
      (ap (λ (d : Database). d.schema) now, subst (Removes schema tree tests params db) (sym (ap (λ (d : Database). d.trees) now)) gone)
