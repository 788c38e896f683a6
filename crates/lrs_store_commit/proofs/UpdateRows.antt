-- What UPDATE .. WHERE makes of a plain table: the rows that pass go, and what they become is put.
use Rattle.std.proofs.Common.{◌≡◌, ◌≢◌, ℕ, List, [], ◌∷◌, ◌++◌, map, Option, None, Ok, Bool, true, false, slice_get, Some, not, drop, refl, sym, ap, subst, ◌∙◌}
use Rattle.std.specs.Prelude.{filter}
use Rattle.std.specs.List.{AllByRecursion}
use Rattle.std.specs.List.Sorted.{IsPermutation}
use Rattle.std.proofs.lemmas.Bool.{and_parts}
use Rattle.std.proofs.lemmas.List.Sorted.{IsPermutation-map, IsPermutation-refl, IsPermutation-trans, IsPermutation-sym, IsPermutation-middle, IsPermutation-append_right}
use Rattle.sqlite_value.specs.declared.value.Value.TheVariants.{Null, Int}
use Rattle.sqlite_value.specs.declared.keys.Order.{Order}
use Rattle.sqlite_value.specs.Order.{Row}
use Rattle.sqlite_sql.specs.Term.{Term, col}
use Rattle.sqlite_schema.specs.declared.schema.Column.{Column}
use Rattle.sqlite_schema.specs.declared.schema.Reference.{Reference}
use Rattle.sqlite_schema.specs.declared.schema.Table.{Table}
use Rattle.sqlite_schema.specs.declared.schema.Constraint.TheVariants.{Datatype, NotNull}
use Rattle.sqlite_schema.specs.Rules.{Keeps}
use Rattle.sqlite_schema.specs.declared.schema.Schema.{Schema}
use Rattle.sqlite_schema.specs.declared.schema.Keys.TheVariants.{Enforced}
use Rattle.sqlite_schema.specs.declared.program.Program.{Program}
use Rattle.sqlite_schema.specs.declared.command.Command.TheVariants.{Update}
use Rattle.sqlite_trees.specs.Tree.{Trees, rowid, put_row, IsTable}
use Rattle.sqlite_rules.specs.declared.error.Rowids.TheVariants.{Given}
use Rattle.sqlite_rules.specs.Calls.{ids_of}
use Rattle.sqlite_rules.specs.Cast.{cast_row}
use Rattle.sqlite_rules.specs.Edit.{edit_of, taken_by, numbered, without_all, put_all, is_taken, are_fresh, have_rowids}
use Rattle.sqlite.specs.Listing.{understood}
use Rattle.sqlite.specs.Effect.{Database}
use Rattle.sqlite.specs.Rows.{Written, Updates}
use Rattle.sqlite.specs.Does.{Does}
use Rattle.sqlite.specs.State.{State, mode_of, Executes}
use Rattle.sqlite.proofs.Callers.{IsPlain, command_of, statement_of, runs_as, one_step}
use Rattle.lrs_store_tables.specs.Schema.{table}
use Rattle.lrs_store_tables.proofs.Answers.{over, passes, shown_of, answers, map_map}
use Rattle.lrs_store_commit.proofs.DeleteLemmas.{deleted, id_of}
use Rattle.lrs_store_tables.proofs.Rows.{NeverActs, works_none, went, same_value, concluded, task_on, put_row_permutes}

-- rows that are given their numbers keep them
given_same : (rows xs : List Row) → numbered Given rows xs ≡ xs
given_same rows [] = refl
given_same rows (x ∷ xs) = ap (λ ys. x ∷ ys) (given_same (put_row x rows) xs)

fresh_first : (b : Bool) → not b ≡ true → b ≡ false
fresh_first true h = absurd cc
fresh_first false h = refl

pub put_all_permutes : (news rows : List Row) → are_fresh rows news ≡ true → IsPermutation (news ++ rows) (put_all rows news)
put_all_permutes [] rows fresh = IsPermutation-refl rows
put_all_permutes (r ∷ rs) rows fresh =
    let it = and_parts _ _ fresh in
    let one = put_row_permutes r rows (fresh_first (is_taken rows r) it.0) in
    IsPermutation-trans _ _ _ (IsPermutation-sym _ _ (IsPermutation-middle rs r rows))
    (IsPermutation-trans _ _ _ (IsPermutation-append_right rs _ _ one) (put_all_permutes rs (put_row r rows) it.1))

-- the old rowid, and then the new row
abbrev pub changing : ℕ → List Term → List Term → Program
changing tree tests new_row = record { lets = []; body = over tree tests (col 1 0 ∷ new_row) [] }

module _ (schema : Schema) (at tree : ℕ) (name : List ℕ) (key : Option ℕ) (primary : List ℕ) (uniques : List (List ℕ)) (orders : List Order) (references : List Reference) (columns : List Column)
    (never : NeverActs schema) (tests new_row : List Term) where
  abbrev its : Table
  its = table name tree key primary uniques orders references columns

  -- what a row becomes
  abbrev pub becomes : Row → Row → Row
  becomes params r = cast_row its (drop 1 (shown_of (col 1 0 ∷ new_row) params r))

  pub record Changes (params : Row) (db next : Trees) : Type 0 where
    pub news : List Row
    pub are : IsPermutation (map (becomes params) (filter (passes tests params) (db tree))) news
    pub fresh : are_fresh (filter (λ r. not (passes tests params r)) (db tree)) news ≡ true
    pub rows : next tree ≡ put_all (filter (λ r. not (passes tests params r)) (db tree)) news
    pub keyed : have_rowids news ≡ true
    pub others : AllByRecursion (λ (t : Table). t.tree ≢ tree → next t.tree ≡ db t.tree) schema.tables
    pub typed : Keeps Datatype schema next
    pub present : Keeps NotNull schema next

  rows_changed : (limit : Option ℕ) (params : Row) (db : Trees) (w : Written) → IsTable (db tree) → AllByRecursion (λ x. Int (id_of x) ≡ rowid x) (db tree)
      → Updates (task_on limit schema its params) (changing tree tests new_row) params db (Ok w) → Changes params db w.trees
  rows_changed limit params db w up ints h =
      let queried = went h in
      let written = went queried.2 in
      let ended = written.2 in
      let rows = queried.0 in
      let edit = edit_of db its (ids_of rows) Given 1 rows in
      let applied = one_step schema Enforced db written.0 edit (works_none schema 0 tree (taken_by db edit) edit.news never) written.1 in
      let trees : w.trees ≡ written.0 = ap (λ (it : Written). it.trees) (same_value ended) in
      let p = passes tests params in
      let picked = filter p (db tree) in
      let answered = answers tree tests (col 1 0 ∷ new_row) [] db params rows (queried.1.answer Null) in
      let shown = IsPermutation-map id_of _ _ answered in
      let found : IsPermutation (map id_of picked) (ids_of rows) = subst (λ ids. IsPermutation ids (ids_of rows)) (map_map (shown_of (col 1 0 ∷ new_row) params) id_of picked) shown in
      let left = deleted p (db tree) (ids_of rows) up ints found in
      let made = map (λ s. cast_row its (drop 1 s)) rows in
      let news : edit.news ≡ made = given_same (without_all (db tree) (ids_of rows)) made in
      let are : IsPermutation (map (becomes params) picked) made =
      subst (λ l. IsPermutation l made) (map_map (shown_of (col 1 0 ∷ new_row) params) (λ s. cast_row its (drop 1 s)) picked) (IsPermutation-map (λ s. cast_row its (drop 1 s)) _ _ answered) in
      subst (Changes params db) (sym trees) (record {
        news = made;
        are = are;
        fresh = subst (λ l. are_fresh l made ≡ true) left (subst (λ ns. are_fresh (without_all (db tree) (ids_of rows)) ns ≡ true) news applied.fresh);
        rows = applied.rows ∙ ap (put_all (without_all (db tree) (ids_of rows))) news ∙ ap (λ l. put_all l made) left;
        keyed = subst (λ ns. have_rowids ns ≡ true) news applied.keyed;
        others = applied.tables;
        typed = applied.fits.rules Datatype (λ e. absurd cc);
        present = applied.fits.rules NotNull (λ e. absurd cc);
      })

  pub changes : slice_get schema.tables at ≡ Some its → (sql : List ℕ) (params : Row) (old new : State) (count : ℕ) → old.now.schema ≡ schema
      → command_of (understood schema sql) ≡ Update at (changing tree tests new_row) → IsPlain (understood schema sql) → IsTable (old.now.trees tree) → AllByRecursion (λ x. Int (id_of x) ≡ rowid x) (old.now.trees tree)
      → Executes sql params old new (Ok count) → (new.now.schema ≡ schema) × Changes params old.now.trees new.now.trees
  changes placed sql params old new count has is plain up ints h =
      let db = old.now.trees in
      let command = Update at (changing tree tests new_row) in
      let w = runs_as sql params old new schema has command is plain count h in
      let text = statement_of sql (understood schema sql) in
      let done = went (rw placed at (subst (λ s. Does old.step_limit (mode_of old) params (record old.now { schema = s }) text None command (Ok (w.tally, new.now))) has w.changed)) in
      let now = concluded (task_on old.step_limit schema its params) (mode_of old) done.0 w.tally new.now done.2 in
      let made = rows_changed old.step_limit params db done.0 up ints done.1 in
      (ap (λ (d : Database). d.schema) now, subst (Changes params db) (sym (ap (λ (d : Database). d.trees) now)) made)
