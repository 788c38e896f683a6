-- What an UPDATE makes of a table, and what stays true of all tables.
use Rattle.std.proofs.Common.{◌≡◌, ℕ, List, [], ◌∷◌, ◌++◌, map, Option, Some, None, Ok, Bool, true, false, cond, not, drop, slice_get, IsTrue, refl, sym, ap, subst, subst₂, ◌∙◌, if◌then◌else◌}
use Rattle.std.specs.Prelude.{filter}
use Rattle.std.specs.List.{AllByRecursion}
use Rattle.std.specs.List.Sorted.{IsPermutation}
use Rattle.std.proofs.lemmas.Bool.{and_parts}
use Rattle.std.proofs.lemmas.List.Sorted.{IsPermutation-map, IsPermutation-refl, IsPermutation-cons, IsPermutation-trans, IsPermutation-sym, IsPermutation-middle, IsPermutation-append_left}
use Rattle.sqlite_value.specs.declared.value.Value.{Value}
use Rattle.sqlite_value.specs.declared.value.Value.TheVariants.{Null, Int, Real, Text, Blob}
use Rattle.sqlite_value.specs.declared.keys.Order.{Order}
use Rattle.sqlite_value.specs.Order.{Row, column}
use Rattle.sqlite_sql.specs.Term.{Term, col}
use Rattle.sqlite_schema.specs.declared.schema.Column.{Column}
use Rattle.sqlite_schema.specs.declared.schema.Reference.{Reference}
use Rattle.sqlite_schema.specs.declared.schema.Table.{Table}
use Rattle.sqlite_schema.specs.declared.command.Command.TheVariants.{Update}
use Rattle.sqlite_schema.specs.Rules.{are_typed, are_present}
use Rattle.sqlite_trees.specs.Tree.{rowid, put_row}
use Rattle.sqlite_trees.specs.View.{is_int}
use Rattle.sqlite_rules.specs.Cast.{cast_row}
use Rattle.sqlite_rules.specs.Edit.{id_in, have_rowids, put_all}
use Rattle.sqlite_keyed.proofs.ListLemmas.{all-slice_get, all_both}
use Rattle.sqlite.specs.Listing.{understood}
use Rattle.sqlite.specs.State.{State, ExecutesInside}
use Rattle.sqlite.proofs.Callers.{IsPlain, command_of}
use Rattle.lrs_store_tables.specs.Schema.{table, inventory}
use Rattle.lrs_store_tables.specs.StoredRows.{rows_of, IsWriting, AreNumbered}
use Rattle.lrs_store_tables.proofs.Answers.{passes, shown_of}
use Rattle.lrs_store_commit.proofs.UpdateRows.{changes, changing, put_all_permutes}
use Rattle.lrs_store_commit.proofs.Deleting.{filled, IsFilled, numbered_left, map_twice}
use Rattle.lrs_store_tables.proofs.Inserting.{never, still_all, numbered_put}
use Rattle.lrs_store_tables.proofs.Only.{SparesOthers}

whole_rowid : (v : Value) → is_int v ≡ true → Int (id_in v) ≡ v
whole_rowid Null h = absurd cc
whole_rowid (Int n) h = refl
whole_rowid (Real x) h = absurd cc
whole_rowid (Text t) h = absurd cc
whole_rowid (Blob b) h = absurd cc

numbered_all : (news rows : List Row) → have_rowids news ≡ true → AreNumbered rows → AreNumbered (put_all rows news)
numbered_all [] rows h are = are
numbered_all (r ∷ rs) rows h are =
    let it = and_parts _ _ h in
    numbered_all rs (put_row r rows) it.1 (numbered_put r rows (whole_rowid (rowid r) it.0) are)

-- what becomes of those that pass, and the others, are what becomes of all
parted : (p : Row → Bool) (g : Row → Row) (xs : List Row) → IsPermutation (map (λ r. cond (p r) (g r) r) xs) (map g (filter p xs) ++ filter (λ r. not (p r)) xs)
parted p g [] = IsPermutation-refl []
parted p g (x ∷ xs) = go (p x) (parted p g xs)
  where
    go : (b : Bool) → IsPermutation (map (λ r. cond (p r) (g r) r) xs) (map g (filter p xs) ++ filter (λ r. not (p r)) xs)
        → IsPermutation (cond b (g x) x ∷ map (λ r. cond (p r) (g r) r) xs) (map g (cond b (x ∷ filter p xs) (filter p xs)) ++ cond (not b) (x ∷ filter (λ r. not (p r)) xs) (filter (λ r. not (p r)) xs))
    go true more = IsPermutation-cons (g x) _ _ more
    go false more = IsPermutation-trans _ _ _ (IsPermutation-cons x _ _ more) (IsPermutation-sym _ _ (IsPermutation-middle (map g (filter p xs)) x (filter (λ r. not (p r)) xs)))

each_changed : {X : Type 0} (p : Row → Bool) (g : Row → Row) (q : X → Bool) (change : X → X) (f : Row → X) (rows : List Row) → AllByRecursion (λ r. (p r ≡ q (f r)) × (f (g r) ≡ change (f r))) rows
    → map f (map (λ r. cond (p r) (g r) r) rows) ≡ map (λ x. if q x then change x else x) (map f rows)
each_changed p g q change f [] h = refl
each_changed {X} p g q change f (r ∷ rs) h = go (p r) (q (f r)) h.0.0 (each_changed p g q change f rs h.1)
  where
    go : (a b : Bool) → a ≡ b → map f (map (λ r. cond (p r) (g r) r) rs) ≡ map (λ x. if q x then change x else x) (map f rs)
        → f (cond a (g r) r) ∷ map f (map (λ r. cond (p r) (g r) r) rs) ≡ cond b (change (f r)) (f r) ∷ map (λ x. if q x then change x else x) (map f rs)
    go true true e more = ap (λ x. x ∷ map f (map (λ r. cond (p r) (g r) r) rs)) h.0.1 ∙ ap (λ xs. change (f r) ∷ xs) more
    go true false e more = absurd cc
    go false true e more = absurd cc
    go false false e more = ap (λ xs. f r ∷ xs) more

module _ (at : ℕ) (name : List ℕ) (tree : ℕ) (key : Option ℕ) (primary : List ℕ) (uniques : List (List ℕ)) (orders : List Order) (references : List Reference) (columns : List Column)
    (placed : slice_get inventory.tables at ≡ Some (table name tree key primary uniques orders references columns)) (keyless : key ≡ None) where
  abbrev its : Table
  its = table name tree key primary uniques orders references columns

  pub record Changed {X : Type 0} (said : Row → X) (places : List ℕ) (q : X → Bool) (change : X → X) (old new : State) : Type 0 where
    pub writing : IsWriting new
    pub was_open : IsTrue old.is_open
    pub rows : IsPermutation (map (λ x. if q x then change x else x) (map said (rows_of old.now.trees tree places))) (map said (rows_of new.now.trees tree places))
    pub others : SparesOthers tree old.now.trees new.now.trees

  pub renames_rows : {X : Type 0} (sql : List ℕ) (tests new_row : List Term)
      → (command_of (understood inventory sql) ≡ Update at (changing tree tests new_row)) × IsPlain (understood inventory sql) → (said : Row → X) (places : List ℕ) (q : X → Bool) (change : X → X) (params : Row)
      → ((r : Row) → are_typed None 0 columns (drop 1 r) ≡ true → are_present None 0 columns r ≡ true → passes tests params r ≡ q (said (map (column r) places)))
      → ((r : Row) → Int (id_in (rowid r)) ≡ rowid r → are_typed None 0 columns (drop 1 r) ≡ true → are_present None 0 columns r ≡ true
      → said (map (column (cast_row its (drop 1 (shown_of (col 1 0 ∷ new_row) params r)))) places) ≡ change (said (map (column r) places)))
      → (old new : State) (count : ℕ) → IsWriting old → ExecutesInside 0 sql params old new (Ok count) → Changed said places q change old new
  renames_rows sql tests new_row is said places q change params same becomes old new count writing h =
      let db = old.now.trees in
      let next = new.now.trees in
      let before = writing.tables h.1.was_open in
      let numbered = all-slice_get (λ (t : Table). AreNumbered (db t.tree)) inventory.tables at its placed before.numbered in
      let got = changes inventory at tree name key primary uniques orders references columns never tests new_row placed
      sql params old new count (writing.schema h.1.was_open) is.0 is.1 numbered.rise numbered.numbers h.0 in
      let p = passes tests params in
      let g = λ (r : Row). cast_row its (drop 1 (shown_of (col 1 0 ∷ new_row) params r)) in
      let left = filter (λ r. not (p r)) (db tree) in
      let f = λ (r : Row). said (map (column r) places) in
      let full = filled at name tree key primary uniques orders references columns placed keyless db before.typed before.present in
      let each = all_both (λ r. Int (id_in (rowid r)) ≡ rowid r) (IsFilled at name tree key primary uniques orders references columns placed keyless) (λ r. (p r ≡ q (f r)) × (f (g r) ≡ change (f r)))
      (λ r a b. (same r b.0 b.1, becomes r a b.0 b.1)) (db tree) numbered.numbers full in
      let all = IsPermutation-trans _ _ _ (parted p g (db tree)) (IsPermutation-trans _ _ _ (IsPermutation-append_left left _ _ got.1.are) (put_all_permutes got.1.news left got.1.fresh)) in
      let shown = IsPermutation-map f _ _ (subst (λ l. IsPermutation (map (λ r. cond (p r) (g r) r) (db tree)) l) (sym got.1.rows) all) in
      let own : AreNumbered (next tree) = subst AreNumbered (sym got.1.rows) (numbered_all got.1.news left got.1.keyed (numbered_left (λ r. not (p r)) (db tree) numbered)) in
      record {
        writing = record {
          begun = h.1.mode;
          schema = λ _. got.0;
          tables = λ _. record { numbered = still_all AreNumbered tree db next inventory.tables got.1.others own before.numbered; typed = got.1.typed; present = got.1.present };
        };
        was_open = h.1.was_open;
        rows = subst₂ IsPermutation (each_changed p g q change f (db tree) each ∙ ap (map (λ x. if q x then change x else x)) (sym (map_twice (λ r. map (column r) places) said (db tree)))) (sym (map_twice (λ r. map (column r) places) said (next tree))) shown;
        others = got.1.others;
      }
