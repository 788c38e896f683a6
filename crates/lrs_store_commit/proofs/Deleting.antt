-- What a DELETE makes of a table, and what stays true of all tables.
use Rattle.std.proofs.Common.{◌≡◌, ℕ, List, [], ◌∷◌, map, Option, Some, None, Ok, Bool, true, false, cond, not, drop, slice_get, IsTrue, refl, sym, ap, subst, ◌∙◌}
use Rattle.std.specs.Prelude.{filter}
use Rattle.std.specs.List.{AllByRecursion}
use Rattle.std.specs.Ordering.{is_eq}
use Rattle.std.proofs.lemmas.Bool.{and_parts}
use Rattle.sqlite_value.specs.declared.value.Value.{Value}
use Rattle.sqlite_value.specs.declared.value.Value.TheVariants.{Null, Int, Real, Text, Blob}
use Rattle.sqlite_value.specs.declared.keys.Order.{Order}
use Rattle.sqlite_value.specs.declared.keys.Collation.TheVariants.{Binary}
use Rattle.sqlite_value.specs.Order.{Row, column, value_cmp}
use Rattle.sqlite_value.proofs.OrderLemmas.{value_cmp-Null}
use Rattle.sqlite_sql.specs.Term.{Term}
use Rattle.sqlite_sql.specs.Ops.{binary, is_null, is_true, from_truth}
use Rattle.sqlite_sql.specs.declared.ops.BinaryOp.TheVariants as by
use Rattle.sqlite_sql.specs.declared.ops.CompareOp.TheVariants.{Eq}
use Rattle.sqlite_schema.specs.declared.schema.Column.{Column}
use Rattle.sqlite_schema.specs.declared.schema.Reference.{Reference}
use Rattle.sqlite_schema.specs.declared.schema.Table.{Table}
use Rattle.sqlite_schema.specs.declared.schema.Constraint.TheVariants as rule
use Rattle.sqlite_schema.specs.declared.command.Command.TheVariants.{Delete}
use Rattle.sqlite_schema.specs.Rules.{are_typed, are_present}
use Rattle.sqlite_schema.specs.Rules as rules
use Rattle.sqlite_trees.specs.Tree.{Trees}
use Rattle.sqlite_keyed.proofs.ListLemmas.{ascending-filter, all-filter, all-slice_get, all_both}
use Rattle.sqlite.specs.Listing.{understood}
use Rattle.sqlite.specs.State.{State, ExecutesInside}
use Rattle.sqlite.proofs.Callers.{IsPlain, command_of}
use Rattle.lrs_store_tables.specs.Schema.{table, inventory}
use Rattle.lrs_store_tables.specs.StoredRows.{rows_of, IsWriting, AreNumbered}
use Rattle.lrs_store_tables.proofs.Answers.{passes}
use Rattle.lrs_store_commit.proofs.DeleteRows.{removes, finding}
use Rattle.lrs_store_tables.proofs.Inserting.{never, still_all}
use Rattle.lrs_store_tables.proofs.Only.{SparesOthers}

-- `=` of a cell and a value that is not NULL
pub holds_eq : (a b : Value) → is_null b ≡ false → is_true (binary (by.Compare Eq Binary) a b) ≡ is_eq (value_cmp a b)
unfolding binary
holds_eq a b full = go (is_null a) refl
  where
    truth_back : (t : Bool) → is_true (from_truth (Some t)) ≡ t
    truth_back true = refl
    truth_back false = refl

    null_apart : (a b : Value) → is_null a ≡ true → is_null b ≡ false → is_eq (value_cmp a b) ≡ false
    null_apart Null Null h k = absurd cc
    null_apart Null (Int n) h k = ap is_eq (value_cmp-Null (Int n))
    null_apart Null (Real x) h k = ap is_eq (value_cmp-Null (Real x))
    null_apart Null (Text t) h k = ap is_eq (value_cmp-Null (Text t))
    null_apart Null (Blob t) h k = ap is_eq (value_cmp-Null (Blob t))
    null_apart (Int n) b h k = absurd cc
    null_apart (Real x) b h k = absurd cc
    null_apart (Text t) b h k = absurd cc
    null_apart (Blob t) b h k = absurd cc

    go : (n : Bool) → is_null a ≡ n → is_true (binary (by.Compare Eq Binary) a b) ≡ is_eq (value_cmp a b)
    go true e = rw (e) (sym (null_apart a b e full))
    go false e = rw (e, full) (truth_back (is_eq (value_cmp a b)))

pub numbered_left : (p : Row → Bool) (rows : List Row) → AreNumbered rows → AreNumbered (filter p rows)
numbered_left p rows are = record { rise = ascending-filter _ p rows are.rise; numbers = all-filter _ p rows are.numbers }

-- rows that go by a test, as their columns show it
left_shown : {X : Type 0} (p : Row → Bool) (q : X → Bool) (f : Row → X) (rows : List Row) → AllByRecursion (λ r. p r ≡ q (f r)) rows → map f (filter (λ r. not (p r)) rows) ≡ filter (λ x. not (q x)) (map f rows)
left_shown p q f [] h = refl
left_shown {X} p q f (r ∷ rs) h = go (p r) (q (f r)) h.0 (left_shown p q f rs h.1)
  where
    go : (a b : Bool) → a ≡ b → map f (filter (λ r. not (p r)) rs) ≡ filter (λ x. not (q x)) (map f rs)
        → map f (cond (not a) (r ∷ filter (λ r. not (p r)) rs) (filter (λ r. not (p r)) rs)) ≡ cond (not b) (f r ∷ filter (λ x. not (q x)) (map f rs)) (filter (λ x. not (q x)) (map f rs))
    go true true e more = more
    go true false e more = absurd cc
    go false true e more = absurd cc
    go false false e more = ap (λ xs. f r ∷ xs) more

pub map_twice : {X : Type 0} (f : Row → Row) (g : Row → X) (xs : List Row) → map g (map f xs) ≡ map (λ x. g (f x)) xs
map_twice f g [] = refl
map_twice f g (x ∷ xs) = ap (λ ys. g (f x) ∷ ys) (map_twice f g xs)

module _ (at : ℕ) (name : List ℕ) (tree : ℕ) (key : Option ℕ) (primary : List ℕ) (uniques : List (List ℕ)) (orders : List Order) (references : List Reference) (columns : List Column)
    (placed : slice_get inventory.tables at ≡ Some (table name tree key primary uniques orders references columns)) (keyless : key ≡ None) where
  abbrev its : Table
  its = table name tree key primary uniques orders references columns

  -- what is true of each row of the table
  abbrev pub IsFilled : Row → Type 0
  IsFilled r = (are_typed None 0 columns (drop 1 r) ≡ true) × (are_present None 0 columns r ≡ true)

  pub filled : (db : Trees) → rules.Keeps rule.Datatype inventory db → rules.Keeps rule.NotNull inventory db → AllByRecursion IsFilled (db tree)
  filled db typed present =
      let one = all-slice_get (λ (t : Table). AllByRecursion (λ row. rules.passes rule.Datatype inventory db t row ≡ true) (db t.tree)) inventory.tables at its placed typed in
      let two = all-slice_get (λ (t : Table). AllByRecursion (λ row. rules.passes rule.NotNull inventory db t row ≡ true) (db t.tree)) inventory.tables at its placed present in
      all_both (λ row. rules.passes rule.Datatype inventory db its row ≡ true) (λ row. rules.passes rule.NotNull inventory db its row ≡ true) IsFilled
      (λ r a b. (subst (λ k. are_typed k 0 columns (drop 1 r) ≡ true) keyless (and_parts _ _ a).0, subst (λ k. are_present k 0 columns r ≡ true) keyless b)) (db tree) one two

  pub record Taken {X : Type 0} (said : Row → X) (places : List ℕ) (q : X → Bool) (old new : State) : Type 0 where
    pub writing : IsWriting new
    pub was_open : IsTrue old.is_open
    pub rows : map said (rows_of new.now.trees tree places) ≡ filter (λ x. not (q x)) (map said (rows_of old.now.trees tree places))
    pub others : SparesOthers tree old.now.trees new.now.trees

  pub takes_rows : {X : Type 0} (sql : List ℕ) (tests : List Term)
      → (command_of (understood inventory sql) ≡ Delete at (finding tree tests)) × IsPlain (understood inventory sql) → (said : Row → X) (places : List ℕ) (q : X → Bool) (params : Row)
      → ((r : Row) → are_typed None 0 columns (drop 1 r) ≡ true → are_present None 0 columns r ≡ true → passes tests params r ≡ q (said (map (column r) places)))
      → (old new : State) (count : ℕ) → IsWriting old → ExecutesInside 0 sql params old new (Ok count) → Taken said places q old new
  takes_rows sql tests is said places q params same old new count writing h =
      let db = old.now.trees in
      let next = new.now.trees in
      let before = writing.tables h.1.was_open in
      let numbered = all-slice_get (λ (t : Table). AreNumbered (db t.tree)) inventory.tables at its placed before.numbered in
      let got = removes inventory at tree name key primary uniques orders references columns never tests placed
      sql params old new count (writing.schema h.1.was_open) is.0 is.1 numbered.rise numbered.numbers h.0 in
      let p = passes tests params in
      let f = λ (r : Row). map (column r) places in
      let each = all_both IsFilled IsFilled (λ r. p r ≡ q (said (f r))) (λ r a b. same r a.0 a.1) (db tree) (filled db before.typed before.present) (filled db before.typed before.present) in
      let shown = map_twice f said (next tree) ∙ ap (map (λ r. said (f r))) got.1.rows ∙ left_shown p q (λ r. said (f r)) (db tree) each ∙ ap (filter (λ x. not (q x))) (sym (map_twice f said (db tree))) in
      let own : AreNumbered (next tree) = subst AreNumbered (sym got.1.rows) (numbered_left (λ r. not (p r)) (db tree) numbered) in
      record {
        writing = record {
          begun = h.1.mode;
          schema = λ _. got.0;
          tables = λ _. record { numbered = still_all AreNumbered tree db next inventory.tables got.1.others own before.numbered; typed = got.1.typed; present = got.1.present };
        };
        was_open = h.1.was_open;
        rows = shown;
        others = got.1.others;
      }
