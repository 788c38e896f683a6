-- What an INSERT of rows makes of a table, and what stays true of all tables.
use Rattle.std.proofs.Common.{◌≡◌, ◌≢◌, inl, inr, ℕ, List, [], ◌∷◌, ◌++◌, map, length, ◌/◌, Option, Some, Ok, slice_get, true, IsTrue, refl, sym, ap, ap₂, subst, ◌∙◌, Ordering, Less, Equal, Greater}
use Rattle.std.specs.List.{AllByRecursion}
use Rattle.std.specs.List.Sorted.{IsPermutation}
use Rattle.std.specs.Ordering.{match_ordering}
use Rattle.std.proofs.lemmas.Bool.{cases_eq}
use Rattle.sqlite_value.specs.declared.value.Value.{Value}
use Rattle.sqlite_value.specs.declared.value.Value.TheVariants.{Int}
use Rattle.sqlite_value.specs.declared.keys.Order.{Order}
use Rattle.sqlite_value.specs.Order.{Row, column, value_cmp}
use Rattle.sqlite_sql.specs.Term.{Term}
use Rattle.sqlite_schema.specs.declared.schema.Kind.TheVariants as kind
use Rattle.sqlite_schema.specs.declared.schema.Column.{Column}
use Rattle.sqlite_schema.specs.declared.schema.Reference.{Reference}
use Rattle.sqlite_schema.specs.declared.schema.Table.{Table}
use Rattle.sqlite_schema.specs.declared.command.Source.TheVariants.{Values}
use Rattle.sqlite_schema.specs.declared.command.Command.TheVariants.{Insert}
use Rattle.sqlite_trees.specs.Tree.{Trees, rowid, put_row}
use Rattle.sqlite_trees.proofs.TreeLemmas.{IsTable-put_row}
use Rattle.sqlite_rules.specs.declared.error.Rowids.TheVariants.{Chosen}
use Rattle.sqlite_rules.specs.Cast.{cast_row}
use Rattle.sqlite_rules.specs.Edit.{with_rowid, numbered, put_all, id_in}
use Rattle.sqlite_keyed.proofs.ListLemmas.{all-slice_get}
use Rattle.sqlite.specs.Listing.{understood}
use Rattle.sqlite.specs.Effect.{value_rows}
use Rattle.sqlite.specs.State.{State, ExecutesInside}
use Rattle.sqlite.proofs.Callers.{IsPlain, command_of}
use Rattle.lrs_store_tables.specs.Schema.{table, inventory}
use Rattle.lrs_store_tables.specs.StoredRows.{rows_of, IsWriting, AreNumbered}
use Rattle.lrs_store_tables.proofs.Only.{SparesOthers}
use Rattle.lrs_store_tables.proofs.Rows.{NeverActs, rows_for, inserts, suits, all_suit, cast_row_suits, more_shown}

-- no reference of the tables does more than refuse
pub never : NeverActs inventory
never = (tt, (tt, (tt, ((((refl, refl), tt), ((((refl, refl), tt), (tt, (tt, ((((refl, refl), tt), (tt, (tt, (tt, ((((refl, refl), tt), tt))))))))))))))))

-- ---- rows keep their numbers

all-put_row : (P : Row → Type 0) (new : Row) (rows : List Row) → P new → AllByRecursion P rows → AllByRecursion P (put_row new rows)
all-put_row P new [] h all = (h, tt)
all-put_row P new (r ∷ rs) h all = go (value_cmp (rowid r) (rowid new)) (all-put_row P new rs h all.1)
  where
    go : (o : Ordering) → AllByRecursion P (put_row new rs) → AllByRecursion P (match_ordering o (r ∷ put_row new rs) (new ∷ rs) (new ∷ r ∷ rs))
    go Less more = (all.0, more)
    go Equal more = (h, all.1)
    go Greater more = (h, all)

pub numbered_put : (new : Row) (rows : List Row) → Int (id_in (rowid new)) ≡ rowid new → AreNumbered rows → AreNumbered (put_row new rows)
numbered_put new rows h are = record { rise = IsTable-put_row new rows are.rise; numbers = all-put_row _ new rows h are.numbers }

-- what is true of the rows of each table stays true, where it is of those of the table that changes
pub still_all : (P : List Row → Type 0) (tree : ℕ) (db next : Trees) (ts : List Table) → AllByRecursion (λ (t : Table). t.tree ≢ tree → next t.tree ≡ db t.tree) ts
    → P (next tree) → AllByRecursion (λ (t : Table). P (db t.tree)) ts → AllByRecursion (λ (t : Table). P (next t.tree)) ts
still_all P tree db next [] others new all = tt
still_all P tree db next (t ∷ ts) others new all = (
  elim (cases_eq t.tree tree) [
    | inl same ↦ subst (λ n. P (next n)) (sym same) new
    | inr other ↦ subst P (sym (others.0 other)) all.0
  ],
  still_all P tree db next ts others.1 new all.1,
)

-- ---- more rows

module _ {X : Type 0} (source cells : X → Row) (places : List ℕ) where
  -- sources that the table takes as they are
  cast_each : (t : Table) → ((x : X) → cast_row t (source x) ≡ source x) → (xs : List X) → map (cast_row t) (map source xs) ≡ map source xs
  cast_each t same [] = refl
  cast_each t same (x ∷ xs) = ap₂ (λ r rs. r ∷ rs) (same x) (cast_each t same xs)

  -- what the new rows show
  shown_each : ((x : X) (rows : List Row) → map (column (with_rowid Chosen rows (source x))) places ≡ cells x) → (xs : List X) (rows : List Row)
      → map (λ r. map (column r) places) (numbered Chosen rows (map source xs)) ≡ map cells xs
  shown_each shown [] rows = refl
  shown_each shown (x ∷ xs) rows = ap₂ (λ r rs. r ∷ rs) (shown x rows) (shown_each shown xs (put_row (with_rowid Chosen rows (source x)) rows))

  numbered_each : ((x : X) (rows : List Row) → Int (id_in (rowid (with_rowid Chosen rows (source x)))) ≡ rowid (with_rowid Chosen rows (source x))) → (xs : List X) (rows : List Row)
      → AreNumbered rows → AreNumbered (put_all rows (numbered Chosen rows (map source xs)))
  numbered_each is [] rows are = are
  numbered_each is (x ∷ xs) rows are = let row = with_rowid Chosen rows (source x) in numbered_each is xs (put_row row rows) (numbered_put row rows (is x rows) are)

module _ (at : ℕ) (name : List ℕ) (tree : ℕ) (key : Option ℕ) (primary : List ℕ) (uniques : List (List ℕ)) (orders : List Order) (references : List Reference) (columns : List Column)
    (placed : slice_get inventory.tables at ≡ Some (table name tree key primary uniques orders references columns)) where
  pub record Added (places : List ℕ) (cells : List Row) (old new : State) : Type 0 where
    pub writing : IsWriting new
    pub was_open : IsTrue old.is_open
    pub rows : IsPermutation (cells ++ rows_of old.now.trees tree places) (rows_of new.now.trees tree places)
    pub others : SparesOthers tree old.now.trees new.now.trees

  pub adds_rows : {X : Type 0} (sql : List ℕ) (params : Row) (terms : List Term) (width : ℕ) (id : X → Value) (values : X → Row) (places : List ℕ) (cells : X → Row) (xs : List X)
      → command_of (understood inventory sql) ≡ Insert at (Values terms width) → IsPlain (understood inventory sql)
      → value_rows (params ++ []) width (length terms / width) terms ≡ map (λ x. id x ∷ values x) xs
      → ((x : X) → suits kind.Integer (id x) ≡ true) → ((x : X) → all_suit columns (values x) ≡ true)
      → ((x : X) (rows : List Row) → map (column (with_rowid Chosen rows (id x ∷ values x))) places ≡ cells x)
      → ((x : X) (rows : List Row) → Int (id_in (rowid (with_rowid Chosen rows (id x ∷ values x)))) ≡ rowid (with_rowid Chosen rows (id x ∷ values x)))
      → (old new : State) (count : ℕ) → IsWriting old → ExecutesInside 0 sql params old new (Ok count) → Added places (map cells xs) old new
  adds_rows {X} sql params terms width id values places cells xs is plain given first rest shown number old new count writing h =
      let its = table name tree key primary uniques orders references columns in
      let db = old.now.trees in
      let next = new.now.trees in
      let before = writing.tables h.1.was_open in
      let source : X → Row = λ x. id x ∷ values x in
      let news = numbered Chosen (db tree) (map source xs) in
      let got = inserts inventory at tree name key primary uniques orders references columns never placed sql params terms width (map source xs) old new count (writing.schema h.1.was_open) is plain given h.0 in
      let cast : rows_for db its (map source xs) ≡ news = ap (numbered Chosen (db tree)) (cast_each source cells places its (λ x. cast_row_suits its (id x) (values x) (first x) (rest x)) xs) in
      let seen : map (λ r. map (column r) places) (rows_for db its (map source xs)) ≡ map cells xs = ap (map (λ r. map (column r) places)) cast ∙ shown_each source cells places shown xs (db tree) in
      let rows : next tree ≡ put_all (db tree) news = got.1.rows ∙ ap (put_all (db tree)) cast in
      let own : AreNumbered (next tree) = subst AreNumbered (sym rows) (numbered_each source cells places number xs (db tree) (all-slice_get (λ (t : Table). AreNumbered (db t.tree)) inventory.tables at its placed before.numbered)) in
      record {
        writing = record {
          begun = h.1.mode;
          schema = λ _. got.0;
          tables = λ _. record { numbered = still_all AreNumbered tree db next inventory.tables got.1.others own before.numbered; typed = got.1.typed; present = got.1.present };
        };
        was_open = h.1.was_open;
        rows = subst (λ c. IsPermutation (c ++ rows_of db tree places) (rows_of next tree places)) seen (more_shown inventory tree _ db next places got.1);
        others = got.1.others;
      }

  -- one row
  pub adds_row : (sql : List ℕ) (params : Row) (terms : List Term) (width : ℕ) (id : Value) (values : Row) (places : List ℕ) (cells : Row)
      → command_of (understood inventory sql) ≡ Insert at (Values terms width) → IsPlain (understood inventory sql)
      → value_rows (params ++ []) width (length terms / width) terms ≡ (id ∷ values) ∷ [] → suits kind.Integer id ≡ true → all_suit columns values ≡ true
      → ((rows : List Row) → map (column (with_rowid Chosen rows (id ∷ values))) places ≡ cells)
      → ((rows : List Row) → Int (id_in (rowid (with_rowid Chosen rows (id ∷ values)))) ≡ rowid (with_rowid Chosen rows (id ∷ values)))
      → (old new : State) (count : ℕ) → IsWriting old → ExecutesInside 0 sql params old new (Ok count) → Added places (cells ∷ []) old new
  adds_row sql params terms width id values places cells is plain given first rest shown number =
      adds_rows {X = Unit {0}} sql params terms width (λ _. id) (λ _. values) places (λ _. cells) (tt ∷ []) is plain given (λ _. first) (λ _. rest) (λ _. shown) (λ _. number)
