-- What each CREATE makes of the tables.
use Rattle.std.proofs.Common.{◌≡◌, ℕ, zero, suc, ◌+◌, ◌<◌, ◌≤◌, List, [], ◌∷◌, map, take, length, Bool, Ok, Result, true, false, refl, sym, ap, subst, ◌∙◌, arith, inl, inr}
use Rattle.std.specs.Prelude.{⊤, ◌⊎◌, nat_lt, slice_get, option_map, unwrap_or}
use Rattle.std.specs.List.{AllByRecursion}
use Rattle.std.specs.List.Sorted.{IsPermutation}
use Rattle.std.proofs.lemmas.List.Sorted.{IsPermutation-refl}
use Rattle.std.proofs.lemmas.Bool.{ltb-true, ltb-false}
use Rattle.sqlite_value.specs.Order.{Row, column}
use Rattle.sqlite_schema.specs.declared.schema.Table.{Table}
use Rattle.sqlite_schema.specs.declared.schema.Schema.{Schema}
use Rattle.sqlite_schema.specs.declared.command.Command.TheVariants.{CreateTable}
use Rattle.sqlite_trees.specs.Tree.{Trees}
use Rattle.sqlite_resolve.specs.Compile.{table_defined_by}
use Rattle.sqlite_tied.specs.Compute.{everything}
use Rattle.sqlite_catalog.specs.Change.{created, next_tree, KeepsRows}
use Rattle.sqlite.specs.Listing.{understood}
use Rattle.sqlite.specs.Effect.{Database}
use Rattle.sqlite.specs.Does.{lacks_sequence, Tally, MakesTable}
use Rattle.sqlite.specs.State.{State, Executes, ExecutesInside}
use Rattle.sqlite.proofs.Callers.{IsPlain, command_of, statement_of, runs_as}
use Rattle.lrs_store_tables.specs.Contents.Tables.{AreSame}
use Rattle.lrs_store_tables.specs.Schema as it
use Rattle.lrs_store_tables.specs.Schema.{inventory}
use Rattle.lrs_store_tables.specs.StoredRows as rows
use Rattle.lrs_store_tables.specs.StoredRows.{stored}
use Rattle.lrs_store_tables.specs.TableCreation.{no_schema, first_tables, create_at, tree_at, HasFirst, IsBegun, IsMaking, if_first, first_rows}
use Rattle.lrs_store_tables.proofs.Rows.{went, same_value}

-- none of the tables, and all of them

pub none_made : first_tables 0 ≡ no_schema
none_made = refl

pub all_made : first_tables 12 ≡ inventory
all_made = refl

-- CREATE makes the table, empty, and leaves the others as they are.
record Created (before next : Schema) (old new : Trees) (after : Schema) : Type 0 where
  pub is : after ≡ next
  pub empty : new (next_tree before) ≡ []
  pub others : KeepsRows before.tables old new

-- the text makes the next schema of a schema
record IsCreate (schema next : Schema) (sql : List ℕ) : Type 0 where
  pub table : Table
  pub is : (command_of (understood schema sql) ≡ CreateTable) × (IsPlain (understood schema sql) × (statement_of sql (understood schema sql) ≡ sql))
  pub defined : table_defined_by sql ≡ Ok table
  pub makes : created schema table ≡ next
  pub none : lacks_sequence next ≡ false

same_table : {E : Type 0} {a b : Table} → ◌≡◌ {A = Result Table E} (Ok a) (Ok b) → a ≡ b
same_table e = cc

creates : (schema next : Schema) (sql : List ℕ) (c : IsCreate schema next sql) (old new : State) (count : ℕ) → old.now.schema ≡ schema → Executes sql [] old new (Ok count)
    → Created schema next old.now.trees new.now.trees new.now.schema
creates schema next sql c old new count has h =
    let w = runs_as sql [] old new schema has CreateTable c.is.0 c.is.1.0 count h in
    let one = went w.changed in
    let two = went one.1 in
    let mid = two.0 in
    let made = subst (λ text. MakesTable text old.now (Ok mid)) c.is.1.1 two.1 in
    let table : made.table ≡ c.table = same_table (sym made.defined ∙ c.defined) in
    let after : mid.schema ≡ next = made.is ∙ ap (λ x. created old.now.schema x) table ∙ ap (λ s. created s c.table) has ∙ c.makes in
    let plainly : lacks_sequence mid.schema ≡ false = ap lacks_sequence after ∙ c.none in
    let kept = rw plainly at two.2 in
    let same : new.now ≡ mid = ap (λ (p : Tally × Database). p.1) (same_value one.2) ∙ same_value kept in
    record {
      is = ap (λ (d : Database). d.schema) same ∙ after;
      empty = subst (λ (d : Database). d.trees (next_tree schema) ≡ []) (sym same) (subst (λ s. mid.trees (next_tree s) ≡ []) has made.empty);
      others = subst (λ (d : Database). KeepsRows schema.tables old.now.trees d.trees) (sym same) (subst (λ s. KeepsRows s.tables old.now.trees mid.trees) has made.others);
    }

abbrev IsStep : ℕ → Type 0
IsStep k = IsCreate (first_tables k) (first_tables (k + 1)) (create_at k) × (next_tree (first_tables k) ≡ tree_at k)

-- of each number from one on, and of one of them
abbrev pub AllFrom : (ℕ → Type 0) → ℕ → ℕ → Type 0
AllFrom P first zero = ⊤
AllFrom P first (suc n) = P first × AllFrom P (first + 1) n

pub one_of : (P : ℕ → Type 0) (n first : ℕ) → AllFrom P first n → (k : ℕ) → k < n → P (first + k)
one_of P zero first all k h = absurd (omega arith)
one_of P (suc n) first all zero h = let e : first ≡ first + 0 = omega arith in subst P e all.0
one_of P (suc n) first all (suc k) h = let e : first + 1 + k ≡ first + suc k = omega arith in subst P e (one_of P n (first + 1) all.1 k (omega arith))

step : (k : ℕ) (t : Table) → (command_of (understood (first_tables k) (create_at k)) ≡ CreateTable)
    × (IsPlain (understood (first_tables k) (create_at k)) × (statement_of (create_at k) (understood (first_tables k) (create_at k)) ≡ create_at k))
    → table_defined_by (create_at k) ≡ Ok t → created (first_tables k) t ≡ first_tables (k + 1) → lacks_sequence (first_tables (k + 1)) ≡ false → next_tree (first_tables k) ≡ tree_at k → IsStep k
step k t is defined makes none tree = (record { table = t; is = is; defined = defined; makes = makes; none = none }, tree)

all_steps : AllFrom IsStep 0 12
unfolding understood everything
all_steps = (step 0 (record it.version_table { tree = 0 }) (refl, ((refl, refl), refl)) refl refl refl refl, (step 1 (record it.link_table { tree = 0 }) (refl, ((refl, refl), refl)) refl refl refl refl, (step 2 (record it.class_table { tree = 0 }) (refl, ((refl, refl), refl)) refl refl refl refl, (step 3 (record it.asset_table { tree = 0 }) (refl, ((refl, refl), refl)) refl refl refl refl, (step 4 (record it.piece_table { tree = 0 }) (refl, ((refl, refl), refl)) refl refl refl refl, (step 5 (record it.mark_table { tree = 0 }) (refl, ((refl, refl), refl)) refl refl refl refl, (step 6 (record it.ref_table { tree = 0 }) (refl, ((refl, refl), refl)) refl refl refl refl, (step 7 (record it.span_table { tree = 0 }) (refl, ((refl, refl), refl)) refl refl refl refl, (step 8 (record it.entered_table { tree = 0 }) (refl, ((refl, refl), refl)) refl refl refl refl, (step 9 (record it.gone_table { tree = 0 }) (refl, ((refl, refl), refl)) refl refl refl refl, (step 10 (record it.edit_table { tree = 0 }) (refl, ((refl, refl), refl)) refl refl refl refl, (step 11 (record it.origin_table { tree = 0 }) (refl, ((refl, refl), refl)) refl refl refl refl, tt))))))))))))

at_step : (k : ℕ) → k < 12 → IsStep k
at_step k h = let e : 0 + k ≡ k = omega arith in subst IsStep e (one_of IsStep 12 0 all_steps k h)

-- of all tables, and of each

abbrev tree_in : List Table → ℕ → ℕ
tree_in ts k = unwrap_or (option_map (λ (t : Table). t.tree) (slice_get ts k)) 0

each_first : (P : ℕ → Type 0) (ts : List Table) (m k : ℕ) → k < m → k < length ts → AllByRecursion (λ (t : Table). P t.tree) (take m ts) → P (tree_in ts k)
each_first P [] m k h low all = absurd (omega arith)
each_first P (t ∷ ts) zero k h low all = absurd (omega arith)
each_first P (t ∷ ts) (suc m) zero h low all = all.0
each_first P (t ∷ ts) (suc m) (suc k) h low all = each_first P ts m k (omega arith) (omega arith) all.1

all_of_each : (P : ℕ → Type 0) (ts : List Table) → ((k : ℕ) → k < length ts → P (tree_in ts k)) → AllByRecursion (λ (t : Table). P t.tree) ts
all_of_each P [] each = tt
all_of_each P (t ∷ ts) each = (each 0 (omega arith), all_of_each P ts (λ k h. each (suc k) (omega arith)))

-- what holds of the trees of the first tables
pub first_each : (P : ℕ → Type 0) (n k : ℕ) → k < n → k < 12 → AllByRecursion (λ (t : Table). P t.tree) (first_tables n).tables → P (tree_at k)
first_each P n k h low all = each_first P inventory.tables n k h low all

-- what holds of the trees of all tables
pub each_tree : (P : ℕ → Type 0) → ((k : ℕ) → k < 12 → P (tree_at k)) → AllByRecursion (λ (t : Table). P t.tree) inventory.tables
each_tree P each = all_of_each P inventory.tables each

-- nothing is made yet
pub making_none : (n : ℕ) (s : State) → IsBegun n s → IsMaking n n s s
making_none n s b = record {
  begun = b.begun;
  is_open = λ more. absurd (omega arith);
  was_open = λ opened. opened;
  tables = b.tables;
  rows = λ _. record { kept = λ k h. refl; empty = λ k h low. absurd (omega arith) };
}

-- one step further
pub makes_one : (n k : ℕ) → n ≤ k → k < 12 → (old mid new : State) (count : ℕ) → IsMaking n k old mid → ExecutesInside 0 (create_at k) [] mid new (Ok count) → IsMaking n (k + 1) old new
makes_one n k low high old mid new count making h =
    let opened = h.1.was_open in
    let it = at_step k high in
    let made = creates (first_tables k) (first_tables (k + 1)) (create_at k) it.0 mid new count (making.tables opened) h.0 in
    let before = making.rows opened in
    let same : (i : ℕ) → i < k → new.now.trees (tree_at i) ≡ mid.now.trees (tree_at i) = λ i less. first_each (λ t. new.now.trees t ≡ mid.now.trees t) k i less (omega arith) made.others in
    record {
      begun = h.1.mode;
      is_open = λ _. h.1.is_open;
      was_open = λ _. making.was_open opened;
      tables = λ _. made.is;
      rows = λ _. record {
        kept = λ i less. same i (omega arith) ∙ before.kept i less;
        empty = λ i above less. elim (earlier i k less) [
          | inl e ↦ same i e ∙ before.empty i above e
          | inr e ↦ subst (λ t. new.now.trees t ≡ []) (it.1 ∙ ap tree_at (sym e)) made.empty
        ];
      };
    }
  where
    earlier : (i k : ℕ) → i < k + 1 → (i < k) ⊎ (i ≡ k)
    earlier i k less = by (nat_lt i k) refl
      where
        by : (b : Bool) → nat_lt i k ≡ b → (i < k) ⊎ (i ≡ k)
        by true e = inl (ltb-true i k e)
        by false e = let above = ltb-false i k e in inr (omega (arith, above, less))

-- the rows after the making

same_if_first : {X : Type 0} (said : Row → X) (places : List ℕ) (a b : List Row) (n k : ℕ) → (k < n → b ≡ a) → (n ≤ k → b ≡ [])
    → IsPermutation (if_first n k (map said (map (λ r. map (column r) places) a))) (map said (map (λ r. map (column r) places) b))
same_if_first {X} said places a b n k kept none = by (nat_lt k n) refl
  where
    shown : List Row → List X
    shown l = map said (map (λ r. map (column r) places) l)

    by : (first : Bool) → nat_lt k n ≡ first → IsPermutation (if_first n k (shown a)) (shown b)
    by true is = rw is (subst (λ l. IsPermutation (shown a) (shown l)) (sym (kept (ltb-true k n is))) (IsPermutation-refl (shown a)))
    by false is = rw is (subst (λ l. IsPermutation [] (shown l)) (sym (none (ltb-false k n is))) (IsPermutation-refl []))

-- the first tables have their rows, and the others none
pub rows_of_first : (n : ℕ) (old new : Trees) → HasFirst n 12 old new → AreSame (first_rows n (stored old)) (stored new)
rows_of_first n old new has = record {
  version = same_if_first rows.version_in rows.version_places (old 0) (new 0) n 0 (has.kept 0) (λ h. has.empty 0 h (omega arith));
  link = same_if_first rows.link_in rows.link_places (old 1) (new 1) n 1 (has.kept 1) (λ h. has.empty 1 h (omega arith));
  class = same_if_first rows.class_in rows.class_places (old 2) (new 2) n 2 (has.kept 2) (λ h. has.empty 2 h (omega arith));
  asset = same_if_first rows.asset_in rows.asset_places (old 4) (new 4) n 3 (has.kept 3) (λ h. has.empty 3 h (omega arith));
  piece = same_if_first rows.piece_in rows.piece_places (old 5) (new 5) n 4 (has.kept 4) (λ h. has.empty 4 h (omega arith));
  mark = same_if_first rows.mark_in rows.mark_places (old 7) (new 7) n 5 (has.kept 5) (λ h. has.empty 5 h (omega arith));
  ref = same_if_first rows.ref_in rows.ref_places (old 9) (new 9) n 6 (has.kept 6) (λ h. has.empty 6 h (omega arith));
  span = same_if_first rows.span_in rows.span_places (old 11) (new 11) n 7 (has.kept 7) (λ h. has.empty 7 h (omega arith));
  entered = same_if_first rows.entered_in rows.entered_places (old 13) (new 13) n 8 (has.kept 8) (λ h. has.empty 8 h (omega arith));
  gone = same_if_first rows.gone_in rows.gone_places (old 15) (new 15) n 9 (has.kept 9) (λ h. has.empty 9 h (omega arith));
  edit = same_if_first rows.edit_in rows.edit_places (old 17) (new 17) n 10 (has.kept 10) (λ h. has.empty 10 h (omega arith));
  origin = same_if_first rows.origin_in rows.origin_places (old 19) (new 19) n 11 (has.kept 11) (λ h. has.empty 11 h (omega arith));
}
