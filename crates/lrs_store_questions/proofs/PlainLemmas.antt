-- What the rows of sqlite_schema give that list plain tables and indexes alone.
use Rattle.std.proofs.Common.{◌≡◌, ◌≢◌, ◌⊎◌, ℕ, ◌+◌, ◌-◌, ◌<◌, Bool, true, false, List, [], ◌∷◌, map, suc, pos, get_or, length, refl, sym, ap, ap₂, subst, ◌∙◌, inl, inr, arith, codes, nat_eq, eqb-true, true≢false}
use Rattle.std.specs.Prelude.{if◌then◌else◌, not, ◌&&◌, ◌||◌}
use Rattle.std.specs.Int.{bit_at}
use Rattle.std.proofs.lemmas.Bool.{and_parts}
use Rattle.sqlite_value.specs.declared.value.Value.{Value}
use Rattle.sqlite_value.specs.declared.value.Value.TheVariants.{Null, Int, Real, Text, Blob}
use Rattle.sqlite_value.specs.Order.{Row, column, bytes}
use Rattle.sqlite_value.specs.Keys.{plain}
use Rattle.sqlite_trees.specs.declared.store.Shape.{Shape}
use Rattle.sqlite_trees.specs.declared.store.Shape.TheVariants as kinds
use Rattle.sqlite_trees.specs.Objects.{shape_code, number_in}
use Rattle.sqlite_schema.specs.declared.schema.Table.{Table}
use Rattle.sqlite_schema.specs.declared.schema.Index.{Index}
use Rattle.sqlite_schema.specs.declared.schema.Schema.{Schema}
use Rattle.sqlite_schema.specs.Rules.{table_reals, index_reals}
use Rattle.sqlite_rules.specs.Lists.{Has}
use Rattle.sqlite_rules.proofs.ListLemmas.{all_has, test_has, has_kept, has_filtered, has_found}
use Rattle.sqlite_resolve.specs.Compile.{defined_is_read}
use Rattle.sqlite_catalog.specs.Listing.{unordered, is_unread, is_table_row, is_index_row, is_view_row, IsDefined, ReadsTable}
use Rattle.sqlite_catalog.specs.Reading.{AreRead, ReadsIndex, ReadsView, IsTableShaped, IsIndexShaped, coded, coded_by}
use Rattle.sqlite_catalog.proofs.LayoutLemmas.{row_kind, zipped_left, zipped_right}
use Rattle.sqlite_catalog.proofs.ReadLemmas.{read_once}
use Rattle.sqlite_store.specs.declared.catalog.Wanted.{Wanted}
use Rattle.sqlite_store.specs.Joined.{joined}
use Rattle.sqlite_store.specs.Listing.{listed_from}
use Rattle.sqlite.specs.Opening.{Binds, IsOwnTable, HasOwnTable, Suits, Meets, shape_of, layout_of, Knows}
use Rattle.sqlite.proofs.OpenLemmas.{unsorted_code}
use Rattle.lrs_store_questions.specs.PlainStores.{plain_shape, plain_layout, plain_row, IsPlain, ListPlain}

-- words that differ in their second letter
differ : (a b : List ℕ) → get_or a 1 0 ≢ get_or b 1 0 → Text a ≡ Text b → ⊥
differ a b other e = other (ap (λ x. get_or (bytes x) 1 0) e)

has_map : {X Y : Type 0} (f : X → Y) (xs : List X) (x : X) → Has xs x → Has (map f xs) (f x)
has_map f [] x h = h
has_map f (y ∷ xs) x (inl e) = inl (ap f e)
has_map f (y ∷ xs) x (inr h) = inr (has_map f xs x h)

has_mapped : {X Y : Type 0} (f : X → Y) (xs : List X) (y : Y) → Has (map f xs) y → (x : X) × Has xs x × (y ≡ f x)
has_mapped f [] y h = absurd h
has_mapped f (x ∷ xs) y (inl e) = (x, inl refl, e)
has_mapped f (x ∷ xs) y (inr h) = let r = has_mapped f xs y h in (r.0, inr r.1, r.2)

same_map : {X Y : Type 0} (f g : X → Y) (xs : List X) → ((x : X) → Has xs x → f x ≡ g x) → map f xs ≡ map g xs
same_map f g [] same = refl
same_map f g (x ∷ xs) same = ap₂ (λ y ys. y ∷ ys) (same x (inl refl)) (same_map f g xs (λ y h. same y (inr h)))

place_of : (xs : List Row) (x : Row) → Has xs x → (at : ℕ) × (at < length xs) × (get_or xs at [] ≡ x)
place_of [] x h = absurd h
place_of (y ∷ xs) x (inl e) = (0, omega arith, sym e)
place_of (y ∷ xs) x (inr h) = let r = place_of xs x h in (suc r.0, omega (arith, r.1), r.2)

-- without REAL columns in its table an index has none
no_reals : (places : List ℕ) → index_reals 0 places ≡ 0
no_reals [] = refl
no_reals (p ∷ places) = let none : bit_at 0 p ≡ 0 = grind arith in omega (arith, none, no_reals places)

defined_is_read_in : (table : Table) (index : Index) (sql : Value) → IsDefined table index sql → is_unread sql ≡ true → ⊥
defined_is_read_in table index Null h e = cc
defined_is_read_in table index (Int n) h e = h
defined_is_read_in table index (Real x) h e = h
defined_is_read_in table index (Text sql) h e = let x = rw (defined_is_read table sql h.0 h.1) at e in cc
defined_is_read_in table index (Blob b) h e = h

-- a row is read as a table whatever its code is
table_in : (row : Row) (s : Shape) (t : Table) → ReadsTable (coded row s) t → ReadsTable row t
table_in row s t h = record {
  names = record { low = h.names.low; id = h.names.id; kind_is = h.names.kind_is; name_is = h.names.name_is; owner_is = h.names.owner_is };
  sql = h.sql;
  sql_is = h.sql_is;
  defined = h.defined;
  formed = h.formed;
  utf8 = h.utf8;
}

neither : (a b c : Bool) → not ((a && not c) || (b || c)) ≡ true → a ≡ false
neither true true true e = absurd (true≢false (sym e))
neither true false true e = absurd (true≢false (sym e))
neither true true false e = absurd (true≢false (sym e))
neither true false false e = absurd (true≢false (sym e))
neither false b c e = refl

-- the shape by whether the word is that of a table
by_word : {b c : Bool} → b ≡ c → (if b then kinds.Table else kinds.Index plain) ≡ (if c then kinds.Table else kinds.Index plain)
by_word e = ap (λ (b : Bool). if b then kinds.Table else kinds.Index plain) e

module _ (rows : List Row) (it : Schema) (read : AreRead (map plain_row rows) it) (is_plain : IsPlain it) where
  abbrev IsTable : Row → Table → Type 0
  IsTable row t = Has it.tables t × ReadsTable row t × (plain_shape row ≡ kinds.Table)

  abbrev IsIndex : Row → Index → Type 0
  IsIndex row i = Has it.indexes i × ReadsIndex it.tables (plain_row row) i × (plain_shape row ≡ kinds.Index plain)

  one_of : (row : Row) → Has rows row → ((t : Table) × IsTable row t) ⊎ ((i : Index) × IsIndex row i)
  one_of row h = elim (row_kind (plain_row row)) [
    | inl table ↦ let r = zipped_right ReadsTable _ it.tables (plain_row row) read.tables (has_kept is_table_row (map plain_row rows) (plain_row row) (has_map plain_row rows row h) table) in
        inl (r.0, (r.1, table_in row (plain_shape row) r.0 r.2, by_word (and_parts _ _ table).0))
    | inr (inl index) ↦ let r = zipped_right (ReadsIndex it.tables) _ it.indexes (plain_row row) read.indexes (has_kept is_index_row (map plain_row rows) (plain_row row) (has_map plain_row rows row h) index) in
        inr (r.0, (r.1, r.2, by_word (neither _ _ _ index)))
    | inr (inr view) ↦ let r = zipped_right ReadsView _ it.views (plain_row row) read.views (has_kept is_view_row (map plain_row rows) (plain_row row) (has_map plain_row rows row h) view) in
        absurd (subst (λ vs. Has vs r.0) is_plain.views r.1)
  ]

  binds_none : (row : Row) → Has rows row → Binds row → ⊥
  binds_none row h binds = elim (one_of row h) [
    | inl x ↦ let kind = x.1.1.names.kind_is in elim binds
        [ inl a ↦ differ (codes "trigger") (codes "table") (omega arith) (sym a ∙ kind) | inr b ↦ differ (codes "index") (codes "table") (omega arith) (sym b.0 ∙ kind) ]
    | inr x ↦ let kind = x.1.1.names.kind_is in elim binds
        [ inl a ↦ differ (codes "trigger") (codes "index") (omega arith) (sym a ∙ kind) | inr b ↦ defined_is_read_in x.1.1.table x.0 (column row 4) x.1.1.defined b.1 ]
  ]

  own_table : (row : Row) (t : Table) → ReadsTable row t → IsOwnTable rows row
  own_table row t reads = ((t, reads), λ bound. binds_none bound.0 bound.1 bound.2)

  own_owner : (row : Row) (i : Index) → ReadsIndex it.tables (plain_row row) i → HasOwnTable rows row
  own_owner row i reads =
      let found = zipped_left ReadsTable _ it.tables reads.table read.tables reads.listed in
      let in_rows = has_mapped plain_row rows found.0 (has_filtered is_table_row (map plain_row rows) found.0 found.1).0 in
      let owner = table_in in_rows.0 (plain_shape in_rows.0) reads.table (subst (λ r. ReadsTable r reads.table) in_rows.2 found.2) in
      (in_rows.0, in_rows.1, owner.names.name_is ∙ sym reads.names.owner_is, own_table in_rows.0 reads.table owner)

  suits_plain : (row : Row) (flag : Bool) (s : Shape) → Has rows row → Suits rows row flag s → s ≡ plain_shape row
  suits_plain row flag s h suits = elim (one_of row h) [
    | inl x ↦ let kind = x.1.1.names.kind_is in elim suits [
      | inl other ↦ absurd (elim other.0 [ inl a ↦ differ (codes "view") (codes "table") (omega arith) (sym a ∙ kind) | inr a ↦ differ (codes "trigger") (codes "table") (omega arith) (sym a ∙ kind) ])
      | inr (inl index) ↦ absurd (differ (codes "index") (codes "table") (omega arith) (sym index.0 ∙ kind))
      | inr (inr table) ↦ elim table.1 [ inl own ↦ own.1 ∙ sym x.1.2 | inr none ↦ absurd (none.0 (own_table row x.0 x.1.1)) ]
    ]
    | inr x ↦ let kind = x.1.1.names.kind_is in elim suits [
      | inl other ↦ absurd (elim other.0 [ inl a ↦ differ (codes "view") (codes "index") (omega arith) (sym a ∙ kind) | inr a ↦ differ (codes "trigger") (codes "index") (omega arith) (sym a ∙ kind) ])
      | inr (inl index) ↦ elim index.1 [ inl own ↦ own.1 ∙ sym x.1.2 | inr none ↦ absurd (none.0 (own_owner row x.0 x.1.1)) ]
      | inr (inr table) ↦ absurd (differ (codes "table") (codes "index") (omega arith) (sym table.0 ∙ kind))
    ]
  ]

  module _ (schema : Schema) (wanted : List Wanted) (roots : List Bool) (m : Meets schema wanted rows roots) where
    shape_is : (row : Row) → Has rows row → shape_of m.shown row ≡ plain_shape row
    shape_is row h =
        let p = place_of rows row h in
        suits_plain row _ (shape_of m.shown row) h (subst (λ r. Suits rows r (get_or roots p.0 false) (shape_of m.shown r)) p.2 (m.suit p.0 [] p.1))

    row_is : (row : Row) → Has rows row → coded_by m.shown.shape row ≡ plain_row row
    row_is row h =
        let shape = m.shown.shape (number_in (column row 0) - 1) in
        ap (λ n. column row 0 ∷ column row 1 ∷ column row 2 ∷ column row 3 ∷ column row 4 ∷ Int (pos n) ∷ []) (sym (unsorted_code shape) ∙ ap (λ s. unordered (shape_code s)) (shape_is row h))

    same_schema : schema ≡ it
    same_schema = read_once (map plain_row rows) schema it
        (subst (λ rs. AreRead rs schema) (same_map (coded_by m.shown.shape) plain_row rows row_is) m.read).tables
        (subst (λ rs. AreRead rs schema) (same_map (coded_by m.shown.shape) plain_row rows row_is) m.read).indexes
        (subst (λ rs. AreRead rs schema) (same_map (coded_by m.shown.shape) plain_row rows row_is) m.read).views read

    knows : Knows m.shown it
    knows = subst (Knows m.shown) same_schema m.knows

    tree_is : (row : Row) (tree : ℕ) → column row 0 ≡ Int (pos (tree + 1)) → number_in (column row 0) - 1 ≡ tree
    tree_is row tree id = omega (arith, ap number_in id)

    layout_is : (row : Row) → Has rows row → layout_of m.shown row ≡ plain_layout row
    layout_is row h = elim (one_of row h) [
      | inl x ↦
          let shaped = all_has (IsTableShaped m.shown) it.tables x.0 knows.tables x.1.0 in
          let at = tree_is row x.0.tree x.1.1.names.id in
          let none : table_reals x.0 ≡ 0 = eqb-true _ _ (test_has (λ (t : Table). nat_eq (table_reals t) 0) it.tables x.0 is_plain.tables x.1.0) in
          ap₂ (λ (s : Shape) (n : ℕ). (s, n)) (ap m.shown.shape at ∙ shaped.0 ∙ sym x.1.2) (ap m.shown.reals at ∙ shaped.1 ∙ none)
      | inr x ↦
          let shaped = all_has (IsIndexShaped m.shown it.tables) it.indexes x.0 knows.indexes x.1.0 in
          let at = tree_is row x.0.tree x.1.1.names.id in
          let owner = shaped.1 in
          let listed = (has_found _ it.tables owner.0 owner.1).0 in
          let none : table_reals owner.0 ≡ 0 = eqb-true _ _ (test_has (λ (t : Table). nat_eq (table_reals t) 0) it.tables owner.0 is_plain.tables listed) in
          let keys : x.0.order.digits ≡ 0 = eqb-true _ _ (test_has (λ (i : Index). nat_eq i.order.digits 0) it.indexes x.0 is_plain.indexes x.1.0) in
          let order : x.0.order ≡ plain = λ j. record { digits = keys j } in
          ap₂ (λ (s : Shape) (n : ℕ). (s, n)) (ap m.shown.shape at ∙ shaped.0 ∙ ap kinds.Index order ∙ sym x.1.2)
          (ap m.shown.reals at ∙ owner.2 ∙ ap (λ n. index_reals n x.0.columns) none ∙ no_reals x.0.columns)
    ]

    listed : joined rows (map plain_layout rows) ≡ listed_from 0 wanted
    listed = ap (joined rows) (sym (same_map (layout_of m.shown) plain_layout rows layout_is)) ∙ m.whole

-- rows that list plain tables and indexes alone have the layouts that they are given
pub plain_listed : (rows : List Row) → ListPlain rows → (schema : Schema) (wanted : List Wanted) (roots : List Bool) → Meets schema wanted rows roots
    → joined rows (map plain_layout rows) ≡ listed_from 0 wanted
plain_listed rows are schema wanted roots m = listed rows are.schema are.read are.is_plain schema wanted roots m
