-- The rows of sqlite_schema are those of one schema, where it has no view.
use Rattle.std.proofs.Common.{◌≡◌, inl, inr, ℕ, ◌+◌, ◌<◌, pos, false, Option, Some, Ok, Result, List, [], ◌∷◌, ◌++◌, refl, sym, ap, subst, ◌∙◌, arith}
use Rattle.std.specs.Prelude.{codes, slice_get, filter}
use Rattle.std.specs.List.{AllByRecursion, AllZip}
use Rattle.std.specs.Fmt.{decimal}
use Rattle.std.proofs.lemmas.Fmt.{decimal_injective}
use Rattle.std.proofs.lemmas.List.{append_cancel_left}
use Rattle.sqlite_value.specs.declared.value.Value.{Value}
use Rattle.sqlite_value.specs.declared.value.Value.TheVariants.{Null, Int, Real, Text, Blob}
use Rattle.sqlite_value.specs.Order.{Row, column}
use Rattle.sqlite_trees.specs.Tree.{IsAscending}
use Rattle.sqlite_schema.specs.declared.schema.Table.{Table}
use Rattle.sqlite_schema.specs.declared.schema.View.{View as Stored}
use Rattle.sqlite_schema.specs.declared.schema.Index.{Index}
use Rattle.sqlite_schema.specs.declared.schema.Schema.{Schema}
use Rattle.sqlite_schema.specs.Names.{same_name}
use Rattle.sqlite_rules.specs.Lists.{Has}
use Rattle.sqlite_resolve.specs.Compile.{table_defined_by, index_defined_by}
use Rattle.sqlite_catalog.specs.Listing.{IsTableRow, IsDefined, IsIndexRow, IsViewRow, AreListed, automatic, is_table_row, is_index_row, is_view_row}
use Rattle.sqlite_catalog.proofs.StepLemmas.{same_itself}

text_is : (a b : List ℕ) → Text a ≡ Text b → a ≡ b
text_is a b h = cc

tree_is : (a b : ℕ) → Int (pos (a + 1)) ≡ Int (pos (b + 1)) → a ≡ b
tree_is a b h = let e : a + 1 ≡ b + 1 = cc in omega (arith, e)

made_is : (a b : Table) (s t : List ℕ) → s ≡ t → table_defined_by s ≡ Ok a → table_defined_by t ≡ Ok b → a ≡ b
made_is a b s t e h k = let same : ◌≡◌ {A = Result Table _} (Ok a) (Ok b) = sym h ∙ ap table_defined_by e ∙ k in cc

one_table : (row : Row) (a b : Table) → IsTableRow row a → IsTableRow row b → a ≡ b
one_table row a b h k =
    let sql = text_is h.sql k.sql (sym h.sql_is ∙ k.sql_is) in
    let made = made_is h.defined.0 k.defined.0 h.sql k.sql sql h.defined.1 k.defined.1 in
    let tree = tree_is a.tree b.tree (sym h.described.id ∙ k.described.id) in
    h.defined.2 ∙ (λ i. record (made i) { tree = tree i }) ∙ sym k.defined.2

one_list : {X Y : Type 0} (R S : X → Y → Type 0) → ((x : X) (a b : Y) → R x a → S x b → a ≡ b) → (xs : List X) (ys zs : List Y) → AllZip R xs ys → AllZip S xs zs → ys ≡ zs
one_list R S one [] [] [] h k = refl
one_list R S one [] [] (b ∷ zs) h k = absurd k
one_list R S one [] (a ∷ ys) zs h k = absurd h
one_list R S one (x ∷ xs) [] zs h k = absurd h
one_list R S one (x ∷ xs) (a ∷ ys) [] h k = absurd k
one_list R S one (x ∷ xs) (a ∷ ys) (b ∷ zs) h k = let first = one x a b h.0 k.0 in let rest = one_list R S one xs ys zs h.1 k.1 in λ i. first i ∷ rest i

-- no two tables have one name
later : (t : Table) (ts : List Table) (u : Table) → AllByRecursion (λ s. same_name t.name s.name ≡ false) ts → Has ts u → same_name t.name u.name ≡ false
later t [] u h m = absurd m
later t (s ∷ ts) u h (inl e) = ap (λ (x : Table). same_name t.name x.name) e ∙ h.0
later t (s ∷ ts) u h (inr m) = later t ts u h.1 m

one_named : (ts : List Table) (a b : Table) → IsAscending (λ s t. same_name s.name t.name ≡ false) ts → Has ts a → Has ts b → a.name ≡ b.name → a ≡ b
one_named [] a b named m n e = absurd m
one_named (t ∷ ts) a b named (inl p) (inl q) e = p ∙ sym q
one_named (t ∷ ts) a b named (inl p) (inr n) e = let no = later t ts b named.0 n in let yes = same_itself t.name in let same : t.name ≡ b.name = ap (λ (x : Table). x.name) (sym p) ∙ e in absurd (let clash = sym yes ∙ ap (same_name t.name) same ∙ no in cc)
one_named (t ∷ ts) a b named (inr m) (inl q) e = let no = later t ts a named.0 m in let yes = same_itself t.name in let same : t.name ≡ a.name = ap (λ (x : Table). x.name) (sym q) ∙ sym e in absurd (let clash = sym yes ∙ ap (same_name t.name) same ∙ no in cc)
one_named (t ∷ ts) a b named (inr m) (inr n) e = one_named ts a b named.1 m n e

-- ---- indexes

number_is : (a b : ℕ) (table other : List ℕ) → a < 65536 → b < 65536 → table ≡ other
    → codes "sqlite_autoindex_" ++ (table ++ (codes "_" ++ decimal (a + 1))) ≡ codes "sqlite_autoindex_" ++ (other ++ (codes "_" ++ decimal (b + 1))) → a ≡ b
number_is a b table other low high same e =
    let behind : table ++ (codes "_" ++ decimal (a + 1)) ≡ table ++ (codes "_" ++ decimal (b + 1)) = append_cancel_left (codes "sqlite_autoindex_") _ _ (e ∙ ap (λ t. codes "sqlite_autoindex_" ++ (t ++ (codes "_" ++ decimal (b + 1)))) (sym same)) in
    let number : decimal (a + 1) ≡ decimal (b + 1) = append_cancel_left (codes "_") _ _ (append_cancel_left table _ _ behind) in
    let is = decimal_injective (a + 1) (b + 1) (omega (arith, low)) (omega (arith, high)) number in
    omega (arith, is)

some_is : {A : Type 0} (x y : A) → ◌≡◌ {A = Option A} (Some x) (Some y) → x ≡ y
some_is x y h = cc

index_is : (t : Table) (a b : Index) (sql : List ℕ) → index_defined_by t sql ≡ Ok a → index_defined_by t sql ≡ Ok b → a ≡ b
index_is t a b sql h k = let same : ◌≡◌ {A = Result Index _} (Ok a) (Ok b) = sym h ∙ k in cc

module _ (t : Table) (i j : Index) (name : i.name ≡ j.name) (tree : i.tree ≡ j.tree) where
  one_defined : (v : Value) → IsDefined t i v → IsDefined t j v → i ≡ j
  one_defined Null p q =
      let at = number_is p.0 q.0 t.name t.name p.4 q.4 refl (sym (ap (λ (x : Index). x.name) p.3) ∙ name ∙ ap (λ (x : Index). x.name) q.3) in
      let key = some_is p.1 q.1 (sym p.2 ∙ ap (slice_get t.uniques) at ∙ q.2) in
      p.3 ∙ (λ k. automatic t (at k) (key k) (tree k)) ∙ sym q.3
  one_defined (Int n) p q = absurd p
  one_defined (Real x) p q = absurd p
  one_defined (Text sql) p q =
      let made = index_is t p.0 q.0 sql p.1 q.1 in
      p.2 ∙ (λ k. record (made k) { tree = tree k; table = t.tree }) ∙ sym q.2
  one_defined (Blob b) p q = absurd p

one_index : (tables : List Table) → IsAscending (λ s t. same_name s.name t.name ≡ false) tables → (row : Row) (i j : Index) → IsIndexRow tables row i → IsIndexRow tables row j → i ≡ j
one_index tables named row i j h k =
    let owner = text_is h.table.name k.table.name (sym h.described.owner_is ∙ k.described.owner_is) in
    let table = one_named tables h.table k.table named h.listed k.listed owner in
    let name = text_is i.name j.name (sym h.described.name_is ∙ k.described.name_is) in
    let tree = tree_is i.tree j.tree (sym h.described.id ∙ k.described.id) in
    one_defined h.table i j name tree (column row 4) h.defined (subst (λ (t : Table). IsDefined t j (column row 4)) (sym table) k.defined)

-- ---- views

no_view : (rows : List Row) (views : List Stored) → AllZip IsViewRow rows [] → AllZip IsViewRow rows views → [] ≡ views
no_view [] [] h k = refl
no_view [] (v ∷ vs) h k = absurd k
no_view (r ∷ rs) views h k = absurd h

pub one_schema : (objects : List Row) (s t : Schema) → AreListed objects s → AreListed objects t → s.views ≡ [] → s ≡ t
one_schema objects s t h k none =
    let tables = one_list IsTableRow IsTableRow one_table (filter is_table_row objects) s.tables t.tables h.tables k.tables in
    let listed = subst (λ (ts : List Table). AllZip (IsIndexRow ts) (filter is_index_row objects) t.indexes) (sym tables) k.indexes in
    let indexes = one_list (IsIndexRow s.tables) (IsIndexRow s.tables) (one_index s.tables h.named) (filter is_index_row objects) s.indexes t.indexes h.indexes listed in
    let views = none ∙ no_view (filter is_view_row objects) t.views (subst (AllZip IsViewRow (filter is_view_row objects)) none h.views) k.views in
    λ i. record { tables = tables i; indexes = indexes i; views = views i }
