-- What a store holds that was rolled back and then read.
use Rattle.std.proofs.Common.{◌≡◌, ◌≢◌, ◌↔◌, ◌≤◌, ℕ, List, Bool, true, false, IsTrue, refl, sym, ap, subst, ◌∙◌, arith, true≢false}
use Rattle.std.specs.Prelude.{[], map, if◌then◌else◌, Err, Option, None, Some, IfSome, IsSomeAnd, MatchOption}
use Rattle.sqlite_value.specs.Order.{Row}
use Rattle.sqlite_trees.specs.Objects.{catalog_tree}
use Rattle.sqlite_schema.specs.declared.schema.Schema.{Schema}
use Rattle.sqlite_catalog.specs.Listing.{Lists}
use Rattle.sqlite_catalog.proofs.ReadLemmas.{lists_once}
use Rattle.sqlite_trees.specs.Tree.{Trees}
use Rattle.sqlite_trees.specs.View.{View, IsClean, IsRolledBack}
use Rattle.lrs_machine.specs.declared.table.Table.{Table}
use Rattle.lrs_store_tables.specs.Contents.Tables.{Tables}
use Rattle.lrs_store_tables.specs.Contents.Content.{content_of}
use Rattle.lrs_store_tables.specs.declared.stored_rows.StoredRows.{StoredRows}
use Rattle.lrs_store_tables.specs.Rows.{tables_of}
use Rattle.lrs_store_tables.specs.StoredRows.{stored}
use Rattle.lrs_store_tables.specs.TableCreation.{first_tables, first_rows}
use Rattle.lrs_store_files.specs.declared.table_list.Known.{Known}
use Rattle.lrs_store_files.specs.declared.table_list.Known.TheVariants as known
use Rattle.lrs_store_files.proofs.FirstTables.{same_count}
use Rattle.lrs_store_files.specs.SeenRows.{HasSeen}
use Rattle.lrs_store.specs.Verdicts.{AreFirst, ListsKnown, ListsOthers, HasRows, HasFound, IsUnsoundIn, IsUnsoundThere, IsSoundThere}

open_there : (v : View) → (v.is_open ≡ false → IsTrue v.is_broken) → v.is_broken ≡ false → IsTrue v.is_open
open_there v shut sound = go v.is_open refl
  where
    go : (b : Bool) → v.is_open ≡ b → IsTrue v.is_open
    go true is = is
    go false is = absurd (true≢false (sym (shut is) ∙ sound))

-- what a catalog lists that was read
pub lists_known : (k : Known) (found : Schema) (catalog : List Row) → Lists catalog found → ((n : ℕ) → (k ≡ known.First n) ↔ ((n ≤ 12) × (found ≡ first_tables n))) → ListsKnown k catalog
lists_known (known.First n) found catalog lists is = let e = (is n).0 refl in (e.0, subst (Lists catalog) e.1 lists)
lists_known known.Other found catalog lists is = λ n some few l. other_is_first n ((is n).1 (few, lists_once catalog found (first_tables n) lists l))
  where
    other_is_first : (n : ℕ) → known.Other ≡ known.First n → ⊥
    other_is_first n e = cc e

-- what a catalog lists from which nothing was read
pub lists_others : (o : Option Schema) (catalog : List Row) → ((s : Schema) → o ≡ Some s → ⊥) → MatchOption o ((s : Schema) → Lists catalog s → ⊥) (Lists catalog) → ListsOthers catalog
lists_others None catalog none lists = λ n some few. lists (first_tables n)
lists_others (Some s) catalog none lists = absurd (none s refl)

-- trees have the rows of an inventory in one way
one_has_rows : (a b : Tables) (db : Trees) → HasRows a db → HasRows b db → a ≡ b
one_has_rows a b db (n, some, few, p, x) (m, any, many, q, y) =
    x ∙ ap (λ k. first_rows k (stored db)) (same_count n m few many (lists_once (db catalog_tree) (first_tables n) (first_tables m) p q)) ∙ sym y

-- what is found of the trees of a store, by which of the known tables it lists
pub found_of : (k : Known) (rows : StoredRows) (found : Option StoredRows) (db : Trees) → ListsKnown k (db catalog_tree) → AreFirst k rows found → tables_of rows ≡ stored db → HasFound found db
found_of (known.First n) rows (Some first) db lists is read = (n, is.0, lists.0, lists.1, is.1 ∙ ap (first_rows n) read)
found_of (known.First n) rows None db lists is read = λ m some few l.
    absurd (let e = same_count n m lists.0 few (lists_once (db catalog_tree) (first_tables n) (first_tables m) lists.1 l) in omega (arith, e, is, some))
found_of known.Other rows (Some first) db lists is read = absurd (cc is)
found_of known.Other rows None db lists is read = lists

unsound_in : (found : Option StoredRows) (db : Trees) (t : Table) → HasFound found db → IsSomeAnd found (λ r. content_of (tables_of r) ≡ Err t) → IsUnsoundIn t db
unsound_in None db t has unsound = absurd unsound
unsound_in (Some r) db t has unsound = record { rows = tables_of r; are = has; unsound = unsound }

none_unsound : (found : Option StoredRows) (db : Trees) → HasFound found db → IfSome found (λ r. (t : Table) → content_of (tables_of r) ≢ Err t) → (t : Table) → IsUnsoundIn t db → ⊥
none_unsound None db others fine t it = no it.are
  where
    no : HasRows it.rows db → ⊥
    no (n, some, few, p, _) = others n some few p
none_unsound (Some r) db has fine t it = fine t (ap content_of (one_has_rows (tables_of r) it.rows db has it.are) ∙ it.unsound)

module _ {S : Type 0} {view : S → View} {recovers : S → Trees → Type 0} where
  -- what an opening may find of a store that was rolled back and then read
  module _ (old mid new : S) (found : Option StoredRows) (back : IsRolledBack (view old) (view mid))
      (shut : (view mid).is_open ≡ false → IsTrue (view mid).is_broken) (settled : (db : Trees) → IsTrue (view new).is_open → recovers new db → db ≡ (view new).committed)
      (seen : HasSeen view recovers (HasFound found) mid new) where
    has_found : IsClean (view new) → (db : Trees) → recovers new db → HasFound found db
    has_found clean db may =
        let mid_clean : IsClean (view mid) = omega (arith, clean, seen.clean) in
        let is_open : IsTrue (view mid).is_open = open_there (view mid) shut (seen.sound clean) in
        let still_open : IsTrue (view new).is_open = ap (λ (v : View). v.is_open) (seen.same clean) ∙ is_open in
        let kept : (view new).committed ≡ (view mid).trees = ap (λ (v : View). v.committed) (seen.same clean) ∙ ((back.kept mid_clean).committed is_open ∙ sym (back.undone is_open).0) in
        subst (HasFound found) (sym (settled db still_open may ∙ kept)) (seen.seen clean)

    pub unsound_there : (t : Table) → IsSomeAnd found (λ r. content_of (tables_of r) ≡ Err t) → IsUnsoundThere view recovers t new
    unsound_there t unsound clean db may = unsound_in found db t (has_found clean db may) unsound

    pub sound_there : (faults : S → ℕ) → IfSome found (λ r. (t : Table) → content_of (tables_of r) ≢ Err t) → IsSoundThere view faults recovers new
    sound_there faults fine clean is_open none db may t = none_unsound found db (has_found clean db may) fine t

-- what rows say that are there, or not
pub said_if : {X Y : Type 0} (f : X → Y) (b : Bool) (rows items : List X) → items ≡ (if b then rows else []) → map f items ≡ (if b then map f rows else [])
said_if f true rows items e = ap (map f) e
said_if f false rows items e = ap (map f) e
