-- What a DELETE of all rows makes of a table.
use Rattle.std.proofs.Common.{◌≡◌, ℕ, List, [], ◌∷◌, map, Option, Some, Ok, true, not, slice_get, IsTrue, refl, sym, ap, subst, ◌∙◌, codes}
use Rattle.std.specs.Prelude.{filter}
use Rattle.sqlite_value.specs.declared.keys.Order.{Order}
use Rattle.sqlite_value.specs.Order.{Row, column}
use Rattle.sqlite_schema.specs.declared.schema.Column.{Column}
use Rattle.sqlite_schema.specs.declared.schema.Reference.{Reference}
use Rattle.sqlite_schema.specs.declared.schema.Table.{Table}
use Rattle.sqlite_schema.specs.declared.command.Command.TheVariants.{Delete}
use Rattle.sqlite_tied.specs.Compute.{everything}
use Rattle.sqlite_keyed.proofs.ListLemmas.{all-slice_get}
use Rattle.sqlite.specs.Listing.{understood}
use Rattle.sqlite.specs.State.{State, ExecutesInside}
use Rattle.sqlite.proofs.Callers.{IsPlain, command_of}
use Rattle.lrs_store_tables.specs.Schema.{table, inventory, whole, refers}
use Rattle.lrs_store_tables.specs.Schema as it
use Rattle.lrs_store_tables.specs.StoredRows as stored
use Rattle.lrs_store_tables.specs.StoredRows.{IsWriting, AreNumbered, Makes}
use Rattle.lrs_store_tables.specs.RowChanges.{without_version, without_origins}
use Rattle.lrs_store_commit.proofs.DeleteRows.{removes, finding}
use Rattle.lrs_store_tables.proofs.Inserting.{never, still_all}
use Rattle.lrs_store_tables.proofs.Only.{SparesOthers, same_rows}
use Rattle.lrs_store_tables.proofs.Only as only

none_left : {A : Type 0} (xs : List A) → filter (λ _. not true) xs ≡ []
none_left [] = refl
none_left (x ∷ xs) = none_left xs

-- no row is left, and the other tables are as they were
pub record Cleared (tree : ℕ) (old new : State) : Type 0 where
  pub writing : IsWriting new
  pub was_open : IsTrue old.is_open
  pub rows : new.now.trees tree ≡ []
  pub others : SparesOthers tree old.now.trees new.now.trees

module _ (at : ℕ) (name : List ℕ) (tree : ℕ) (key : Option ℕ) (primary : List ℕ) (uniques : List (List ℕ)) (orders : List Order) (references : List Reference) (columns : List Column)
    (placed : slice_get inventory.tables at ≡ Some (table name tree key primary uniques orders references columns)) where
  pub clears : (sql : List ℕ) → (command_of (understood inventory sql) ≡ Delete at (finding tree [])) × IsPlain (understood inventory sql)
      → (old new : State) (count : ℕ) → IsWriting old → ExecutesInside 0 sql [] old new (Ok count) → Cleared tree old new
  clears sql is old new count writing h =
      let its : Table = table name tree key primary uniques orders references columns in
      let db = old.now.trees in
      let next = new.now.trees in
      let before = writing.tables h.1.was_open in
      let numbered = all-slice_get (λ (t : Table). AreNumbered (db t.tree)) inventory.tables at its placed before.numbered in
      let got = removes inventory at tree name key primary uniques orders references columns never [] placed
      sql [] old new count (writing.schema h.1.was_open) is.0 is.1 numbered.rise numbered.numbers h.0 in
      let empty : next tree ≡ [] = got.1.rows ∙ none_left (db tree) in
      let own : AreNumbered (next tree) = subst AreNumbered (sym empty) (record { rise = tt; numbers = tt }) in
      record {
        writing = record {
          begun = h.1.mode;
          schema = λ _. got.0;
          tables = λ _. record { numbered = still_all AreNumbered tree db next inventory.tables got.1.others own before.numbered; typed = got.1.typed; present = got.1.present };
        };
        was_open = h.1.was_open;
        rows = empty;
        others = got.1.others;
      }

clear_version_is : (command_of (understood inventory it.clear_version) ≡ Delete 0 (finding 0 [])) × IsPlain (understood inventory it.clear_version)
unfolding understood everything
clear_version_is = (refl, (refl, refl))

clear_origin_is : (command_of (understood inventory it.clear_origin) ≡ Delete 11 (finding 19 [])) × IsPlain (understood inventory it.clear_origin)
unfolding understood everything
clear_origin_is = (refl, (refl, refl))

pub versions_cleared : (old new : State) (count : ℕ) → IsWriting old → ExecutesInside 0 it.clear_version [] old new (Ok count) → Makes without_version old new
versions_cleared old new count writing h =
    let it = clears 0 (codes "version") 0 (Some 0) (0 ∷ []) [] [] [] (whole (codes "v") ∷ []) refl it.clear_version clear_version_is old new count writing h in
    let none = ap (λ (rows : List Row). map stored.version_in (map (λ r. map (column r) stored.version_places) rows)) it.rows in
    record { writing = it.writing; was_open = λ opened. it.was_open; rows = only.only_version old.now.trees new.now.trees it.others (λ _. []) (same_rows (sym none)) }

pub origins_cleared : (old new : State) (count : ℕ) → IsWriting old → ExecutesInside 0 it.clear_origin [] old new (Ok count) → Makes without_origins old new
origins_cleared old new count writing h =
    let it = clears 11 (codes "origin") 19 (Some 0) (0 ∷ []) [] [] (refers 0 (codes "asset") ∷ []) (whole (codes "asset") ∷ whole (codes "edit") ∷ []) refl it.clear_origin clear_origin_is old new count writing h in
    let none = ap (λ (rows : List Row). map stored.origin_in (map (λ r. map (column r) stored.origin_places) rows)) it.rows in
    record { writing = it.writing; was_open = λ opened. it.was_open; rows = only.only_origin old.now.trees new.now.trees it.others (λ _. []) (same_rows (sym none)) }
