-- Tables that were just made have no row.
use Rattle.std.proofs.Common.{◌≡◌, List, [], true, IsTrue, refl, sym, subst, ◌∙◌, arith}
use Rattle.std.specs.List.{AllByRecursion}
use Rattle.sqlite_value.specs.Order.{Row}
use Rattle.sqlite_schema.specs.declared.schema.Table.{Table}
use Rattle.sqlite_schema.specs.declared.schema.Schema.{Schema}
use Rattle.sqlite_schema.specs.declared.schema.Constraint.TheVariants.{Datatype, NotNull}
use Rattle.sqlite_schema.specs.Rules.{passes}
use Rattle.sqlite_trees.specs.Tree.{Trees}
use Rattle.sqlite_keyed.proofs.ListLemmas.{all_weaker}
use Rattle.sqlite_trees.specs.declared.store.Store.{Ghosts}
use Rattle.sqlite.specs.Held.{Held, state}
use Rattle.sqlite.specs.State.{State, HasCleanDisk, Survives}
use Rattle.lrs_store_tables.specs.Schema.{inventory}
use Rattle.lrs_store_tables.specs.Contents.Tables.{AreSame}
use Rattle.lrs_store_tables.specs.StoredRows.{stored, AreNumbered, HasTables, IsWriting, Makes}
use Rattle.lrs_store_tables.specs.RowLaws.{same_trans}
use Rattle.lrs_store_tables.specs.RowChanges.{with_version}
use Rattle.lrs_store_tables.specs.TableCreation.{HasFirst, IsBegun, IsMaking, no_schema}
use Rattle.lrs_store_tables.specs.NewStores.{new_rows, IsStarted}
use Rattle.lrs_store_tables.proofs.MakeLemmas.{none_made, all_made, each_tree, rows_of_first}
use Rattle.lrs_store_tables.proofs.Steady.{steady-with_version}
use Rattle.lrs_store_tables.proofs.Transactions.{survives_transaction}

abbrev IsEmpty : Trees → Schema → Type 0
IsEmpty db schema = AllByRecursion (λ (t : Table). db t.tree ≡ []) schema.tables

all_empty : (old new : Trees) → HasFirst 0 12 old new → IsEmpty new inventory
all_empty old new has = each_tree (λ t. new t ≡ []) (λ k low. has.empty k (omega arith) low)

all_of_none : (P : Row → Type 0) (rows : List Row) → rows ≡ [] → AllByRecursion P rows
all_of_none P rows e = subst (AllByRecursion P) (sym e) tt

has_tables : (db : Trees) → IsEmpty db inventory → HasTables db
has_tables db empty = record {
  numbered = all_weaker (λ (t : Table). db t.tree ≡ []) (λ (t : Table). AreNumbered (db t.tree)) (λ t e. subst AreNumbered (sym e) (record { rise = tt; numbers = tt })) inventory.tables empty;
  typed = all_weaker (λ (t : Table). db t.tree ≡ []) (λ (t : Table). AllByRecursion (λ (r : Row). passes Datatype inventory db t r ≡ true) (db t.tree)) (λ t e. all_of_none (λ (r : Row). passes Datatype inventory db t r ≡ true) (db t.tree) e) inventory.tables empty;
  present = all_weaker (λ (t : Table). db t.tree ≡ []) (λ (t : Table). AllByRecursion (λ (r : Row). passes NotNull inventory db t r ≡ true) (db t.tree)) (λ t e. all_of_none (λ (r : Row). passes NotNull inventory db t r ≡ true) (db t.tree) e) inventory.tables empty;
}

pub made_writing : (old s : State) → IsMaking 0 12 old s → IsWriting s
made_writing old s making = record {
  begun = making.begun;
  schema = λ opened. making.tables opened ∙ all_made;
  tables = λ opened. has_tables s.now.trees (all_empty old.now.trees s.now.trees (making.rows opened));
}

pub started : (old a b : State) → IsTrue a.is_open → IsMaking 0 12 old a → Makes (with_version 2) a b → IsStarted b
started old a b opened making makes = record {
  writing = makes.writing;
  rows = same_trans _ _ _ (steady-with_version 2 _ _ (rows_of_first 0 old.now.trees a.now.trees (making.rows opened))) makes.rows;
}

-- what an opening finds after a crash is what it would have found before, or the rows of a new store
pub crash : {S : Type 0} (g : Ghosts S) (old tx mid : Held S) (last : State) → tx ≡ record old { in_transaction = true } → (HasCleanDisk (state g old) → IsTrue (state g old).is_open → (state g old).now.schema ≡ no_schema)
    → Survives (state g tx) (state g mid) (λ _. ⊥) → (HasCleanDisk (state g mid) → IsBegun 0 (state g tx) → IsStarted (state g mid)) → Survives (state g mid) last (λ db. db ≡ (state g mid).now.trees)
    → Survives (state g old) last (λ db. AreSame new_rows (stored db))
crash g old tx mid last is blank one starts two =
    survives_transaction g old tx mid last (λ t. HasCleanDisk (state g mid) → IsBegun 0 (state g t) → IsStarted (state g mid)) (λ db. AreSame new_rows (stored db)) is one starts two (λ does early m.
    (does m (record { begun = refl; tables = λ opened. blank early opened ∙ sym none_made })).rows)
