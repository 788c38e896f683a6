-- Tables that are being made, in one order.
use Rattle.std.specs.Prelude.{◌≡◌, ℕ, ◌<◌, ◌≤◌, nat_lt, ◌==◌, if◌then◌else◌, List, [], ◌∷◌, filter, take, option_map, unwrap_or, slice_get, slice_index_or, IsTrue}
use Rattle.std.specs.List.{list_any}
use Rattle.sqlite_schema.specs.declared.schema.Table.{Table}
use Rattle.sqlite_schema.specs.declared.schema.Index.{Index}
use Rattle.sqlite_schema.specs.declared.schema.Schema.{Schema}
use Rattle.sqlite_trees.specs.Tree.{Trees}
use Rattle.sqlite.specs.State.{State}
use Rattle.lrs_store_tables.specs.Contents.Tables.{Tables}
use Rattle.lrs_store_tables.specs.Schema as it
use Rattle.lrs_store_tables.specs.Schema.{inventory}

-- a store without tables
abbrev pub no_schema : Schema
no_schema = record { tables = []; indexes = []; views = [] }

-- the first tables of an inventory, with the indexes of their keys
abbrev pub first_tables : ℕ → Schema
first_tables n = record {
  tables = take n inventory.tables;
  indexes = filter (λ (i : Index). list_any (λ (t : Table). t.tree == i.table) (take n inventory.tables)) inventory.indexes;
  views = [];
}

-- the statement that makes the table at this place
abbrev pub create_at : ℕ → List ℕ
create_at k = slice_index_or (it.create_version ∷ it.create_link ∷ it.create_class ∷ it.create_asset ∷ it.create_piece ∷ it.create_mark ∷ it.create_ref ∷ it.create_span ∷ it.create_entered ∷ it.create_gone ∷ it.create_edit ∷ it.create_origin ∷ []) k []

-- the tree of that table
abbrev pub tree_at : ℕ → ℕ
tree_at k = unwrap_or (option_map (λ (t : Table). t.tree) (slice_get inventory.tables k)) 0

-- Of the first m tables the first n have the rows that they had, and the others have none.
pub record HasFirst (n m : ℕ) (old new : Trees) : Type 0 where
  pub kept : (k : ℕ) → k < n → new (tree_at k) ≡ old (tree_at k)
  pub empty : (k : ℕ) → n ≤ k → k < m → new (tree_at k) ≡ []

-- inside a transaction, with the first n tables
pub record IsBegun (n : ℕ) (s : State) : Type 0 where
  pub begun : IsTrue s.in_transaction
  pub tables : IsTrue s.is_open → s.now.schema ≡ first_tables n

-- The same, and now with the first m tables: those behind the first n were made since.
pub record IsMaking (n m : ℕ) (old new : State) : Type 0 where
  pub begun : IsTrue new.in_transaction
  pub is_open : n < m → IsTrue new.is_open
  pub was_open : IsTrue new.is_open → IsTrue old.is_open
  pub tables : IsTrue new.is_open → new.now.schema ≡ first_tables m
  pub rows : IsTrue new.is_open → HasFirst n m old.now.trees new.now.trees

-- the rows of the table at a place, which is there if it is one of the first
abbrev pub if_first : {X : Type 0} → ℕ → ℕ → List X → List X
if_first n k rows = if nat_lt k n then rows else []

-- the rows of the first tables, and none of the others
abbrev pub first_rows : ℕ → Tables → Tables
first_rows n t = record {
  version = if_first n 0 t.version;
  link = if_first n 1 t.link;
  class = if_first n 2 t.class;
  asset = if_first n 3 t.asset;
  piece = if_first n 4 t.piece;
  mark = if_first n 5 t.mark;
  ref = if_first n 6 t.ref;
  span = if_first n 7 t.span;
  entered = if_first n 8 t.entered;
  gone = if_first n 9 t.gone;
  edit = if_first n 10 t.edit;
  origin = if_first n 11 t.origin;
}

-- none of the tables has a row
abbrev pub AreEmpty : Trees → Type 0
AreEmpty db = (k : ℕ) → k < 12 → db (tree_at k) ≡ []
