-- The rows of a store as they lie in its trees, and what a connection over them knows.
use Rattle.std.specs.Prelude.{◌≡◌, ℕ, ℤ, negsuc, List, [], ◌∷◌, map, IsTrue, Result, OnOk}
use Rattle.std.specs.List.{AllByRecursion}
use Rattle.sqlite_value.specs.declared.value.Value.{Value}
use Rattle.sqlite_value.specs.declared.value.Value.TheVariants.{Null, Int, Real, Text, Blob}
use Rattle.sqlite_value.specs.Order.{Row, column}
use Rattle.sqlite_trees.specs.Tree.{Trees, IsTable, rowid}
use Rattle.sqlite_trees.specs.declared.store.Store.{Ghosts}
use Rattle.sqlite_schema.specs.declared.schema.Table.{Table}
use Rattle.sqlite_schema.specs.declared.schema.Constraint.TheVariants.{Datatype, NotNull}
use Rattle.sqlite_schema.specs.Rules.{Keeps}
use Rattle.sqlite_rules.specs.Edit.{id_in}
use Rattle.sqlite.specs.declared.error.Error.{Error}
use Rattle.sqlite.specs.declared.transaction.Transaction.{Transaction}
use Rattle.sqlite.specs.Held.{state}
use Rattle.sqlite.specs.State.{State, HasCleanDisk, Survives}
use Rattle.lrs_measure.specs.Texts.{Name}
use Rattle.lrs_store_tables.specs.Contents.Tables.{Tables, AreSame, LinkRow, ClassRow, AssetRow, PieceRow, MarkRow, RefRow, SpanRow, EnteredRow, GoneRow, EditRow, OriginRow}
use Rattle.lrs_store_tables.specs.Schema.{inventory}

-- the rows of a table, as its columns at these places show them
abbrev pub rows_of : Trees → ℕ → List ℕ → List Row
rows_of db tree places = map (λ r. map (column r) places) (db tree)

-- the whole number of a value; what is none reads as -1, which no table allows
abbrev pub whole_in : Value → ℤ
whole_in Null = negsuc 0
whole_in (Int n) = n
whole_in (Real x) = negsuc 0
whole_in (Text t) = negsuc 0
whole_in (Blob b) = negsuc 0

-- the text of a value; what is none reads as a byte that is no UTF-8
abbrev pub text_in : Value → List ℕ
text_in Null = 255 ∷ []
text_in (Int n) = 255 ∷ []
text_in (Real x) = 255 ∷ []
text_in (Text t) = t
text_in (Blob b) = 255 ∷ []

abbrev pub whole_at : ℕ → Row → ℤ
whole_at at r = whole_in (column r at)

abbrev pub text_at : ℕ → Row → Name
text_at at r = text_in (column r at)

-- Where the columns of each table stand in its rows: a key of one whole number is the number of the row.
abbrev pub version_places : List ℕ
version_places = 0 ∷ []

abbrev pub link_places : List ℕ
link_places = 0 ∷ 2 ∷ []

abbrev pub class_places : List ℕ
class_places = 1 ∷ 2 ∷ []

abbrev pub asset_places : List ℕ
asset_places = 0 ∷ 2 ∷ 3 ∷ 4 ∷ []

abbrev pub piece_places : List ℕ
piece_places = 1 ∷ 2 ∷ 3 ∷ 4 ∷ 5 ∷ 6 ∷ []

abbrev pub mark_places : List ℕ
mark_places = 1 ∷ 2 ∷ 3 ∷ 4 ∷ []

abbrev pub ref_places : List ℕ
ref_places = 1 ∷ 2 ∷ 3 ∷ []

abbrev pub span_places : List ℕ
span_places = 1 ∷ 2 ∷ 3 ∷ 4 ∷ 5 ∷ []

abbrev pub entered_places : List ℕ
entered_places = 1 ∷ 2 ∷ 3 ∷ 4 ∷ 5 ∷ 6 ∷ []

abbrev pub gone_places : List ℕ
gone_places = 1 ∷ 2 ∷ 3 ∷ 4 ∷ 5 ∷ 6 ∷ 7 ∷ []

abbrev pub edit_places : List ℕ
edit_places = 0 ∷ 2 ∷ 3 ∷ []

abbrev pub origin_places : List ℕ
origin_places = 0 ∷ 2 ∷ []

-- what the columns of each table say
abbrev pub version_in : Row → ℤ
version_in r = whole_at 0 r

abbrev pub link_in : Row → LinkRow
link_in r = record { number = whole_at 0 r; length = whole_at 1 r }

abbrev pub class_in : Row → ClassRow
class_in r = record { name = text_at 0 r; kind = whole_at 1 r }

abbrev pub asset_in : Row → AssetRow
asset_in r = record { number = whole_at 0 r; class = text_at 1 r; value = text_at 2 r; lateral = whole_at 3 r }

abbrev pub piece_in : Row → PieceRow
piece_in r = record { route = text_at 0 r; n = whole_at 1 r; link = whole_at 2 r; a = whole_at 3 r; b = whole_at 4 r; dir = whole_at 5 r }

abbrev pub mark_in : Row → MarkRow
mark_in r = record { route = text_at 0 r; n = whole_at 1 r; chainage = whole_at 2 r; measure = whole_at 3 r }

abbrev pub ref_in : Row → RefRow
ref_in r = record { name = text_at 0 r; route = text_at 1 r; place = whole_at 2 r }

abbrev pub span_in : Row → SpanRow
span_in r = record { asset = whole_at 0 r; route = text_at 1 r; lo = whole_at 2 r; hi = whole_at 3 r; side = whole_at 4 r }

abbrev pub entered_in : Row → EnteredRow
entered_in r = record { edit = whole_at 0 r; asset = whole_at 1 r; link = whole_at 2 r; lo = whole_at 3 r; hi = whole_at 4 r; side = whole_at 5 r }

abbrev pub gone_in : Row → GoneRow
gone_in r = record { cause = whole_at 1 r; row = record { edit = whole_at 0 r; asset = whole_at 2 r; link = whole_at 3 r; lo = whole_at 4 r; hi = whole_at 5 r; side = whole_at 6 r } }

abbrev pub edit_in : Row → EditRow
edit_in r = record { number = whole_at 0 r; token = text_at 1 r; line = text_at 2 r }

abbrev pub origin_in : Row → OriginRow
origin_in r = record { asset = whole_at 0 r; edit = whole_at 1 r }

-- the rows that a store has
abbrev pub stored : Trees → Tables
stored db = record {
  version = map version_in (rows_of db 0 version_places);
  link = map link_in (rows_of db 1 link_places);
  class = map class_in (rows_of db 2 class_places);
  asset = map asset_in (rows_of db 4 asset_places);
  piece = map piece_in (rows_of db 5 piece_places);
  mark = map mark_in (rows_of db 7 mark_places);
  ref = map ref_in (rows_of db 9 ref_places);
  span = map span_in (rows_of db 11 span_places);
  entered = map entered_in (rows_of db 13 entered_places);
  gone = map gone_in (rows_of db 15 gone_places);
  edit = map edit_in (rows_of db 17 edit_places);
  origin = map origin_in (rows_of db 19 origin_places);
}

-- rows of a table, each under a number of its own
pub record AreNumbered (rows : List Row) : Type 0 where
  pub rise : IsTable rows
  pub numbers : AllByRecursion (λ r. Int (id_in (rowid r)) ≡ rowid r) rows

-- the trees are those of the tables: their rows have numbers, and their values are of the columns' types and none is missing
pub record HasTables (db : Trees) : Type 0 where
  pub numbered : AllByRecursion (λ (t : Table). AreNumbered (db t.tree)) inventory.tables
  pub typed : Keeps Datatype inventory db
  pub present : Keeps NotNull inventory db

-- the connection is inside a transaction over the tables
pub record IsWriting (s : State) : Type 0 where
  pub begun : IsTrue s.in_transaction
  pub schema : IsTrue s.is_open → s.now.schema ≡ inventory
  pub tables : IsTrue s.is_open → HasTables s.now.trees

-- a call inside a transaction makes these rows of those that were there
pub record Makes (made : Tables → Tables) (old new : State) : Type 0 where
  pub writing : IsWriting new
  pub was_open : IsTrue new.is_open → IsTrue old.is_open
  pub rows : AreSame (made (stored old.now.trees)) (stored new.now.trees)

-- what a call that answers Ok has made, if the disk is clean
abbrev pub Does : (Tables → Tables) → State → State → Type 0
Does made old new = HasCleanDisk new → IsWriting old → Makes made old new

-- inside a transaction over a clean disk, a call that answers Ok does this
abbrev pub OkDoes : {A E : Type 0} → Result A E → State → State → (State → State → Type 0) → Type 0
OkDoes result old new done = HasCleanDisk new → IsWriting old → OnOk result (done old new)

-- a crash leaves what it would have left before the call
abbrev pub LeavesStore : State → State → Type 0
LeavesStore old new = Survives old new (λ _. ⊥)

-- a call inside a transaction does this where it answers Ok, and a crash leaves what it would have left before the call
pub record Changes {A S : Type 0} (g : Ghosts S) (done : State → State → Type 0) (old new : Transaction S) (result : Result A Error) : Type 0 where
  pub same_reference : new.conn.ghost_name ≡ old.conn.ghost_name
  pub does : OkDoes result (state g old.conn.now) (state g new.conn.now) done
  pub survives : LeavesStore (state g old.conn.now) (state g new.conn.now)
