-- What a keeper over the tables of a store knows of them.
use Rattle.std.specs.Prelude.{◌≡◌, ◌≢◌, ◌⊎◌, ℕ, pos, Bool, true, false, [], ◌∷◌, length, Result, Ok, Err, IsTrue}
use Rattle.std.proofs.Common.{refl}
use Rattle.sqlite_trees.specs.Tree.{Trees}
use Rattle.sqlite.specs.State.{State, HasCleanDisk}
use Rattle.lrs_machine.specs.declared.image.Image.{Image}
use Rattle.lrs_machine.specs.declared.table.Table.{Table}
use Rattle.lrs_store_tables.specs.Contents.Tables.{Tables}
use Rattle.lrs_store_tables.specs.Contents.Content.{content_of}
use Rattle.lrs_store_tables.specs.StoredRows.{stored}
use Rattle.lrs_store_tables.specs.HeldRows.{MayHold}
use Rattle.lrs_store_tables.specs.Connections.{IsReady}
use Rattle.lrs_store.specs.TableKeeper.Openings.{IsSecond}

-- The store finds something: it is open, and its disk is clean.
pub record IsSafe (s : State) : Type 0 where
  pub clean : HasCleanDisk s
  pub is_open : IsTrue s.is_open

-- rows that may be left are found, if the disk is clean
pub finds_left : (may_leave : Trees → Type 0) (db : Trees) {Clean : Type 0} → Clean → may_leave db → (c : Result Image Table) × (Clean × ((d : Trees) × may_leave d × (content_of (stored d) ≡ c)))
finds_left may_leave db clean left = (content_of (stored db), (clean, (db, left, refl)))

-- the store is open, if its disk is clean
abbrev pub IsOpenIfClean : State → Type 0
IsOpenIfClean s = HasCleanDisk s → IsTrue s.is_open

-- rows of version 2 that hold this image
pub record AreRowsOf (i : Image) (t : Tables) : Type 0 where
  pub version : t.version ≡ pos 2 ∷ []
  pub holds : content_of t ≡ Ok i

-- rows that hold no image as rows of version 2: they are of another version, or this is their first unsound table
abbrev pub HoldNone : Table → Tables → Type 0
HoldNone u t = (t.version ≢ pos 2 ∷ []) ⊎ (content_of t ≡ Err u)

-- This table is the first unsound one of whatever may be found, and that is found where the disk is clean.
pub record FindsUnsound (t : Table) (s : State) : Type 0 where
  pub only : (c : Result Image Table) → MayHold s c → c ≡ Err t
  pub found : HasCleanDisk s → MayHold s (Err t)

-- rows of version 2 that hold an image with this many edits
pub record HoldEdits (n : ℕ) (t : Tables) : Type 0 where
  pub image : Image
  pub rows : AreRowsOf image t
  pub edits : length image.edits ≡ n

-- whatever may be found has this many edits
abbrev pub HasEdits : ℕ → State → Type 0
HasEdits n s = HasCleanDisk s → (db : Trees) → s.may_leave db → HoldEdits n (stored db)

-- a call left the connection at rest, and it was open before and is, if the disk is clean
pub record IsStillOpen (old new : State) : Type 0 where
  pub ready : IsReady new
  pub was_open : HasCleanDisk new → IsTrue old.is_open
  pub is_open : IsOpenIfClean new

-- Nothing was kept: what may be found could be found before, with as many edits, and the connection can be used.
pub record IsAsBefore (edits : ℕ) (old new : State) : Type 0 where
  pub ready : IsReady new
  pub second : IsSecond new
  pub is_open : IsOpenIfClean new
  pub edits_are : HasEdits edits new
  pub content : (c : Result Image Table) → MayHold new c → MayHold old c

-- A keeper can use its connection: it is at rest, outside a transaction, and its rows are of version 2. Once the image is loaded it is open and the edits are counted.
pub record IsUsable (s : State) (in_transaction is_loaded : Bool) (edits : ℕ) : Type 0 where
  pub autocommit : in_transaction ≡ false
  pub ready : IsReady s
  pub second : IsSecond s
  pub is_open : is_loaded ≡ true → IsOpenIfClean s
  pub loaded : is_loaded ≡ true → HasEdits edits s
