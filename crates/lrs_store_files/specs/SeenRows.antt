-- Rows that are read from the trees of a store.
use Rattle.std.specs.Prelude.{◌≡◌, ◌≤◌, ◌⊎◌, ℕ, false, List, IsTrue}
use Rattle.sqlite_value.specs.Order.{Row}
use Rattle.sqlite_trees.specs.Tree.{Trees}
use Rattle.sqlite_trees.specs.View.{View, doubt, IsClean}
use Rattle.sqlite_trees.specs.declared.error.StoreError.{StoreError}
use Rattle.sqlite_trees.specs.declared.error.StoreError.TheVariants.{OutOfMemory}
use Rattle.sqlite_exec.specs.Calls.{OnlyReads}
use Rattle.lrs_store_tables.specs.StoredRows.{rows_of, version_places, link_places, class_places, asset_places, piece_places, mark_places, ref_places, span_places, entered_places, gone_places, edit_places, origin_places}
use Rattle.lrs_store_tables.specs.declared.stored_rows.NamedRows.{NamedRows}
use Rattle.lrs_store_tables.specs.declared.stored_rows.RouteRows.{RouteRows}

-- A store was read: this holds of its trees, none of them has changed, and a crash has no new outcome.
pub record HasSeen {S : Type 0} (view : S → View) (recovers : S → Trees → Type 0) (P : Trees → Type 0) (old new : S) : Type 0 where
  pub clean : doubt (view old).is_clean ≤ doubt (view new).is_clean
  pub outcomes : (db : Trees) → recovers new db → recovers old db
  pub same : IsClean (view new) → OnlyReads (view old) (view new)
  pub sound : IsClean (view new) → (view old).is_broken ≡ false
  pub seen : IsClean (view new) → P (view old).trees

-- A store was looked at: no doubt of its disk is forgotten, and a later opening finds there what it might have found before.
pub record WasLookedAt {S : Type 0} (view : S → View) (recovers : S → Trees → Type 0) (old new : S) : Type 0 where
  pub clean : doubt (view old).is_clean ≤ doubt (view new).is_clean
  pub outcomes : (db : Trees) → recovers new db → recovers old db

-- why a store is not read whose disk has not failed: memory ran out, or the store was broken
abbrev pub StopsFor : View → StoreError → Type 0
StopsFor v e = (e ≡ OutOfMemory) ⊎ IsTrue v.is_broken

-- A store was not read: no doubt of its disk is forgotten, a crash has no new outcome, it was not shut before if it is open now, and if its disk has not failed there is a reason.
pub record HasStopped {S : Type 0} (view : S → View) (faults : S → ℕ) (recovers : S → Trees → Type 0) (old new : S) (e : StoreError) : Type 0 where
  pub clean : doubt (view old).is_clean ≤ doubt (view new).is_clean
  pub outcomes : (db : Trees) → recovers new db → recovers old db
  pub was_open : IsClean (view new) → IsTrue (view new).is_open → IsTrue (view old).is_open
  pub cause : IsClean (view new) → faults new ≡ 0 → StopsFor (view old) e

-- these are the rows of the tables

pub record HasNamed (r : NamedRows) (db : Trees) : Type 0 where
  pub version : r.version.items ≡ rows_of db 0 version_places
  pub link : r.link.items ≡ rows_of db 1 link_places
  pub class : r.class.items ≡ rows_of db 2 class_places
  pub asset : r.asset.items ≡ rows_of db 4 asset_places

pub record HasRoutes (r : RouteRows) (db : Trees) : Type 0 where
  pub piece : r.piece.items ≡ rows_of db 5 piece_places
  pub mark : r.mark.items ≡ rows_of db 7 mark_places
  pub referent : r.referent.items ≡ rows_of db 9 ref_places
  pub span : r.span.items ≡ rows_of db 11 span_places

-- these are the rows of both ledgers
pub record HasLedgers (parts left : List Row) (db : Trees) : Type 0 where
  pub entered : parts ≡ rows_of db 13 entered_places
  pub gone : left ≡ rows_of db 15 gone_places

-- these are the rows of edits and of origins
pub record HasEdits (edits origins : List Row) (db : Trees) : Type 0 where
  pub edit : edits ≡ rows_of db 17 edit_places
  pub origin : origins ≡ rows_of db 19 origin_places
