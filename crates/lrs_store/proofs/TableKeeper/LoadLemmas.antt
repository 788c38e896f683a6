-- What was read of the rows of a store is what an opening may find.
use Rattle.std.proofs.Common.{◌≡◌, inl, inr, pos, length, Ok, Err, Result, refl, sym, subst, ◌∙◌, IsPermutation, arith}
use Rattle.std.proofs.lemmas.List.Sorted.{IsPermutation-sym}
use Rattle.sqlite_trees.specs.declared.store.Store.{Ghosts}
use Rattle.sqlite_trees.specs.Tree.{Trees}
use Rattle.sqlite.specs.Held.{Held, state}
use Rattle.sqlite.specs.State.{State, HasCleanDisk, IsLive}
use Rattle.lrs_machine.specs.declared.image.Image.{Image}
use Rattle.lrs_machine.specs.declared.table.Table.{Table}
use Rattle.lrs_store_tables.specs.Contents.Tables.{Tables, AreSame}
use Rattle.lrs_store_tables.specs.Contents.Content.{content_of}
use Rattle.lrs_store_tables.proofs.Contents.Stored.{content_is_of_rows}
use Rattle.lrs_store_tables.specs.StoredRows.{stored, LeavesStore}
use Rattle.lrs_store_tables.specs.Connections.{IsReady}
use Rattle.lrs_store_tables.specs.HeldRows.{MayHold}
use Rattle.lrs_store.specs.TableKeeper.HeldImages.{AreRowsOf, HasEdits, HoldNone, FindsUnsound, IsOpenIfClean, finds_left}
use Rattle.lrs_store.specs.TableKeeper.Openings.{IsSecond}
use Rattle.lrs_store_commit.proofs.UndoneLemmas.{Stays, rests_undone}
use Rattle.lrs_store_commit.specs.UndoneChanges.{GoesBack}
use Rattle.lrs_store.proofs.TableKeeper.Next.{alone_again}

same_rows : (i : Image) (s t : Tables) → AreSame s t → AreRowsOf i t → AreRowsOf i s
same_rows i s t same rows = record {
  version = alone_again (pos 2) s.version (subst (λ v. IsPermutation v s.version) rows.version (IsPermutation-sym s.version t.version same.version));
  holds = content_is_of_rows s t same ∙ rows.holds;
}

module _ (s : State) (t : Tables) (same : HasCleanDisk s → (db : Trees) → s.may_leave db → AreSame (stored db) t) where
  pub loaded_edits : (i : Image) → AreRowsOf i t → HasEdits (length i.edits) s
  loaded_edits i rows clean db left = record { image = i; rows = same_rows i (stored db) t (same clean db left) rows; edits = refl }

  pub loaded_image : (i : Image) → AreRowsOf i t → (c : Result Image Table) → MayHold s c → c ≡ Ok i
  loaded_image i rows c h = sym h.1.2 ∙ (same_rows i (stored h.1.0) t (same h.0 h.1.0 h.1.1) rows).holds

  pub loaded_unsound : (u : Table) → content_of t ≡ Err u → (c : Result Image Table) → MayHold s c → c ≡ Err u
  loaded_unsound u e c h = sym h.1.2 ∙ content_is_of_rows (stored h.1.0) t (same h.0 h.1.0 h.1.1) ∙ e

  pub loaded_none : IsSecond s → (u : Table) → HoldNone u t → (c : Result Image Table) → MayHold s c → c ≡ Err u
  loaded_none second u (inl other) c h =
      let db = h.1.0 in
      absurd (other (alone_again (pos 2) t.version (subst (λ v. IsPermutation v t.version) (second h.0 db h.1.1) (same h.0 db h.1.1).version)))
  loaded_none second u (inr e) c h = loaded_unsound u e c h

-- an unsound table is found, if the connection is open
pub finds_unsound : {S : Type 0} (g : Ghosts S) (stays : Stays g) (h : Held S) (u : Table) → IsOpenIfClean (state g h) → ((c : Result Image Table) → MayHold (state g h) c → c ≡ Err u) → FindsUnsound u (state g h)
finds_unsound g stays h u opened only = record {
  only = only;
  found = λ clean.
      let db = (state g h).committed.trees in
      let there = finds_left (state g h).may_leave db clean (stays h.store (opened clean)) in
      subst (MayHold (state g h)) (only there.0 there.1) there.1;
}

-- rows were read, or not, and what was begun was undone: a connection that was open before is at rest again
pub rests_read : (old new : State) → IsReady old → IsLive old → IsLive new → LeavesStore old new → GoesBack old new → IsOpenIfClean old → IsReady new
rests_read old new ready live lives survives back was clean opened = (rests_undone old new ready live lives early back clean (was (early clean)) opened).rest
  where
    early : HasCleanDisk new → HasCleanDisk old
    early late = omega (arith, late, survives.clean)
