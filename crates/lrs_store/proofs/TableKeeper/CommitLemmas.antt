-- What written changes make of what an opening may find.
use Rattle.std.proofs.Common.{◌≡◌, ◌⊎◌, inl, inr, ℕ, ◌+◌, List, [], length, IsTrue, IfOk, Ok, Result, sym, ap, subst, ◌∙◌, arith}
use Rattle.sqlite_trees.specs.declared.store.Store.{Ghosts}
use Rattle.sqlite_trees.specs.Tree.{Trees}
use Rattle.sqlite.specs.Effect.{Database}
use Rattle.sqlite.specs.Held.{Held, state}
use Rattle.sqlite.specs.State.{State, HasCleanDisk}
use Rattle.lrs_machine.specs.declared.image.Image.{Image}
use Rattle.lrs_machine.specs.declared.table.Table.{Table}
use Rattle.lrs_image.specs.declared.change.Change.{Change}
use Rattle.lrs_image.specs.ChangeLists.{apply_all, CanMakeAll, IsChangedBy}
use Rattle.lrs_store_tables.specs.Contents.Tables.{Tables}
use Rattle.lrs_store_tables.specs.Contents.Content.{content_of}
use Rattle.lrs_store_tables.specs.StoredRows.{stored, LeavesStore}
use Rattle.lrs_store_tables.specs.Writes.{AreWritten}
use Rattle.lrs_store_tables.specs.Connections.{IsReady}
use Rattle.lrs_store_commit.specs.Laws.Texts.{HaveTexts}
use Rattle.lrs_store_commit.specs.UndoneChanges.{LeavesUndone}
use Rattle.lrs_store_tables.specs.HeldRows.{MayHold}
use Rattle.lrs_store.specs.TableKeeper.HeldImages.{HoldEdits, HasEdits, IsOpenIfClean, IsStillOpen, IsAsBefore}
use Rattle.lrs_store.specs.TableKeeper.Openings.{IsSecond}
use Rattle.lrs_store.proofs.TableKeeper.Next.{rows_after_all, all_more}
use Rattle.lrs_store.proofs.TableKeeper.ReadLemmas.{IsSettled, before}

abbrev pub Stays : {S : Type 0} → Ghosts S → Type 0
Stays {S} g = (s : S) → IsTrue (g.view s).is_open → g.recovers s (g.view s).committed

-- what is found of rows after the changes
pub record IsNext (s : State) (n : ℕ) (cs : List Change) (after : Tables) : Type 0 where
  pub edits : HoldEdits n after
  pub changed : IsChangedBy (MayHold s) cs (content_of after)

module _ {S : Type 0} (g : Ghosts S) (stays : Stays g) (settled : IsSettled g) (old : Held S) (n edits : ℕ) (cs : List Change)
    (ready : IsReady (state g old)) (next : n ≡ edits + 1) (kept : HasEdits edits (state g old))
    (can : (x : Result Image Table) → MayHold (state g old) x → IfOk x (CanMakeAll cs)) (texts : HaveTexts cs) where
  abbrev s : State
  s = state g old

  written_next : HasCleanDisk s → IsTrue s.is_open → (after : Tables) → AreWritten n cs (stored s.now.trees) after → IsNext s (edits + length cs) cs after
  written_next clean opened after written =
      let db = s.committed.trees in
      let left = stays old.store opened in
      let held = kept clean db left in
      let found : MayHold s (Ok held.image) = (clean, (db, left, held.rows.holds)) in
      let from : AreWritten n cs (stored db) after = subst (λ (d : Database). AreWritten n cs (stored d.trees) after) (ready clean opened).settled written in
      let rows = rows_after_all cs held.image (stored db) after texts (can (Ok held.image) found) held.rows (subst (λ k. AreWritten k cs (stored db) after) (next ∙ ap (λ k. k + 1) (sym held.edits)) from) in
      record {
        edits = record { image = apply_all cs held.image; rows = rows; edits = all_more cs held.image edits held.edits };
        changed = (held.image, found, rows.holds);
      }

  module _ (new : Held S) (early : HasCleanDisk (state g new) → HasCleanDisk s) where
    abbrev s1 : State
    s1 = state g new

    -- after Ok
    module _ (opens : HasCleanDisk s1 → IsTrue s.is_open × IsTrue s1.is_open) (written : HasCleanDisk s1 → AreWritten n cs (stored s.now.trees) (stored s1.committed.trees)) where
      is_next : HasCleanDisk s1 → (db : Trees) → s1.may_leave db → IsNext s (edits + length cs) cs (stored db)
      is_next clean db left =
          subst (λ (d : Trees). IsNext s (edits + length cs) cs (stored d)) (sym (settled new.store db (opens clean).1 left))
          (written_next (early clean) (opens clean).0 (stored s1.committed.trees) (written clean))

      pub counted : HasEdits (edits + length cs) s1
      counted clean db left = (is_next clean db left).edits

      pub changed : (x : Result Image Table) → MayHold s1 x → IsChangedBy (MayHold s) cs x
      changed x h = subst (IsChangedBy (MayHold s) cs) h.1.2 (is_next h.0 h.1.0 h.1.1).changed

    -- after a fault
    pub old_or_changed : (HasCleanDisk s1 → (db : Trees) → s1.may_leave db → s.may_leave db ⊎ (IsTrue s.is_open × AreWritten n cs (stored s.now.trees) (stored db))) → (x : Result Image Table) → MayHold s1 x → MayHold s x ⊎ IsChangedBy (MayHold s) cs x
    old_or_changed crash x h =
        elim (crash h.0 h.1.0 h.1.1) [
          | inl earlier ↦ inl (early h.0, (h.1.0, earlier, h.1.2))
          | inr made ↦ inr (subst (IsChangedBy (MayHold s) cs) h.1.2 (written_next (early h.0) made.0 (stored h.1.0) made.1).changed)
        ]

-- rows of which the edits are counted are of version 2
pub counted_second : (s : State) (edits : ℕ) → HasEdits edits s → IsSecond s
counted_second s edits kept clean db left = (kept clean db left).rows.version

-- what is found after a call that keeps nothing could be found before it
pub held_before : (old new : State) → LeavesStore old new → (x : Result Image Table) → MayHold new x → MayHold old x
held_before old new last x h = (omega (arith, h.0, last.clean), (h.1.0, before (last.crash h.0 h.1.0 h.1.1), h.1.2))

-- changes that were not written leave the connection ready
pub ready_after : (old mid : State) → IsOpenIfClean old → (HasCleanDisk mid → HasCleanDisk old) → LeavesUndone old mid → IsReady mid
ready_after old mid opened early undone clean was = (undone clean (opened (early clean)) was).rest

-- where the store is open afterwards, nothing was kept
module _ {S : Type 0} (g : Ghosts S) (stays : Stays g) (settled : IsSettled g) (old mid new : Held S) (edits : ℕ) (opened : IsOpenIfClean (state g old)) (kept : HasEdits edits (state g old))
    (early : HasCleanDisk (state g mid) → HasCleanDisk (state g old)) (undone : LeavesUndone (state g old) (state g mid)) (still : IsStillOpen (state g mid) (state g new)) (last : LeavesStore (state g mid) (state g new)) where
  first : HasCleanDisk (state g new) → HasCleanDisk (state g old)
  first clean = early (omega (arith, clean, last.clean))

  left_before : HasCleanDisk (state g new) → (db : Trees) → g.recovers new.store db → g.recovers old.store db
  left_before clean db left =
      let m : HasCleanDisk (state g mid) = omega (arith, clean, last.clean) in
      let was = still.was_open clean in
      let is = settled mid.store db was (before (last.crash clean db left)) ∙ (undone m (opened (early m)) was).trees in
      subst (λ (d : Trees). g.recovers old.store d) (sym is) (stays old.store (opened (early m)))

  edits_left : HasEdits edits (state g new)
  edits_left clean db left = kept (first clean) db (left_before clean db left)

  pub as_before : IsAsBefore edits (state g old) (state g new)
  as_before = record {
    ready = still.ready;
    second = counted_second (state g new) edits edits_left;
    is_open = still.is_open;
    edits_are = edits_left;
    content = λ x h. (first h.0, (h.1.0, left_before h.0 h.1.0 h.1.1, h.1.2));
  }

-- without a change
pub unchanged : (s : State) (edits : ℕ) (cs : List Change) → cs ≡ [] → HasEdits edits s → (x : Result Image Table) → MayHold s x → IsChangedBy (MayHold s) cs x
unchanged s edits cs none kept x h =
    let held = kept h.0 h.1.0 h.1.1 in
    let is : x ≡ Ok held.image = sym h.1.2 ∙ held.rows.holds in
    subst (λ (l : List Change). IsChangedBy (MayHold s) l x) (sym none) (held.image, subst (MayHold s) is h, is)
