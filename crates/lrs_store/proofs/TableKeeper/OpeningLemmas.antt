-- What bringing rows up to version 2 makes of what an opening may find.
use Rattle.std.proofs.Common.{◌≡◌, ◌≢◌, ◌⊎◌, inl, inr, List, [], ◌∷◌, map, pos, IsTrue, IfOk, Ok, Err, Result, refl, sym, subst, ◌∙◌, IsPermutation, arith}
use Rattle.std.proofs.lemmas.List.Sorted.{IsPermutation-sym}
use Rattle.sqlite_value.specs.Order.{Row}
use Rattle.sqlite_trees.specs.declared.store.Store.{Ghosts}
use Rattle.sqlite_trees.specs.Tree.{Trees}
use Rattle.sqlite.specs.Effect.{Database}
use Rattle.sqlite.specs.Held.{Held, state}
use Rattle.sqlite.specs.State.{State, HasCleanDisk, Survives}
use Rattle.sqlite.proofs.StateLemmas.{survives_weaker}
use Rattle.lrs_events.specs.declared.class.Asset.{Asset}
use Rattle.lrs_machine.specs.declared.image.Image.{Image}
use Rattle.lrs_machine.specs.declared.table.Table.{Table}
use Rattle.lrs_image.specs.declared.keeper.LoadFault.{LoadFault}
use Rattle.lrs_image.specs.declared.keeper.LoadFault.TheVariants.{Unsound}
use Rattle.lrs_store_tables.specs.Contents.Tables.{Tables, AreSame}
use Rattle.lrs_store_tables.specs.Contents.Content.{content_of}
use Rattle.lrs_store_tables.specs.Contents.Laws.{brought_up}
use Rattle.lrs_store_tables.proofs.Contents.Stored.{content_is_of_rows}
use Rattle.lrs_store_tables.specs.StoredRows.{stored, version_in, LeavesStore}
use Rattle.lrs_store_tables.specs.Connections.{IsReady}
use Rattle.lrs_store_tables.specs.HeldRows.{MayHold}
use Rattle.lrs_store_tables.specs.Rows.{Tells}
use Rattle.lrs_store.specs.TableKeeper.Openings.{HoldsImage, IsSecond, IsNotSecond, HasVersions}
use Rattle.lrs_store.proofs.TableKeeper.Next.{alone_again}
use Rattle.lrs_store.proofs.TableKeeper.ReadLemmas.{IsSettled, before, left_before}
use Rattle.lrs_store.proofs.TableKeeper.CommitLemmas.{Stays}
use Rattle.lrs_store.proofs.TableKeeper.LoadLemmas.{loaded_unsound}
use Rattle.lrs_store.proofs.TableKeeper.BroughtUp.{brought_up_holds}

-- what may be found after a call that leaves the store might be found before it
pub found_before : (a b : State) → LeavesStore a b → (c : Result Image Table) → MayHold b c → MayHold a c
found_before a b survives c h =
    let late : HasCleanDisk b = h.0 in
    let early : HasCleanDisk a = omega (arith, late, survives.clean) in
    (early, (h.1.0, before (survives.crash late h.1.0 h.1.1), h.1.2))

-- and an image is held where one was
pub holds_again : (a b : State) (i : Image) → HoldsImage a i → ((c : Result Image Table) → MayHold b c → MayHold a c) → HoldsImage b i
holds_again a b i held content clean db left =
    let was = content (content_of (stored db)) (clean, (db, left, refl)) in
    sym was.1.2 ∙ held was.0 was.1.0 was.1.1

-- the rows of the version that were read are those that may be left
pub second_read : (s : State) (rows : List Row) → map version_in rows ≡ pos 2 ∷ [] → (HasCleanDisk s → (db : Trees) → s.may_leave db → HasVersions rows (stored db)) → IsSecond s
second_read s rows are read clean db left =
    let v = (stored db).version in
    alone_again (pos 2) v (subst (λ l. IsPermutation l v) are (IsPermutation-sym v (map version_in rows) (read clean db left)))

pub other_read : (s : State) (rows : List Row) → map version_in rows ≢ pos 2 ∷ [] → (HasCleanDisk s → (db : Trees) → s.may_leave db → HasVersions rows (stored db)) → IsNotSecond s
other_read s rows are read clean db left = λ second.
    are (alone_again (pos 2) (map version_in rows) (subst (λ l. IsPermutation l (map version_in rows)) second (read clean db left)))

-- ---- rows of version 2 stay

module _ (a b : State) (survives : LeavesStore a b) where
  pub second_still : IsSecond a → IsSecond b
  second_still = left_before a b survives (λ db. (stored db).version ≡ pos 2 ∷ [])

  pub other_still : IsNotSecond a → IsNotSecond b
  other_still = left_before a b survives (λ db. (stored db).version ≢ pos 2 ∷ [])

-- what is written only over a store that is open, is not written over one whose rows would be of version 2 and of another
pub nothing_written : {S : Type 0} (g : Ghosts S) (stays : Stays g) (old : Held S) (b : State) (Commits : Trees → Type 0) → ((db : Trees) → Commits db → IsTrue (state g old).is_open)
    → Survives (state g old) b Commits → IsSecond (state g old) → IsNotSecond (state g old) → LeavesStore (state g old) b
nothing_written g stays old b Commits opens survives second other = survives_weaker (state g old) b Commits (λ _. ⊥) never survives
  where
    never : HasCleanDisk b → (db : Trees) → Commits db → ⊥
    never clean db made =
        let s = state g old in
        let early : HasCleanDisk s = omega (arith, clean, survives.clean) in
        let left = stays old.store (opens db made) in
        other early s.committed.trees left (second early s.committed.trees left)

-- what was read as an image, of rows that are those that may be left
module _ (s : State) (t : Tables) (same : HasCleanDisk s → (db : Trees) → s.may_leave db → AreSame (stored db) t) where
  pub told_image : (r : Result Image LoadFault) → Tells r t → IfOk r (HoldsImage s)
  told_image (Ok image) h = λ clean db left. content_is_of_rows (stored db) t (same clean db left) ∙ h
  told_image (Err fault) h = tt

  pub told_unsound : (r : Result Image LoadFault) → Tells r t → (u : Table) → r ≡ Err (Unsound u) → (c : Result Image Table) → MayHold s c → c ≡ Err u
  told_unsound r h u e = loaded_unsound s t same u (subst (λ x. Tells x t) e h)

-- rows that hold an image are brought up, with its assets
module _ {S : Type 0} (g : Ghosts S) (stays : Stays g) (settled : IsSettled g) (old new : Held S) (i : Image) (xs : List Asset) (are : xs ≡ i.assets)
    (ready : IsReady (state g old)) (holds : HoldsImage (state g old) i) (early : HasCleanDisk (state g new) → HasCleanDisk (state g old)) where
  abbrev s : State
  s = state g old

  abbrev s1 : State
  s1 = state g new

  abbrev AreUp : Tables → Type 0
  AreUp after = AreSame (brought_up xs (stored s.now.trees)) after

  found_again : HasCleanDisk s → IsTrue s.is_open → (after : Tables) → AreUp after → MayHold s (content_of after)
  found_again clean opened after same =
      let db = s.committed.trees in
      let left = stays old.store opened in
      let held = holds clean db left in
      let now : content_of (stored s.now.trees) ≡ Ok i = subst (λ (d : Database). content_of (stored d.trees) ≡ Ok i) (sym (ready clean opened).settled) held in
      let up : content_of (brought_up xs (stored s.now.trees)) ≡ Ok i = subst (λ (ys : List Asset). content_of (brought_up ys (stored s.now.trees)) ≡ Ok i) (sym are) (brought_up_holds (stored s.now.trees) i now) in
      let is : content_of after ≡ Ok i = sym (content_is_of_rows (brought_up xs (stored s.now.trees)) after same) ∙ up in
      (clean, (db, left, held ∙ sym is))

  pub kept : (HasCleanDisk s1 → (db : Trees) → s1.may_leave db → s.may_leave db ⊎ (IsTrue s.is_open × AreUp (stored db))) → (c : Result Image Table) → MayHold s1 c → MayHold s c
  kept crash c h =
      elim (crash h.0 h.1.0 h.1.1) [
        | inl earlier ↦ (early h.0, (h.1.0, earlier, h.1.2))
        | inr made ↦ subst (MayHold s) h.1.2 (found_again (early h.0) made.0 (stored h.1.0) made.1)
      ]

  pub second : (HasCleanDisk s1 → IsTrue s.is_open × IsTrue s1.is_open) → (HasCleanDisk s1 → AreUp (stored s1.committed.trees)) → IsSecond s1
  second opens written clean db left =
      subst (λ (d : Trees). (stored d).version ≡ pos 2 ∷ []) (sym (settled new.store db (opens clean).1 left)) (alone_again (pos 2) (stored s1.committed.trees).version (written clean).version)
