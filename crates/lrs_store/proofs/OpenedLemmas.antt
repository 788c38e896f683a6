-- The content of the rows that files held is kept.
use Rattle.std.proofs.Common.{◌≡◌, ◌≢◌, ◌⊎◌, ◌<◌, ◌≤◌, ℕ, Bool, true, false, pos, [], ◌∷◌, inl, inr, Option, None, Some, IfSome, IsSomeAnd, IsPermutation, Result, refl, sym, subst, ◌∙◌, arith}
use Rattle.std.specs.Prelude.{nat_lt}
use Rattle.std.proofs.lemmas.Bool.{ltb-false}
use Rattle.sqlite_disk.specs.declared.Disk.{Ghosts}
use Rattle.sqlite_disk.specs.declared.Files.{Files}
use Rattle.sqlite_trees.proofs.Doubt.{clean_of, no_doubt}
use Rattle.sqlite_store.specs.FileStore.{view}
use Rattle.sqlite_wal.specs.Recovery as wal
use Rattle.sqlite.specs.State.{State, HasCleanDisk}
use Rattle.lrs_machine.specs.declared.image.Image.{Image}
use Rattle.lrs_machine.specs.declared.table.Table.{Table}
use Rattle.lrs_store_tables.specs.Contents.Tables.{Tables, AreSame}
use Rattle.lrs_store_tables.specs.Contents.Content.{content_of}
use Rattle.lrs_store_tables.proofs.Contents.Stored.{content_is_of_rows}
use Rattle.sqlite_trees.specs.Objects.{catalog_tree}
use Rattle.sqlite_catalog.specs.Listing.{Lists}
use Rattle.sqlite_catalog.proofs.ReadLemmas.{lists_once}
use Rattle.lrs_store_tables.specs.StoredRows.{stored, LeavesStore}
use Rattle.lrs_store_tables.specs.NewStores.{new_rows, NewRowsHoldNothing}
use Rattle.lrs_store_tables.specs.TableCreation.{no_schema, first_tables, first_rows}
use Rattle.lrs_store_tables.proofs.MakeLemmas.{all_made}
use Rattle.lrs_store_tables.specs.HeldRows.{HoldsOnly}
use Rattle.lrs_store_tables.specs.HeldRows.{MayHold}
use Rattle.lrs_store.specs.TableKeeper.Openings.{IsSecond}
use Rattle.lrs_store.proofs.TableKeeper.Next.{alone_again}
use Rattle.lrs_store.proofs.TableKeeper.ReadLemmas.{left_before}
use Rattle.sqlite.specs.declared.file.Leftover.TheVariants as leftover
use Rattle.lrs_store_files.specs.declared.files.Untaken.{Untaken}
use Rattle.lrs_store_files.specs.declared.files.Untaken.TheVariants as untaken
use Rattle.lrs_store_files.specs.FoundFiles.{HasFound, IsLeftOf}
use Rattle.lrs_store_files.specs.OpenedFiles.{HoldsContent, HasOpened, IsContentOf}
use Rattle.lrs_store.specs.declared.files.Left.{Left}
use Rattle.lrs_store.specs.declared.files.Left.TheVariants as left
use Rattle.lrs_store.specs.Refusals.{WasLookedAt, IsHandedOn, HoldsStill, HoldsEachRow, HoldSecond, BecomeSecond}

hold_nothing : NewRowsHoldNothing
unfolding content_of
hold_nothing = refl

pub has_opened : (image : wal.Image) (old new : State) → HasFound image old → ((c : Result Image Table) → MayHold new c → MayHold old c) → HasOpened image new
has_opened image old new found content = record {
  trees = found.trees;
  schema = found.schema;
  reads = found.reads;
  holds = found.holds;
  sound = found.sound;
  known = found.known;
  made = λ is c h. holds_only new_rows (found.made is) c h ∙ hold_nothing;
  kept = λ n some few is. holds_only (first_rows n (stored found.trees)) (found.kept n some few is);
}
  where
    holds_only : (t : Tables) → HoldsOnly old t → HoldsContent new (content_of t)
    holds_only t only c h =
        let before = content c h in
        sym before.1.2 ∙ sym (content_is_of_rows t (stored before.1.0) (only before.0 before.1.0 before.1.1))

-- a connection that took files keeps what they held, whatever else it refuses
pub holds_still : (image : wal.Image) (old new : State) → (HasCleanDisk old → HasFound image old) → ((c : Result Image Table) → MayHold new c → MayHold old c) → (c : Result Image Table) → MayHold new c → HasOpened image new
holds_still image old new found content c may = has_opened image old new (found (content c may).0) content

-- what may be held is what the files held
pub content_opened : (image : wal.Image) (s : State) → HasOpened image s → (c : Result Image Table) → MayHold s c → IsContentOf image c
content_opened image s found c may = record {
  trees = found.trees;
  schema = found.schema;
  reads = found.reads;
  holds = found.holds;
  sound = found.sound;
  known = found.known;
  made = λ is. found.made is c may;
  kept = λ n some few is. found.kept n some few is c may;
}

-- where no row changes all rows stay that were found
module _ (image : wal.Image) (old new : State) (survives : LeavesStore old new) where
  only_still : (t : Tables) → HoldsOnly old t → HoldsOnly new t
  only_still t = left_before old new survives (λ db. AreSame t (stored db))

  still_found : HasFound image old → HasFound image new
  still_found found = record {
    trees = found.trees;
    schema = found.schema;
    reads = found.reads;
    holds = found.holds;
    sound = found.sound;
    known = found.known;
    made = λ is. only_still new_rows (found.made is);
    kept = λ n some few is. only_still (first_rows n (stored found.trees)) (found.kept n some few is);
  }

  pub each_row : (HasCleanDisk old → HasFound image old) → HasCleanDisk new → HasFound image new
  each_row found clean = still_found (found (omega (arith, clean, survives.clean)))

-- the row of the version is among the first tables, if there are some
first_version : (n : ℕ) → 0 < n → (t : Tables) → (first_rows n t).version ≡ t.version
first_version n some t = by (nat_lt 0 n) refl
  where
    by : (first : Bool) → nat_lt 0 n ≡ first → (first_rows n t).version ≡ t.version
    by true is = rw is refl
    by false is = absurd (omega (arith, some, ltb-false 0 n is))

-- files of version 2, and new ones, are opened as such
pub becomes_second : (image : wal.Image) (s : State) → BecomeSecond image → (HasCleanDisk s → HasFound image s) → IsSecond s
becomes_second image s second found clean db left = by (second it.trees it.reads)
  where
    it : HasFound image s
    it = found clean

    alone : (t : Tables) → t.version ≡ pos 2 ∷ [] → AreSame t (stored db) → (stored db).version ≡ pos 2 ∷ []
    alone t two same = alone_again (pos 2) (stored db).version (subst (λ v. IsPermutation v (stored db).version) two same.version)

    by : Lists (it.trees catalog_tree) no_schema ⊎ ((n : ℕ) × (0 < n) × (n ≤ 12) × Lists (it.trees catalog_tree) (first_tables n) × ((stored it.trees).version ≡ pos 2 ∷ [])) → (stored db).version ≡ pos 2 ∷ []
    by (inl none) = alone new_rows refl (it.made (lists_once (it.trees catalog_tree) it.schema no_schema it.sound.lists none) clean db left)
    by (inr (n, some, few, lists, two)) =
        alone (first_rows n (stored it.trees)) (first_version n some (stored it.trees) ∙ two) (it.kept n some few (lists_once (it.trees catalog_tree) it.schema (first_tables n) it.sound.lists lists) clean db left)

-- files of version 2 are among them
pub second_becomes : (image : wal.Image) → HoldSecond image → BecomeSecond image
second_becomes image second db found =
    let held = second db found in
    inr (12, omega arith, omega arith, subst (Lists (db catalog_tree)) (sym all_made) held.0, held.1)

pub opened_second : (image : wal.Image) (s : State) → HoldSecond image → (HasCleanDisk s → HasFound image s) → IsSecond s
opened_second image s second = becomes_second image s (second_becomes image second)

module _ {D : Type 0} {g : Ghosts D} (image : wal.Image) (Began : Files D → Type 0) where
  -- a store that was looked at holds what it held
  still_left : (old new : Untaken D g) → WasLookedAt old new → IsLeftOf image Began old → IsLeftOf image Began new
  still_left old new looked was = subst (IsLeftOf image Began) (sym looked.is) (λ clean.
      let none = no_doubt (view looked.after).is_clean clean in
      let it = held (clean_of (view looked.before).is_clean (omega (arith, none, looked.clean))) in
      (it.0, it.1, it.2, λ db may. it.3 db (looked.outcomes db may)))
    where
      held : IsLeftOf image Began (untaken.Refused (leftover.Store looked.before))
      held = subst (IsLeftOf image Began) looked.was was

  pub still_refused : (o : Option (Untaken D g)) (l : Left D g) → IsHandedOn o l → IfSome o (IsLeftOf image Began) → HoldsStill image Began l
  still_refused None l is was = subst (HoldsStill image Began) (sym is) tt
  still_refused (Some old) l (new, is, inl same) was = subst (HoldsStill image Began) (sym is) (subst (IsLeftOf image Began) (sym same) was)
  still_refused (Some old) l (new, is, inr looked) was = subst (HoldsStill image Began) (sym is) (still_left old new looked was)

  -- what is left of files whose tables were not taken has each row
  pub rows_left : (o : Option (Untaken D g)) (l : Left D g) → IsHandedOn o l → HoldsStill image Began l → HoldsEachRow image Began l
  rows_left None l is still = subst (HoldsEachRow image Began) (sym is) tt
  rows_left (Some old) l (new, is, _) still = subst (HoldsEachRow image Began) (sym is) (subst (HoldsStill image Began) is still)

  pub still_given : (o : Option (Untaken D g)) (l : Left D g) → IsHandedOn o l → IsSomeAnd o (IsLeftOf image Began) → HoldsStill image Began l
  still_given None l is was = absurd was
  still_given (Some old) l handed was = still_refused (Some old) l handed was

-- what is left is handed on
pub something_left : {D : Type 0} {g : Ghosts D} (P : Untaken D g → Type 0) (o : Option (Untaken D g)) (l : Left D g) → IsHandedOn o l → IsSomeAnd o P → l ≢ left.Nothing
something_left P None l is some = absurd some
something_left P (Some old) l (new, is, kept) some = λ none. absurd (let e = sym is ∙ none in cc)
