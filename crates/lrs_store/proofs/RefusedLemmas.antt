-- Why an opening answers that the store failed.
use Rattle.std.proofs.Common.{◌≡◌, ◌<◌, ◌⊎◌, inl, inr, Option, None, Some, IfSome, IsSome, IsTrue, sym, subst, ◌∙◌, arith}
use Rattle.std.proofs.lemmas.Bool.{false≢true}
use Rattle.sqlite_disk.specs.declared.Disk.{Ghosts}
use Rattle.sqlite_wal.specs.Recovery as wal
use Rattle.sqlite_store.specs.declared.store.FileStore.{FileStore}
use Rattle.sqlite.specs.Held.{Held}
use Rattle.sqlite.specs.Files.{file_state}
use Rattle.sqlite.specs.State.{State, HasCleanDisk}
use Rattle.lrs_store_tables.specs.Failures.{HasFailed}
use Rattle.lrs_store.specs.TableKeeper.Openings.{IsSecond, HoldsAnImage}
use Rattle.lrs_store_files.specs.FoundFiles.{HasFound}
use Rattle.lrs_store_files.specs.declared.files.Untaken.{Untaken}
use Rattle.lrs_store_files.specs.Refusals.{HasGrounds}
use Rattle.lrs_store.specs.declared.files.Left.{Left}
use Rattle.lrs_store.specs.Refusals.{IsHandedOn, IsRefusedFor, BecomeSecond}
use Rattle.lrs_store.proofs.OpenedLemmas.{becomes_second}

-- what was refused on grounds is handed on
pub refused_for : {D : Type 0} {g : Ghosts D} (image : wal.Image) (o : Option (Untaken D g)) (l : Left D g) → IsHandedOn o l → IfSome o (HasGrounds image) → IsRefusedFor image l
refused_for image None l is grounds = subst (IsRefusedFor image) (sym is) tt
refused_for image (Some old) l (new, is, kept) grounds = subst (IsRefusedFor image) (sym is) (old, kept, grounds)

-- a store that was open, and whose statements may take any number of steps, fails where a call of its disk does
disk_rose : (old new : State) → IsTrue old.is_open → old.step_limit ≡ None → HasFailed old new → 0 < new.faults
disk_rose old new opened unlimited (inl more) = omega (arith, more)
disk_rose old new opened unlimited (inr (inl shut)) = absurd (false≢true (sym shut ∙ opened))
disk_rose old new opened unlimited (inr (inr limit)) = absurd (false≢true (subst IsSome unlimited limit))

-- of tables that were taken, and given up
pub taken_for : {D : Type 0} {g : Ghosts D} (image : wal.Image) (old : State) (back : Held (FileStore D g)) → IsTrue old.is_open → old.step_limit ≡ None → (HasCleanDisk old → HasFound image old)
    → (IsSecond old → HasFailed old (file_state back)) → HasFailed old (file_state back) ⊎ HoldsAnImage (file_state back)
    → (BecomeSecond image → 0 < (file_state back).faults) × ((0 < (file_state back).faults) ⊎ HoldsAnImage (file_state back))
taken_for image old back opened unlimited found failed cause =
    let rose = disk_rose old (file_state back) opened unlimited in (
      λ second. rose (failed (becomes_second image old second found)),
      elim cause [
        | inl it ↦ inl (rose it)
        | inr holds ↦ inr holds
      ],
    )
