-- Why files are refused.
use Rattle.std.proofs.Common.{◌≡◌, ◌<◌, ◌∙◌, IsTrue, IsSome, inl, inr, Option, None, Some, IfSome, MatchOption, ap, sym, subst, arith}
use Rattle.sqlite_disk.specs.declared.Disk.{Ghosts}
use Rattle.sqlite_disk.specs.declared.Files.{Files}
use Rattle.sqlite_trees.specs.Objects.{catalog_tree}
use Rattle.sqlite_catalog.proofs.ReadLemmas.{lists_once}
use Rattle.sqlite_wal.specs.Recovery.{Image}
use Rattle.sqlite_store.specs.declared.store.FileStore.{FileStore}
use Rattle.sqlite.specs.Effect.{Database}
use Rattle.sqlite.specs.Held.{Held}
use Rattle.sqlite.specs.State.{State, HasCleanDisk, Opens, IsLive}
use Rattle.sqlite.specs.Files.{AreFoundIn, FailsToOpenFiles, IsCleanLeft, file_state, image_of}
use Rattle.sqlite.specs.declared.file.Leftover.{Leftover}
use Rattle.sqlite.specs.declared.error.Error.{Error}
use Rattle.sqlite.specs.declared.error.Error.TheVariants.{SqliteFailure}
use Rattle.sqlite.specs.declared.error.ErrorCode.TheVariants.{OutOfMemory}
use Rattle.std.proofs.lemmas.Bool.{false≢true}
use Rattle.lrs_store_tables.specs.TableCreation.{first_tables}
use Rattle.lrs_store_tables.specs.Failures.{HasFailed, HasReason}
use Rattle.lrs_store_tables.specs.declared.tables.StoreFault.{StoreFault}
use Rattle.lrs_store_tables.specs.declared.tables.StoreFault.TheVariants as fault
use Rattle.lrs_store_files.specs.Openings.{IsKnown, LeavesFound}
use Rattle.lrs_store_files.specs.Refusals.{HasGrounds, HasFailedOn}
use Rattle.lrs_store_files.specs.declared.files.Untaken.{Untaken}
use Rattle.lrs_store_files.specs.declared.files.Untaken.TheVariants as untaken

-- a store that was open, and whose statements may take any steps, fails where a call of its disk does
pub disk_failed : (old new : State) → IsTrue old.is_open → old.step_limit ≡ None → HasFailed old new → 0 < new.faults
disk_failed old new opened unlimited (inl more) = omega (arith, more)
disk_failed old new opened unlimited (inr (inl shut)) = absurd (false≢true (sym shut ∙ opened))
disk_failed old new opened unlimited (inr (inr limit)) = absurd (false≢true (subst IsSome unlimited limit))

-- a store that fails for a reason, and not for lack of memory
pub store_failed : (f : StoreFault) (e : Error) (old new : State) → (e ≡ SqliteFailure OutOfMemory → f ≡ fault.Memory) → f ≡ fault.Store → HasReason old new e → HasFailed old new
store_failed f e old new memory is (inl ran_out) = absurd (let both = sym (memory ran_out) ∙ is in cc)
store_failed f e old new memory is (inr failed) = failed

module _ {D : Type 0} {g : Ghosts D} where
  -- of files that the kit's sqlite refuses for another reason than memory
  pub refused_files : (files : Files D) (l : Leftover D g) (e : Error) → (e ≡ SqliteFailure OutOfMemory → ⊥) → (IsCleanLeft l → FailsToOpenFiles files l e) → HasGrounds (image_of g files) (untaken.Refused l)
  refused_files files l e other fails clean = elim (fails clean) [
    | inl memory ↦ absurd (other memory)
    | inr (inl none) ↦ inl none.1
    | inr (inr (inl failed)) ↦ inr (inl (omega (arith, failed.1)))
    | inr (inr (inr full)) ↦ inr (inr full.1)
  ]

  -- and of a path
  pub refused_path : (image : Image) (Log Db : D → Type 0) (Leaves : Files D → Leftover D g → Type 0) (e : Error) (o : Option (Leftover D g)) (r : Option (Untaken D g))
      → MatchOption o (r ≡ None) (λ l. r ≡ Some (untaken.Refused l)) → ((files : Files D) → Log files.log → Db files.db → image_of g files ≡ image) → (e ≡ SqliteFailure OutOfMemory → ⊥)
      → IfSome o (λ l. (files : Files D) × Log files.log × Db files.db × (IsCleanLeft l → FailsToOpenFiles files l e × Leaves files l)) → IfSome r (HasGrounds image)
  refused_path image Log Db Leaves e None r is same other h = subst (λ o. IfSome o (HasGrounds image)) (sym is) tt
  refused_path image Log Db Leaves e (Some l) r is same other (files, log, db, fails) =
      subst (λ o. IfSome o (HasGrounds image)) (sym is) (subst (λ i. HasGrounds i (untaken.Refused l)) (same files log db) (refused_files files l e other (λ clean. (fails clean).0)))

  -- of a connection whose tables are others, or whose disk fails
  pub refused_tables : (image : Image) (conn back : Held (FileStore D g)) → (HasCleanDisk (file_state conn) → Opens (file_state conn) × IsLive (file_state conn))
      → (HasCleanDisk (file_state conn) → AreFoundIn image (file_state conn).committed.trees) → LeavesFound (file_state conn) (file_state back) → (file_state conn).step_limit ≡ None
      → (IsKnown (file_state conn).now.schema → HasCleanDisk (file_state back) → HasFailed (file_state conn) (file_state back)) → HasFailedOn image (file_state back)
  refused_tables image conn back opened found leaves unlimited failed clean all =
      let early = leaves.clean clean in
      let opens = opened early in
      let now = (file_state conn).now in
      let same : now.trees ≡ (file_state conn).committed.trees = ap (λ (d : Database). d.trees) opens.0.clean in
      let listed = all now.trees (subst (AreFoundIn image) (sym same) (found early)) in
      let known = lists_once (now.trees catalog_tree) now.schema (first_tables listed.0) (opens.1 opens.0.is_open).0.lists listed.2 in
      disk_failed (file_state conn) (file_state back) opens.0.is_open unlimited (failed (listed.0, listed.1, known) clean)
