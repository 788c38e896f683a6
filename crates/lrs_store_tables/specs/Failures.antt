-- Why a store answers an error.
use Rattle.std.specs.Prelude.{◌≡◌, ◌⊎◌, false, IsSome, Result, IfErr}
use Rattle.sqlite_disk.specs.Disk.{MoreFaults}
use Rattle.sqlite.specs.declared.error.Error.{Error}
use Rattle.sqlite.specs.declared.error.Error.TheVariants.{SqliteFailure}
use Rattle.sqlite.specs.declared.error.ErrorCode.TheVariants.{OutOfMemory}
use Rattle.sqlite.specs.State.{State, HasCleanDisk}
use Rattle.lrs_store_tables.specs.StoredRows.{IsWriting}

-- A call of the disk failed and was counted, or the store was shut before; or its statements may take only so many steps.
abbrev pub HasFailed : State → State → Type 0
HasFailed old new = MoreFaults old.faults new.faults ⊎ ((old.is_open ≡ false) ⊎ IsSome old.step_limit)

-- memory ran out, or the store failed
abbrev pub HasReason : State → State → Error → Type 0
HasReason old new e = (e ≡ SqliteFailure OutOfMemory) ⊎ HasFailed old new

-- over a clean disk, an error of a call has a reason
abbrev pub ErrHasReason : {A : Type 0} → Result A Error → State → State → Type 0
ErrHasReason result old new = HasCleanDisk new → IfErr result (HasReason old new)

-- the same inside a transaction
abbrev pub ErrInsideHasReason : {A : Type 0} → Result A Error → State → State → Type 0
ErrInsideHasReason result old new = IsWriting old → ErrHasReason result old new
