-- The records of a text one at a time: what a reader of records has given, and why a read fails.
use Rattle.std.specs.Prelude.{◌≡◌, ℕ, List, [], ◌∷◌, ◌++◌, Option, Some, false, length, ⊤}
use Rattle.csv.specs.Reading.{AreRecords, Reached, Ready, default_config, expected_len, is_flexible, reader_config, reader_state, reader_trim, source_of, strip_bom}
use Rattle.csv.specs.declared.error.ErrorKind.{ErrorKind}
use Rattle.csv.specs.declared.error.ErrorKind.TheVariants as kind
use Rattle.csv.specs.declared.parser.State.{State as Place}
use Rattle.csv.specs.declared.parser.State.TheVariants as st
use Rattle.csv.specs.declared.reader.Reader.{Reader}
use Rattle.csv.specs.declared.reader.Trim.TheVariants as trim
use Rattle.lrs_machine.specs.Lines.{Text}
use Rattle.lrs_sheet_records.specs.declared.fault.SheetFault.{SheetFault}
use Rattle.lrs_sheet_records.specs.declared.fault.SheetFault.TheVariants as fault

-- The records of the input begin with these, by the rules of `csv`.
abbrev pub BeginsWith : Text → List (List Text) → Type 0
BeginsWith input records = (state : Place) × (rest : Text) × Reached default_config st.StartRecord (strip_bom input) records state rest

-- These are the records of the input.
abbrev pub AreAll : Text → List (List Text) → Type 0
AreAll input records = AreRecords default_config st.StartRecord (strip_bom input) records

-- the most records of a sheet after its header
abbrev pub max_records : ℕ
max_records = 100_000_000

-- the reader gives the records of a text as `csv` does by default, with no header handling and no trimming
pub record IsPlain {R : Type 0} (reader : Reader R) : Type 0 where
  pub trim : reader_trim reader ≡ trim.None
  pub ready : Ready reader
  pub config : reader_config reader ≡ default_config
  pub rigid : is_flexible reader ≡ false

-- the reader has given these records of the input, and no more
abbrev pub HasRead : {R : Type 0} → (R → Option Text) → Reader R → Text → List (List Text) → Type 0
HasRead remaining reader input records =
    (rest : Text) × (source_of remaining reader ≡ Some rest) × Reached default_config st.StartRecord (strip_bom input) records (reader_state reader) rest

-- the fault for an error of `csv`
abbrev pub fault_of_kind : ErrorKind → SheetFault
fault_of_kind (kind.UnequalLengths pos expected len) = fault.BadCsv
fault_of_kind kind.OutOfMemory = fault.Memory
fault_of_kind (kind.Io e) = fault.Read
fault_of_kind (kind.Utf8 pos err) = fault.Read
fault_of_kind (kind.Serialize text) = fault.Read
fault_of_kind (kind.Deserialize pos err) = fault.Read

-- whatever the reader has read, it goes on with these records, and they are all
abbrev pub EndsAfter : {R : Type 0} → (R → Option Text) → Reader R → List (List Text) → Type 0
EndsAfter remaining reader records = (input : Text) (before : List (List Text)) → HasRead remaining reader input before → AreAll input (before ++ records)

-- the same, and then comes a record of another length than is wanted
abbrev pub NextDiffers : {R : Type 0} → (R → Option Text) → Reader R → List (List Text) → ℕ → Type 0
NextDiffers remaining reader records wanted = (input : Text) (before : List (List Text)) → HasRead remaining reader input before
    → (fields : List Text) × BeginsWith input ((before ++ records) ++ fields ∷ []) × (length fields ≡ wanted → ⊥)

-- from one state of a reader to the other it gave these records
abbrev pub Gave : {R : Type 0} → (R → Option Text) → Reader R → Reader R → List (List Text) → Type 0
Gave remaining old new records = (input : Text) (before : List (List Text)) → HasRead remaining old input before → HasRead remaining new input (before ++ records)

-- the reader goes on with these records
abbrev pub Begins : {R : Type 0} → (R → Option Text) → Reader R → List (List Text) → Type 0
Begins remaining reader records = (input : Text) (before : List (List Text)) → HasRead remaining reader input before → BeginsWith input (before ++ records)

-- a read of a record failed: for the reader, for memory, or since the next record has another length than is wanted
abbrev pub IsReadFault : {R : Type 0} → (R → Option Text) → Reader R → SheetFault → Type 0
IsReadFault remaining reader fault.Read = ⊤
IsReadFault remaining reader fault.Memory = ⊤
IsReadFault remaining reader fault.BadCsv = (wanted : ℕ) × (expected_len reader ≡ Some wanted) × NextDiffers remaining reader [] wanted
IsReadFault remaining reader fault.Write = ⊥
IsReadFault remaining reader fault.BadHeader = ⊥
IsReadFault remaining reader (fault.Desk e) = ⊥
