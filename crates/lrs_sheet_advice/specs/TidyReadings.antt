-- What is known of a sheet while its records are looked at, whether they are tidy.
use Rattle.std.specs.Prelude.{◌≡◌, ◌⊎◌, Bool, true, false, List, [], ◌∷◌, Option, Some}
use Rattle.std.specs.List.{AllByRecursion}
use Rattle.csv.specs.Reading.{expected_len}
use Rattle.csv.specs.declared.reader.Reader.{Reader}
use Rattle.lrs_machine.specs.Lines.{Text}
use Rattle.lrs_sheet_records.specs.Kinds.{width_of}
use Rattle.lrs_sheet_records.specs.Rows.{EndsAfter, Gave, IsPlain, NextDiffers}
use Rattle.lrs_sheet_records.specs.declared.sheet.Sheet.{Sheet}
use Rattle.lrs_sheet_advice.specs.TidySheets.{IsTidyRecord, IsTidyRow}

-- the records that a reader gave since it was `first` are tidy
pub record HasGivenTidy {R : Type 0} (kind : Sheet) (remaining : R → Option Text) (first now : Reader R) : Type 0 where
  pub records : List (List Text)
  pub plain : IsPlain now
  pub width : expected_len now ≡ Some (width_of kind)
  pub gave : Gave remaining first now records
  pub tidy : AllByRecursion (IsTidyRow kind) records

-- the reader goes on with a record that is not tidy
abbrev pub NextIsUntidy : {R : Type 0} → Sheet → (R → Option Text) → Reader R → Type 0
NextIsUntidy {R} kind remaining last = (next : Reader R) × (fields : List Text) × Gave remaining last next (fields ∷ []) × (IsTidyRecord kind fields → ⊥)

-- all records that a reader has left are tidy; or there is one that is not, or one of another length
abbrev pub TellsTidy : {R : Type 0} → Sheet → (R → Option Text) → Reader R → Bool → Type 0
TellsTidy {R} kind remaining first true = (last : Reader R) × HasGivenTidy kind remaining first last × EndsAfter remaining last []
TellsTidy {R} kind remaining first false = (last : Reader R) × HasGivenTidy kind remaining first last × (NextDiffers remaining last [] (width_of kind) ⊎ NextIsUntidy kind remaining last)
