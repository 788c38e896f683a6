-- The two kinds of sheets: the header of each, and how its records read in an edit sheet.
use Rattle.std.specs.Prelude.{◌≡◌, ℕ, List, [], ◌∷◌, codes, length}
use Rattle.csv.specs.Reading.{strip_bom}
use Rattle.csv.specs.Records.{fields_of}
use Rattle.lrs_machine.specs.Lines.{Text}
use Rattle.lrs_sheet_records.specs.Surveys.{as_edit, survey_header}
use Rattle.lrs_sheet_records.specs.declared.sheet.Sheet.{Sheet}
use Rattle.lrs_sheet_records.specs.declared.sheet.Sheet.TheVariants.{Edits, Survey}
use Rattle.lrs_sheet_records.specs.declared.sheet.SheetRecord.{SheetRecord}

-- the header of an edit sheet
abbrev pub edit_header : List Text
edit_header = codes "key" ∷ codes "verb" ∷ codes "a" ∷ codes "b" ∷ codes "c" ∷ codes "d" ∷ codes "e" ∷ codes "f" ∷ codes "g" ∷ codes "h" ∷ codes "i" ∷ []

-- The header of a sheet.
abbrev pub header_of : Sheet → List Text
header_of Edits = edit_header
header_of Survey = survey_header

-- how many fields each of its records has
abbrev pub width_of : Sheet → ℕ
width_of sheet = length (header_of sheet)

-- the fields of a header, where a byte order mark before the first one is left out once
abbrev pub without_mark : List Text → List Text
without_mark [] = []
without_mark (first ∷ others) = strip_bom first ∷ others

-- The fields are the header of such a sheet.
abbrev pub IsHeader : Sheet → List Text → Type 0
IsHeader sheet fields = without_mark fields ≡ header_of sheet

-- The record of an edit sheet that says the same.
abbrev pub edit_record : Sheet → List Text → List Text
edit_record Edits fields = fields
edit_record Survey fields = as_edit fields

-- the same of a record that was read
abbrev pub edit_fields : SheetRecord → List Text
edit_fields r = edit_record r.sheet (fields_of r.fields.now)
