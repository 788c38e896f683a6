-- Where a field stands in a sheet: its line, and its column as spreadsheets name it, A, B, C; and how columns are named.
use Rattle.std.specs.Prelude.{ℕ, ◌+◌, ◌-◌, ◌==◌, nat_lt, if◌then◌else◌, [], ◌∷◌, ◌++◌, Option, Some, None, codes, take, count_by}
use Rattle.lrs_machine.specs.Lines.{Text}
use Rattle.lrs_machine.specs.declared.answer.Field.{Field}
use Rattle.lrs_sheet_records.specs.Kinds.{header_of}
use Rattle.lrs_sheet_records.specs.Records.{place_of, text_at}
use Rattle.lrs_sheet_records.specs.declared.sheet.Sheet.{Sheet}
use Rattle.lrs_sheet_records.specs.declared.sheet.Sheet.TheVariants.{Edits, Survey}
use Rattle.lrs_sheet_advice.specs.AdviceLines.{shown}

-- in which column a field stands, from 0; a survey has no column for the verb
abbrev pub column_of : Sheet → Field → ℕ
column_of Edits field = place_of field
column_of Survey field = place_of field - 1

-- the letter of that column
abbrev pub letter_of : Sheet → Field → ℕ
letter_of sheet field = 65 + column_of sheet field

-- the name of that column in the header
abbrev pub column_name : Sheet → Field → Text
column_name sheet field = text_at (header_of sheet) (column_of sheet field)

-- the letter and the name of a column: `C (a`
abbrev pub lettered : Sheet → Field → Text
lettered sheet field = shown (letter_of sheet field ∷ []) ++ codes " (" ++ shown (column_name sheet field)

-- what a field is for, where the header does not say it: in an edit sheet, behind the verb
abbrev pub use_text : Sheet → Field → Text → Text
use_text Edits field name = if nat_lt (place_of field) 2 then [] else codes ", " ++ shown name
use_text Survey field name = []

-- a column, and what its field is for: `C (a, the route)`, or in a survey `D (route)`
abbrev pub column_text : Sheet → Field → Text → Text
column_text sheet field name = lettered sheet field ++ use_text sheet field name ++ codes ")"

-- the columns of a position, which has a method: that of the method and its own
abbrev pub both_columns : Sheet → Field → Field → Text → Text
both_columns sheet method field name = column_text sheet method (codes "the method") ++ codes " and " ++ column_text sheet field name

-- in which column a field stands; in which two, where it has a method
abbrev pub columns_text : Sheet → Option Field → Field → Text → Text
columns_text sheet None field name = codes "column " ++ column_text sheet field name
columns_text sheet (Some method) field name = codes "columns " ++ both_columns sheet method field name

-- the line in which a byte of a sheet stands: one more than the line feeds before it
abbrev pub line_at : Text → ℕ → ℕ
line_at sheet place = 1 + count_by (λ byte. byte == 10) (take place sheet)
