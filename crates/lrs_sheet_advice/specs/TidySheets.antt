-- Sheets that are tidy, and what a text becomes that is tidied. A tidy sheet has the header of its kind, as many fields in each record, and in each field nothing that could be read in two ways.
use Rattle.std.specs.Prelude.{◌≡◌, ◌==◌, ◌&&◌, ◌||◌, ℕ, ◌-◌, ◌<◌, nat_le, nat_lt, Bool, false, not, List, [], ◌∷◌, nat_eq, length, Option, slice_get, slice_index, IsTrue, codes, count_by, if◌then◌else◌}
use Rattle.std.specs.List.{AllByRecursion, ends_with, list_all, list_any}
use Rattle.std.specs.Option.{option_map_or}
use Rattle.std.specs.Str.{bytes_eq}
use Rattle.lrs_machine.specs.Lines.{Text}
use Rattle.lrs_sheet_records.specs.Kinds.{IsHeader, edit_record, width_of}
use Rattle.lrs_sheet_records.specs.Records.{text_at, texts_of}
use Rattle.lrs_sheet_records.specs.Rows.{AreAll}
use Rattle.lrs_sheet_records.specs.Shapes.{Shape, Marks, OrNothing, Pieces, PositionBy, Whole}
use Rattle.lrs_sheet_records.specs.Verbs.{shapes_of}
use Rattle.lrs_sheet_records.specs.declared.sheet.Sheet.{Sheet}
use Rattle.lrs_sheet_advice.specs.AdviceLines.{is_printable}
use Rattle.lrs_sheet_advice.specs.declared.tidy_sheet.cell.CellForm.{CellForm}
use Rattle.lrs_sheet_advice.specs.declared.tidy_sheet.cell.CellForm.TheVariants as cell

-- ---- one field

abbrev pub is_digit : ℕ → Bool
is_digit byte = nat_le 48 byte && nat_le byte 57

-- a byte of a proportion: a digit or a slash
abbrev pub is_ratio_byte : ℕ → Bool
is_ratio_byte byte = is_digit byte || (byte == 47)

abbrev pub is_comma : ℕ → Bool
is_comma byte = byte == 44

-- a comma or a point: what parts thousands, or a fraction
abbrev pub is_point : ℕ → Bool
is_point byte = is_comma byte || (byte == 46)

-- the text begins or ends with a space
abbrev pub has_outer_space : Text → Bool
has_outer_space text = if length text == 0 then false else ((slice_index text 0 == 32) || (slice_index text (length text - 1) == 32))

-- printable ASCII, with no space around it
abbrev pub is_plain : Text → Bool
is_plain text = list_all is_printable text && not (has_outer_space text)

-- a point stands before the last three bytes, as in `1.234`
abbrev pub has_group : Text → Bool
has_group text = nat_lt 4 (length text) && (slice_index text (length text - 4) == 46)

-- one nought or two stand behind a point at its end, as in `12.0`
abbrev pub has_noughts : Text → Bool
has_noughts text = ends_with nat_eq text (46 ∷ 48 ∷ []) || ends_with nat_eq text (46 ∷ 48 ∷ 48 ∷ [])

-- how many slashes the text has
abbrev pub slashes : Text → ℕ
slashes text = count_by (λ byte. byte == 47) text

-- digits, and one slash
abbrev pub is_ratio : Text → Bool
is_ratio text = list_all is_ratio_byte text && (slashes text == 1)

-- The text of a field is what spreadsheets make of it: a whole number with a comma, or with a group of three digits or noughts behind a point; where a proportion is wanted, whatever else has a digit, as a date; a list or a distance with a comma or a point.
abbrev pub is_doubtful : CellForm → Text → Bool
is_doubtful cell.Digits text = list_any is_comma text || has_group text || has_noughts text
is_doubtful cell.Ratio text = list_any is_digit text && not (is_ratio text)
is_doubtful cell.Listed text = list_any is_point text
is_doubtful cell.Words text = false

-- The text of a field is as sheets have it, and can be read in one way.
abbrev pub is_tidy : CellForm → Text → Bool
is_tidy form text = is_plain text && not (is_doubtful form text)

-- ---- one record

-- the form of a position by the method of this name
abbrev pub form_by : Text → CellForm
form_by name = if bytes_eq name (codes "abs") then cell.Digits else (if bytes_eq name (codes "int") then cell.Ratio else (if bytes_eq name (codes "rel") then cell.Listed else cell.Words))

-- the form of a field that says something of this shape
abbrev pub form_of_shape : List Text → Shape → CellForm
form_of_shape fields (Whole low high) = cell.Digits
form_of_shape fields (PositionBy field) = form_by (texts_of fields field)
form_of_shape fields Pieces = cell.Listed
form_of_shape fields Marks = cell.Listed
form_of_shape fields (OrNothing shape) = form_of_shape fields shape
form_of_shape fields other = cell.Words

-- the same, where a shape is wanted at all
abbrev pub form_of : List Text → Option Shape → CellForm
form_of fields wanted = option_map_or (form_of_shape fields) wanted cell.Words

-- the form of the field at a place of a record of an edit sheet, by its verb
abbrev pub form_at : List Text → ℕ → CellForm
form_at fields place = if nat_lt place 2 then cell.Words else form_of fields (slice_get (shapes_of (text_at fields 1)) (place - 2))

-- each field of a record of an edit sheet is tidy
abbrev pub AreTidyFields : List Text → Type 0
AreTidyFields fields = (place : ℕ) → place < 11 → IsTrue (is_tidy (form_at fields place) (text_at fields place))

-- all fields are empty
abbrev pub IsBlank : List Text → Type 0
IsBlank fields = (place : ℕ) → place < length fields → length (text_at fields place) ≡ 0

-- The record has something in it, and each field is tidy.
abbrev pub IsTidyRecord : Sheet → List Text → Type 0
IsTidyRecord kind fields = (IsBlank fields → ⊥) × AreTidyFields (edit_record kind fields)

-- the same, and it has as many fields as the header
abbrev pub IsTidyRow : Sheet → List Text → Type 0
IsTidyRow kind fields = (length fields ≡ width_of kind) × IsTidyRecord kind fields

-- ---- the sheet

-- The text is a tidy sheet.
pub record IsTidySheet (kind : Sheet) (text : Text) : Type 0 where
  pub header : List Text
  pub records : List (List Text)
  pub is_header : IsHeader kind header
  pub all : AreAll text (header ∷ records)
  pub tidy : AllByRecursion (IsTidyRow kind) records

-- What a text becomes that is tidied: a tidy sheet, and the text itself where it is one.
pub record IsTidied (kind : Sheet) (text tidied : Text) : Type 0 where
  pub tidy : IsTidySheet kind tidied
  pub same : IsTidySheet kind text → tidied ≡ text

-- A text that is not tidied is no tidy sheet.
abbrev pub IsUntidy : Sheet → Text → Type 0
IsUntidy kind text = IsTidySheet kind text → ⊥

-- To tidy twice is to tidy once.
abbrev pub TidiesOnce : Type 0
TidiesOnce = (kind : Sheet) (text once twice : Text) → IsTidied kind text once → IsTidied kind once twice → twice ≡ once
