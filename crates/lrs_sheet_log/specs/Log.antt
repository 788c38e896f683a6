-- The log: the edits of an inventory as records of an edit sheet, and the text of that sheet.
use Rattle.std.specs.Prelude.{ℕ, ◌-◌, Option, Some, None, List, [], ◌∷◌, ◌++◌, length, take, drop, filter, replicate}
use Rattle.std.specs.List.{flat_map}
use Rattle.lrs_measure.specs.Texts.{Name, same_name}
use Rattle.lrs_machine.specs.Lines.{Text, fields}
use Rattle.lrs_machine.specs.State.{Edit}
use Rattle.lrs_machine.specs.declared.image.Edit.{Edit as EditRow}
use Rattle.lrs_machine.specs.declared.image.Image.{Image}
use Rattle.lrs_machine.specs.Image.{state_of}
use Rattle.lrs_sheet_records.specs.Kinds.{edit_header, width_of}
use Rattle.lrs_sheet_records.specs.Words.{parts_of}
use Rattle.lrs_sheet_records.specs.declared.sheet.Sheet.TheVariants.{Edits}

-- the verb and the fields that a canonical line has between its commas
abbrev pub fields_of_line : Text → List Text
fields_of_line = parts_of 44

-- fields with empty ones behind them, up to a width
abbrev pub padded : ℕ → List Text → List Text
padded width texts = texts ++ replicate (width - length texts) []

-- The record of an edit: its key, its verb and fields, and empty fields up to the width of an edit sheet.
abbrev pub log_record : Edit → List Text
log_record e = padded (width_of Edits) (e.key ∷ fields_of_line e.line)

-- a record as a line: its fields between commas, and a line feed
abbrev pub record_text : List Text → Text
record_text texts = fields texts ++ 10 ∷ []

-- the line of an edit
abbrev pub log_line : Edit → Text
log_line e = record_text (log_record e)

-- Edits as an edit sheet: its header, and a line for each edit.
abbrev pub edits_text : List Edit → Text
edits_text edits = record_text edit_header ++ flat_map log_line edits

-- edits up to the one of a number, or all
abbrev pub up_to : {A : Type 0} → Option ℕ → List A → List A
up_to None edits = edits
up_to (Some number) edits = take number edits

-- the edits from this number on, and up to another; 0 and 1 both mean from the first
abbrev pub edits_between : ℕ → Option ℕ → List Edit → List Edit
edits_between from until edits = drop (from - 1) (up_to until edits)

-- The log of an inventory, from an edit on and up to another: these edits as an edit sheet.
abbrev pub log_text : ℕ → Option ℕ → Image → Text
log_text from until i = edits_text (edits_between from until (state_of i).done)

-- the edits under this key: one, or none
abbrev pub edits_under : Name → List Edit → List Edit
edits_under key edits = filter (λ e. same_name e.key key) edits

-- the edit that a row of an image stands for
abbrev pub edit_of_row : EditRow → Edit
edit_of_row row = record { key = row.key; line = row.line }

-- the line of a row
abbrev pub row_line : EditRow → Text
row_line row = log_line (edit_of_row row)
