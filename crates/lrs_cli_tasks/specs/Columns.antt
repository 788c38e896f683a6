-- The columns of a list, and what is picked of it: some of them, in an order.
use Rattle.std.specs.Prelude.{◌≡◌, ◌⊎◌, ⊤, ℕ, suc, nat_eq, Bool, false, not, IsTrue, if◌then◌else◌, List, [], ◌∷◌, ◌++◌, map, Option, Some, None, option_map, slice_index_or, IsSomeAnd}
use Rattle.std.specs.List.{join_with_byte, list_any}
use Rattle.std.specs.Str.{bytes_eq}
use Rattle.lrs_measure.specs.Lists.{each_two}
use Rattle.lrs_measure.specs.Texts.{Name}
use Rattle.lrs_machine.specs.declared.question.Question.{Question}
use Rattle.lrs_machine.specs.declared.question.Question.TheVariants as question
use Rattle.lrs_machine.specs.Image.{nothing}
use Rattle.lrs_machine.specs.Lines.{Text, fields}
use Rattle.lrs_report_answers.specs.Combinations.{combinations_header}
use Rattle.lrs_report_answers.specs.Overlay.{overlay_header}
use Rattle.lrs_report_lists.specs.Length.Lines.{lengths_text}
use Rattle.lrs_report_lists.specs.Lists.{rows_header}
use Rattle.lrs_sheet_records.specs.Words.{parts_of}
use Rattle.lrs_cli_words.specs.declared.question.BadWord.TheVariants as word
use Rattle.lrs_cli_words.specs.declared.question.QuestionFault.{QuestionFault}
use Rattle.lrs_cli_words.specs.declared.question.QuestionFault.TheVariants.{Unreadable, Memory}
use Rattle.lrs_cli_tasks.specs.Lines.{listing_text}

-- the names in the first line of a CSV text
abbrev pub names_in : Text → List Text
names_in text = parts_of 44 (slice_index_or (parts_of 10 text) 0 [])

-- the classes that combinations of values have for columns, before those that each such list has
abbrev pub leading_classes : Question → List Name
leading_classes (question.Combinations route classes) = classes
leading_classes q = []

-- the classes that an overlay has for columns, behind those that each overlay has
abbrev pub class_columns : Question → List Name
class_columns (question.Overlay asked) = asked.classes
class_columns q = []

-- The columns of the list that answers a question, as its header names them: that of an inventory without entries, which is a header alone. What is no list has none.
abbrev pub columns_of : Question → List Text
columns_of (question.Rows asked) = names_in (rows_header asked.form)
columns_of (question.Lengths route) = names_in (lengths_text [])
columns_of (question.Combinations route classes) = classes ++ names_in (combinations_header [])
columns_of (question.Overlay asked) = names_in (overlay_header []) ++ asked.classes
columns_of (question.List l) = names_in (listing_text nothing l)
columns_of q = []

-- the place of a column, counted from 0: of the first of its name
abbrev pub place_of : List Text → Text → Option ℕ
place_of [] name = None
place_of (column ∷ others) name = if bytes_eq column name then Some 0 else option_map suc (place_of others name)

-- the place is one of these
abbrev pub is_among : ℕ → List ℕ → Bool
is_among place places = list_any (λ other. nat_eq other place) places

-- no two are the same
abbrev pub are_apart : List ℕ → Bool
are_apart = each_two (λ place other. not (nat_eq place other))

-- these are the places of the columns that a text names, with a comma between two; no column is named twice
abbrev pub ArePlaces : List Text → Text → List ℕ → Type 0
ArePlaces columns text places = (map (place_of columns) (parts_of 44 text) ≡ map Some places) × IsTrue (are_apart places)

-- a name is that of no column
abbrev pub NamesNone : List Text → Text → Type 0
NamesNone columns text = (front behind : List Text) × (name : Text) × (parts_of 44 text ≡ front ++ name ∷ behind) × (place_of columns name ≡ None)

-- the first names are those of columns of which two are the same
abbrev pub NamesTwice : List Text → Text → Type 0
NamesTwice columns text =
    (front behind : List Text) × (places : List ℕ) × (parts_of 44 text ≡ front ++ behind) × (map (place_of columns) front ≡ map Some places) × (are_apart places ≡ false)

-- a name is that of no column, or two are those of one, or there is no memory for the places
abbrev pub CannotPlace : List Text → Text → QuestionFault → Type 0
CannotPlace columns text fault =
    ((fault ≡ Unreadable word.Columns) × NamesNone columns text) ⊎ ((fault ≡ Unreadable word.RepeatedColumn) × NamesTwice columns text) ⊎ (fault ≡ Memory)

-- the same of a text that may be given: where none is, all columns are picked
abbrev pub ArePicked : List Text → Option Text → Option (List ℕ) → Type 0
ArePicked columns None None = ⊤
ArePicked columns (Some text) (Some places) = ArePlaces columns text places
ArePicked columns text places = ⊥

abbrev pub CannotPick : List Text → Option Text → QuestionFault → Type 0
CannotPick columns text fault = IsSomeAnd text (λ t. CannotPlace columns t fault)

-- ---- what is printed of a list

-- the field of a line at a place, counted from 0; an empty one where it has none
abbrev pub field_at : Text → ℕ → Text
field_at line place = slice_index_or (parts_of 44 line) place []

-- the fields of a line at these places, in this order; an empty line, as that behind the end of the last one, stays empty
abbrev pub picked_line : List ℕ → Text → Text
picked_line places [] = []
picked_line places (byte ∷ rest) = fields (map (field_at (byte ∷ rest)) places)

-- of each line of a CSV text that has no quotes the fields at these places
abbrev pub picked_cells : List ℕ → Text → Text
picked_cells places text = join_with_byte 10 (map (picked_line places) (parts_of 10 text))
