-- What a record of an edit sheet says: a key and a command, or which of its fields is the first malformed one.
use Rattle.std.specs.Prelude.{◌≡◌, ℕ, zero, suc, ◌+◌, ◌<◌, ◌≤◌, List, [], ◌∷◌, IsTrue, slice_get, unwrap_or, Contains}
use Rattle.csv.specs.Records.{field_at}
use Rattle.lrs_machine.specs.Keys.{is_key}
use Rattle.lrs_machine.specs.Lines.{Text}
use Rattle.lrs_machine.specs.declared.answer.Field.{Field}
use Rattle.lrs_machine.specs.declared.answer.Field.TheVariants as field
use Rattle.lrs_machine.specs.declared.command.Command.{Command}
use Rattle.lrs_sheet_records.specs.declared.fault.ReadFault.{ReadFault}
use Rattle.lrs_sheet_records.specs.declared.fault.ReadFault.TheVariants as fault
use Rattle.lrs_sheet_records.specs.Shapes.{Argument, Fits, Says, Shape, is_list_at}
use Rattle.lrs_sheet_records.specs.Verbs.{all_verbs, arguments_of, shapes_of, verb_of}

-- the field at a place, which is empty past the end
abbrev pub text_at : List Text → ℕ → Text
text_at fields place = unwrap_or (field_at fields place) []

-- the place of a field
abbrev pub place_of : Field → ℕ
place_of field.Key = 0
place_of field.Verb = 1
place_of field.A = 2
place_of field.B = 3
place_of field.C = 4
place_of field.D = 5
place_of field.E = 6
place_of field.F = 7
place_of field.G = 8
place_of field.H = 9
place_of field.I = 10

-- the texts of a record's fields
abbrev pub texts_of : List Text → Field → Text
texts_of fields field = text_at fields (place_of field)

-- The field at a place is well formed, where the earlier ones are: a key, one of these names, and what the fields behind it say for that name; a field that it does not use is empty.
abbrev pub IsWellFormedBy : List Text → (Text → List Shape) → List Text → ℕ → Type 0
IsWellFormedBy names shapes fields zero = IsTrue (is_key (text_at fields 0))
IsWellFormedBy names shapes fields (suc zero) = Contains names (text_at fields 1)
IsWellFormedBy names shapes fields (suc (suc i)) = Fits (texts_of fields) (slice_get (shapes (text_at fields 1)) i) (text_at fields (2 + i))

-- The field at this place is the first that is malformed.
pub record FirstMalformedBy (names : List Text) (shapes : Text → List Shape) (fields : List Text) (place : ℕ) : Type 0 where
  pub malformed : IsWellFormedBy names shapes fields place → ⊥
  pub earlier : (i : ℕ) → i < place → IsWellFormedBy names shapes fields i

-- the arguments, each said by its field, and no field after them
abbrev pub SayAll : List Text → ℕ → List Shape → List Argument → Type 0
SayAll fields place [] [] = (i : ℕ) → place ≤ i → text_at fields i ≡ []
SayAll fields place (shape ∷ shapes) (argument ∷ arguments) = Says (texts_of fields) shape (text_at fields place) argument × SayAll fields (place + 1) shapes arguments
SayAll fields place [] (argument ∷ arguments) = ⊥
SayAll fields place (shape ∷ shapes) [] = ⊥

-- The fields say this command, of a verb that has one of these names, under this key.
pub record SaysAmong (names : List Text) (fields : List Text) (key : Text) (command : Command) : Type 0 where
  pub is_key : IsTrue (is_key (text_at fields 0))
  pub same_key : key ≡ text_at fields 0
  pub is_verb : Contains names (text_at fields 1)
  pub same_verb : text_at fields 1 ≡ verb_of command
  pub arguments : SayAll fields 2 (shapes_of (verb_of command)) (arguments_of command)

-- The field at this place is the first that is malformed, where the verbs have these names.
abbrev pub FirstMalformedAmong : List Text → List Text → ℕ → Type 0
FirstMalformedAmong names = FirstMalformedBy names shapes_of

-- The fields say this command under this key.
abbrev pub SaysCommand : List Text → Text → Command → Type 0
SaysCommand fields key command = SaysAmong all_verbs fields key command

-- The first field that is malformed.
abbrev pub FirstMalformed : List Text → ℕ → Type 0
FirstMalformed fields place = FirstMalformedAmong all_verbs fields place

-- Memory runs out at a field that has a list, behind fields that are well formed.
pub record RunsOutBy (names : List Text) (shapes : Text → List Shape) (fields : List Text) : Type 0 where
  pub at : ℕ
  pub list : IsTrue (is_list_at (shapes (text_at fields 1)) at)
  pub earlier : (i : ℕ) → i < 2 + at → IsWellFormedBy names shapes fields i

-- a fault names the first malformed field, or lack of memory for a list
abbrev pub Refuses : List Text → ReadFault → Type 0
Refuses fields (fault.Field field) = FirstMalformed fields (place_of field)
Refuses fields fault.Memory = RunsOutBy all_verbs shapes_of fields
