-- What functions that read one field, or the fields of one verb, give.
use Rattle.std.specs.Prelude.{◌≡◌, ◌⊎◌, ℕ, ◌+◌, ◌<◌, ◌≤◌, List, [], ◌∷◌, Some, Result, Ok, Err, ⊤, IsTrue, MatchResult, Contains}
use Rattle.lrs_machine.specs.Lines.{Text}
use Rattle.lrs_machine.specs.declared.answer.Field.{Field}
use Rattle.lrs_machine.specs.declared.answer.Field.TheVariants as field
use Rattle.lrs_machine.specs.declared.command.Command.{Command}
use Rattle.lrs_machine.specs.declared.question.Question.{Question}
use Rattle.lrs_sheet_records.specs.declared.fault.ReadFault.{ReadFault}
use Rattle.lrs_sheet_records.specs.declared.fault.ReadFault.TheVariants as fault
use Rattle.lrs_sheet_records.specs.Questions.{all_questions, asked_by, question_of, question_shapes}
use Rattle.lrs_sheet_records.specs.Records.{SayAll, place_of, text_at, texts_of}
use Rattle.lrs_sheet_records.specs.Shapes.{Argument, Fits, Says, Shape, is_list}
use Rattle.lrs_sheet_records.specs.Verbs.{IsVerb, arguments_of, shapes_of, verb_of}

-- the first field, from a place on, that does not fit the shapes that begin there
abbrev pub FirstMisfit : List Text → ℕ → List Shape → ℕ → Type 0
FirstMisfit fields place [] misfit = (place ≤ misfit) × ((i : ℕ) → place ≤ i → i < misfit → text_at fields i ≡ []) × (text_at fields misfit ≡ [] → ⊥)
FirstMisfit fields place (shape ∷ shapes) misfit =
    ((misfit ≡ place) × (Fits (texts_of fields) (Some shape) (text_at fields place) → ⊥))
    ⊎ (Fits (texts_of fields) (Some shape) (text_at fields place) × FirstMisfit fields (place + 1) shapes misfit)

-- a field, from a place on, that has a list, behind fields that fit
abbrev pub RunsOut : List Text → ℕ → List Shape → Type 0
RunsOut fields place [] = ⊥
RunsOut fields place (shape ∷ shapes) = IsTrue (is_list shape) ⊎ (Fits (texts_of fields) (Some shape) (text_at fields place) × RunsOut fields (place + 1) shapes)

-- one field: what it says, or that it says nothing of the shape
abbrev pub ReadsField : {X : Type 0} → Shape → (X → Argument) → List Text → Field → Result X ReadFault → Type 0
ReadsField shape said fields field result = MatchResult result
    (λ x. Says (texts_of fields) shape (text_at fields (place_of field)) (said x) × Fits (texts_of fields) (Some shape) (text_at fields (place_of field)))
    (λ e. (e ≡ fault.Field field) × (Fits (texts_of fields) (Some shape) (text_at fields (place_of field)) → ⊥))

-- one field that has a list: the same, or lack of memory
abbrev pub ReadsList : {X : Type 0} → Shape → (X → Argument) → List Text → Field → Result X ReadFault → Type 0
ReadsList shape said fields field (Ok x) = Says (texts_of fields) shape (text_at fields (place_of field)) (said x) × Fits (texts_of fields) (Some shape) (text_at fields (place_of field))
ReadsList shape said fields field (Err (fault.Field at)) = (at ≡ field) × (Fits (texts_of fields) (Some shape) (text_at fields (place_of field)) → ⊥)
ReadsList shape said fields field (Err fault.Memory) = ⊤

-- the fields from a place on: that they are empty, or the first that is not
abbrev pub NothingFrom : List Text → ℕ → Result (Unit {0}) ReadFault → Type 0
NothingFrom fields place (Ok done) = (i : ℕ) → place ≤ i → text_at fields i ≡ []
NothingFrom fields place (Err (fault.Field field)) = FirstMisfit fields place [] (place_of field)
NothingFrom fields place (Err fault.Memory) = ⊥

-- the fields of one verb: a command of it, or the first field that does not fit, or lack of memory for a list
abbrev pub ReadsArguments : List Text → Text → Result Command ReadFault → Type 0
ReadsArguments fields verb (Ok command) = (verb_of command ≡ verb) × SayAll fields 2 (shapes_of verb) (arguments_of command)
ReadsArguments fields verb (Err (fault.Field field)) = FirstMisfit fields 2 (shapes_of verb) (place_of field)
ReadsArguments fields verb (Err fault.Memory) = RunsOut fields 2 (shapes_of verb)

-- the verb and its fields
abbrev pub ReadsCommand : List Text → Result Command ReadFault → Type 0
ReadsCommand fields (Ok command) = IsVerb (text_at fields 1) × (text_at fields 1 ≡ verb_of command) × SayAll fields 2 (shapes_of (verb_of command)) (arguments_of command)
ReadsCommand fields (Err (fault.Field at)) =
    ((at ≡ field.Verb) × (IsVerb (text_at fields 1) → ⊥)) ⊎ (IsVerb (text_at fields 1) × FirstMisfit fields 2 (shapes_of (text_at fields 1)) (place_of at))
ReadsCommand fields (Err fault.Memory) = IsVerb (text_at fields 1) × RunsOut fields 2 (shapes_of (text_at fields 1))

-- all fields behind the verb: what they say together, or the first that does not fit its shape
abbrev pub ReadsAll : {X : Type 0} → List Shape → (X → List Argument) → List Text → Result X ReadFault → Type 0
ReadsAll shapes said fields (Ok x) = SayAll fields 2 shapes (said x)
ReadsAll shapes said fields (Err (fault.Field field)) = FirstMisfit fields 2 shapes (place_of field)
ReadsAll shapes said fields (Err fault.Memory) = ⊥

-- the fields of one question: the question, or the first field that does not fit, or lack of memory for a list
abbrev pub ReadsAsked : List Text → Text → Result Question ReadFault → Type 0
ReadsAsked fields name (Ok q) = (question_of q ≡ name) × SayAll fields 2 (question_shapes name) (asked_by q)
ReadsAsked fields name (Err (fault.Field field)) = FirstMisfit fields 2 (question_shapes name) (place_of field)
ReadsAsked fields name (Err fault.Memory) = RunsOut fields 2 (question_shapes name)

-- the question and its fields
abbrev pub ReadsQuestion : List Text → Result Question ReadFault → Type 0
ReadsQuestion fields (Ok q) = Contains all_questions (text_at fields 1) × (text_at fields 1 ≡ question_of q) × SayAll fields 2 (question_shapes (question_of q)) (asked_by q)
ReadsQuestion fields (Err (fault.Field at)) =
    ((at ≡ field.Verb) × (Contains all_questions (text_at fields 1) → ⊥))
    ⊎ (Contains all_questions (text_at fields 1) × FirstMisfit fields 2 (question_shapes (text_at fields 1)) (place_of at))
ReadsQuestion fields (Err fault.Memory) = Contains all_questions (text_at fields 1) × RunsOut fields 2 (question_shapes (text_at fields 1))
