-- What clauses know of a writer that passes a list on: which writer is behind it, what that held before, what stands before each entry, and what was passed on.
use Rattle.std.specs.Prelude.{ℕ, List, [], ◌∷◌, ◌++◌, Option, None, Some, length, take, drop}
use Rattle.lrs_machine.specs.Lines.{Text}

-- a text, and others behind it
abbrev pub packed : Text → List ℕ → List ℕ
packed text others = length text ∷ (text ++ others)

-- the first, and the others
abbrev pub first_in : List ℕ → Text
first_in [] = []
first_in (size ∷ others) = take size others

abbrev pub others_in : List ℕ → List ℕ
others_in [] = []
others_in (size ∷ others) = drop size others

-- known bytes as a text
abbrev pub known_text : Option Text → Text
known_text None = []
known_text (Some text) = 0 ∷ text

abbrev pub known_in : Text → Option Text
known_in [] = None
known_in (mark ∷ text) = Some text

-- the whole story
abbrev pub story_of : ℕ → Option Text → Text → Text → List ℕ
story_of writer start front text = writer ∷ packed (known_text start) (packed front text)

-- and its parts
abbrev pub writer_in : List ℕ → ℕ
writer_in [] = 0
writer_in (writer ∷ others) = writer

abbrev pub texts_in : List ℕ → List ℕ
texts_in [] = []
texts_in (writer ∷ others) = others

abbrev pub start_in : List ℕ → Option Text
start_in story = known_in (first_in (texts_in story))

abbrev pub front_in : List ℕ → Text
front_in story = first_in (others_in (texts_in story))

abbrev pub text_in : List ℕ → Text
text_in story = others_in (others_in (texts_in story))
