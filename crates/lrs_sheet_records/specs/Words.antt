-- Words in a field: numbers, pieces and marks, and lists of them between spaces.
use Rattle.std.specs.Prelude.{◌≡◌, ◌==◌, ℕ, ◌≤◌, Bool, if◌then◌else◌, IsTrue, List, [], ◌∷◌, length, codes, slice_index_or, ⊤}
use Rattle.std.specs.List.{slice_split}
use Rattle.std.specs.Str.Parse.{IsNumeral, digits_value}
use Rattle.lrs_measure.specs.Limits.{longest_link, longest_route, greatest_measure, greatest_link}
use Rattle.lrs_measure.specs.Texts.{Name}
use Rattle.lrs_element.specs.declared.link.Piece.{Piece}
use Rattle.lrs_element.specs.declared.marks.Mark.{Mark}
use Rattle.lrs_events.specs.Names.{is_class_name}
use Rattle.lrs_machine.specs.Lines.{Text}

-- The text says this number, which lies between the bounds: digits, with leading zeros or without.
pub record SaysNumber (low high : ℕ) (text : Text) (n : ℕ) : Type 0 where
  pub digits : IsNumeral 10 text
  pub value : n ≡ digits_value 10 text
  pub least : low ≤ n
  pub most : n ≤ high

-- what stands between the bytes of this value
abbrev pub parts_of : ℕ → Text → List Text
parts_of separator text = slice_split (λ byte. byte == separator) text

-- words between spaces
abbrev pub words_of : Text → List Text
words_of = parts_of 32

-- a part of a word, between colons
abbrev pub part : Text → ℕ → Text
part word place = slice_index_or (parts_of 58 word) place []

-- in which direction a piece is run
abbrev pub sign_text : Bool → Text
sign_text forward = if forward then codes "+" else codes "-"

-- The word says this piece, as `7:0:5000:+`.
pub record IsPieceText (word : Text) (p : Piece) : Type 0 where
  pub four : length (parts_of 58 word) ≡ 4
  pub link : SaysNumber 1 greatest_link (part word 0) p.link
  pub from : SaysNumber 0 longest_link (part word 1) p.from
  pub to : SaysNumber 0 longest_link (part word 2) p.to
  pub direction : part word 3 ≡ sign_text p.forward

-- The word says this mark, as `5000:6000`: its chainage and its measure.
pub record IsMarkText (word : Text) (m : Mark) : Type 0 where
  pub two : length (parts_of 58 word) ≡ 2
  pub chainage : SaysNumber 0 longest_route (part word 0) m.chainage
  pub measure : SaysNumber 0 greatest_measure (part word 1) m.measure

-- The word names this class.
abbrev pub IsClassWord : Text → Name → Type 0
IsClassWord word name = IsTrue (is_class_name word) × (name ≡ word)

-- the most words of a list
abbrev pub most_words : ℕ
most_words = 1_000

-- the words say these, one each
abbrev pub AreSaid : {X : Type 0} → (Text → X → Type 0) → List Text → List X → Type 0
AreSaid says [] [] = ⊤
AreSaid says (word ∷ words) (x ∷ xs) = says word x × AreSaid says words xs
AreSaid says [] (x ∷ xs) = ⊥
AreSaid says (word ∷ words) [] = ⊥
