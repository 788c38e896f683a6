-- The words of a list, how they are numbered, and which part of a piece or of a mark is wrong.
use Rattle.std.specs.Prelude.{◌≡◌, ℕ, Bool, true, false, ◌++◌, Some, codes, slice_get}
use Rattle.std.specs.Fmt.{decimal}
use Rattle.lrs_measure.specs.Limits.{greatest_link, longest_link, longest_route, greatest_measure}
use Rattle.lrs_machine.specs.Lines.{Text}
use Rattle.lrs_sheet_records.specs.Words.{IsMarkText, IsPieceText, SaysNumber, parts_of, sign_text}
use Rattle.lrs_sheet_advice.specs.AdviceLines.{shown}
use Rattle.lrs_sheet_advice.specs.declared.part.Part.{Part}
use Rattle.lrs_sheet_advice.specs.declared.part.Part.TheVariants as part

-- how a word of a list is named, by its number from 0: `mark 1 (the first is 0)`
abbrev pub numbered : Text → ℕ → Text
numbered name place = shown name ++ shown (decimal place) ++ codes " (the first is 0)"

-- The word says something of a kind.
abbrev pub SaysSome : {X : Type 0} → (Text → X → Type 0) → Text → Type 0
SaysSome {X} says word = (x : X) × says word x

-- The word says a piece, or else a mark.
abbrev pub IsItem : Bool → Text → Type 0
IsItem true word = SaysSome IsPieceText word
IsItem false word = SaysSome IsMarkText word

-- The word at this place of a list of pieces, or else of marks, says none.
pub record IsBadWord (of_pieces : Bool) (list : Text) (place : ℕ) : Type 0 where
  pub word : Text
  pub here : slice_get (parts_of 32 list) place ≡ Some word
  pub bad : IsItem of_pieces word → ⊥

-- where a part stands in its word: `LINK:FROM:TO:+` or `CHAINAGE:MEASURE`
abbrev pub place_of : Part → ℕ
place_of part.Link = 0
place_of part.From = 1
place_of part.To = 2
place_of part.Direction = 3
place_of part.Chainage = 0
place_of part.Measure = 1

-- The text says such a part.
abbrev pub SaysPart : Part → Text → Type 0
SaysPart part.Link text = (n : ℕ) × SaysNumber 1 greatest_link text n
SaysPart part.From text = (n : ℕ) × SaysNumber 0 longest_link text n
SaysPart part.To text = (n : ℕ) × SaysNumber 0 longest_link text n
SaysPart part.Direction text = (forward : Bool) × (text ≡ sign_text forward)
SaysPart part.Chainage text = (n : ℕ) × SaysNumber 0 longest_route text n
SaysPart part.Measure text = (n : ℕ) × SaysNumber 0 greatest_measure text n

-- The word has this text at the place of the part, and the text does not say the part.
pub record IsWrongPart (word : Text) (found : Part) (text : Text) : Type 0 where
  pub here : slice_get (parts_of 58 word) (place_of found) ≡ Some text
  pub wrong : SaysPart found text → ⊥
