-- Words of a list, and parts of a word, found one after another.
use Rattle.std.proofs.Common.{◌≡◌, ℕ, Bool, true, false, suc, ◌+◌, ◌-◌, ◌<◌, List, [], ◌∷◌, Option, Some, None, sym, ap, ◌∙◌, arith}
use Rattle.std.specs.Prelude.{◌↔◌, IfNone, IfSome, IsTrue, is_some, slice_get}
use Rattle.lrs_machine.specs.Lines.{Text}
use Rattle.lrs_sheet_advice.specs.Parts.{IsBadWord, IsItem, IsWrongPart, SaysPart, place_of}
use Rattle.lrs_sheet_advice.specs.declared.part.Part.{Part}
use Rattle.lrs_sheet_records.specs.Words.{parts_of}

-- what is still to be passed over, before one more part is
one_less : (place turn : ℕ) → turn < place → place - turn ≡ suc (place - (turn + 1))
one_less place turn below = omega (arith, below)

-- before any is passed over
pub at_start : (byte : ℕ) (text : Text) (place : ℕ) → slice_get (parts_of byte text) (place - 0) ≡ slice_get (parts_of byte text) place
at_start byte text place = let same : place - 0 ≡ place = omega arith in ap (slice_get (parts_of byte text)) same

-- behind the first part, a part is one place nearer
pub nearer : (byte : ℕ) (text rest word behind : Text) (place turn : ℕ) → turn < place → parts_of byte rest ≡ word ∷ parts_of byte behind
    → slice_get (parts_of byte rest) (place - turn) ≡ slice_get (parts_of byte text) place → slice_get (parts_of byte behind) (place - (turn + 1)) ≡ slice_get (parts_of byte text) place
nearer byte text rest word behind place turn below cut so_far =
    let here : slice_get (parts_of byte rest) (place - turn) ≡ slice_get (word ∷ parts_of byte behind) (suc (place - (turn + 1))) = λ i. slice_get (cut i) (one_less place turn below i) in
    sym here ∙ so_far

-- where the parts end, there is none at a later place
pub none_behind : (byte : ℕ) (text rest word : Text) (place turn : ℕ) → turn < place → parts_of byte rest ≡ word ∷ []
    → slice_get (parts_of byte rest) (place - turn) ≡ slice_get (parts_of byte text) place → slice_get (parts_of byte text) place ≡ None
none_behind byte text rest word place turn below cut so_far =
    let here : slice_get (parts_of byte rest) (place - turn) ≡ slice_get (word ∷ []) (suc (place - (turn + 1))) = λ i. slice_get (cut i) (one_less place turn below i) in
    sym so_far ∙ here

-- the part at a place is the first one of what is left
pub found_here : (byte : ℕ) (text rest : Text) (place turn : ℕ) (word : Text) → place ≡ turn → slice_get (parts_of byte rest) 0 ≡ Some word
    → slice_get (parts_of byte rest) (place - turn) ≡ slice_get (parts_of byte text) place → slice_get (parts_of byte text) place ≡ Some word
found_here byte text rest place turn word same first so_far =
    let none : 0 ≡ place - turn = omega (arith, same) in
    sym so_far ∙ sym (ap (slice_get (parts_of byte rest)) none) ∙ first

-- what is read is there
pub read_is : {X : Type 0} (says : X → Type 0) (found : Option X) (is : Bool) → is ≡ is_some found → IfSome found says → IfNone found ((x : X) → says x → ⊥) → IsTrue is ↔ ((x : X) × says x)
read_is says (Some x) is same some none = (λ e. (x, some), λ there. same)
read_is says None is same some none = (λ e. let both : true ≡ false = sym e ∙ same in cc both, λ there. absurd (none there.0 there.1))

-- a text that does not say its part is a wrong part
pub wrong_here : (word text : Text) (p : Part) (place : ℕ) (is : Bool) → place ≡ place_of p → slice_get (parts_of 58 word) place ≡ Some text → (IsTrue is ↔ SaysPart p text) → is ≡ false → IsWrongPart word p text
wrong_here word text p place is at here tells fails = record {
  here = sym (ap (slice_get (parts_of 58 word)) at) ∙ here;
  wrong = λ said. let both : false ≡ true = sym fails ∙ tells.1 said in cc both;
}

-- ---- the words of a list

-- before the first word, all are left
pub from_start : (text : Text) (i : ℕ) → slice_get (parts_of 32 text) i ≡ slice_get (parts_of 32 text) (0 + i)
from_start text i = let same : i ≡ 0 + i = omega arith in ap (slice_get (parts_of 32 text)) same

-- behind the first word of what is left, what is left has the words one place further
pub further : (text rest word behind : Text) (place : ℕ) → parts_of 32 rest ≡ word ∷ parts_of 32 behind → ((i : ℕ) → slice_get (parts_of 32 rest) i ≡ slice_get (parts_of 32 text) (place + i))
    → (i : ℕ) → slice_get (parts_of 32 behind) i ≡ slice_get (parts_of 32 text) ((place + 1) + i)
further text rest word behind place cut so_far i =
    let next : place + suc i ≡ (place + 1) + i = omega arith in
    ap (λ (words : List Text). slice_get words (suc i)) (sym cut) ∙ so_far (suc i) ∙ ap (slice_get (parts_of 32 text)) next

-- the first word of what is left says none
pub bad_here : (of_pieces : Bool) (text rest word : Text) (more : List Text) (place : ℕ) (is : Bool) → parts_of 32 rest ≡ word ∷ more → ((i : ℕ) → slice_get (parts_of 32 rest) i ≡ slice_get (parts_of 32 text) (place + i))
    → (IsTrue is ↔ IsItem of_pieces word) → is ≡ false → IsBadWord of_pieces text place
bad_here of_pieces text rest word more place is cut so_far tells fails =
    let none : place + 0 ≡ place = omega arith in record {
      word = word;
      here = ap (slice_get (parts_of 32 text)) (sym none) ∙ sym (so_far 0) ∙ ap (λ (words : List Text). slice_get words 0) cut;
      bad = λ item. let both : false ≡ true = sym fails ∙ tells.1 item in cc both;
    }
