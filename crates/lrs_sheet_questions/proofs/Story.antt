-- The parts of a story, and how it goes on.
use Rattle.std.proofs.Common.{◌≡◌, ℕ, suc, ◌<◌, Bool, List, [], ◌∷◌, ◌++◌, Option, None, Some, length, take, drop, refl, sym, ap, ◌∙◌, append_assoc}
use Rattle.std.specs.List.{list_any}
use Rattle.std.specs.Prelude.{◌==◌}
use Rattle.std.specs.Io.KnownBytes.{Appends}
use Rattle.lrs_machine.specs.Lines.{Text}
use Rattle.lrs_sheet_questions.specs.FirstLine.{line_length}
use Rattle.lrs_sheet_questions.specs.Passing.{HasTold, next_stage, stage_of, told_from, told_of}
use Rattle.lrs_sheet_questions.specs.Story.{first_in, front_in, known_in, known_text, others_in, packed, start_in, story_of, text_in, writer_in}
use Rattle.lrs_sheet_questions.specs.declared.stage.Stage.{Stage}
use Rattle.lrs_sheet_questions.proofs.Passing.{staged-behind, told-begun, told-behind}

take-first : (xs ys : List ℕ) → take (length xs) (xs ++ ys) ≡ xs
take-first [] ys = refl
take-first (x ∷ xs) ys = ap (λ (zs : List ℕ). x ∷ zs) (take-first xs ys)

drop-first : (xs ys : List ℕ) → drop (length xs) (xs ++ ys) ≡ ys
drop-first [] ys = refl
drop-first (x ∷ xs) ys = drop-first xs ys

known-back : (start : Option Text) → known_in (known_text start) ≡ start
known-back None = refl
known-back (Some text) = refl

-- the parts of a story are what it was made of
module _ (writer : ℕ) (start : Option Text) (front text : Text) where
  start-back : start_in (story_of writer start front text) ≡ start
  start-back = ap known_in (take-first (known_text start) (packed front text)) ∙ known-back start

  others-back : others_in (packed (known_text start) (packed front text)) ≡ packed front text
  others-back = drop-first (known_text start) (packed front text)

  front-back : front_in (story_of writer start front text) ≡ front
  front-back = ap first_in others-back ∙ take-first front text

  text-back : text_in (story_of writer start front text) ≡ text
  text-back = ap others_in others-back ∙ drop-first front text

  -- it goes on with its text
  story-more : (line : Text) → story_of writer start front text ++ line ≡ story_of writer start front (text ++ line)
  story-more line =
      ap (λ (zs : List ℕ). writer ∷ length (known_text start) ∷ zs)
      (append_assoc (known_text start) (packed front text) line ∙ ap (λ (zs : List ℕ). known_text start ++ length front ∷ zs) (append_assoc front text line))

-- a story that was begun: nothing is passed on
pub has-begun : (writer : ℕ) (front : Text) (known now : Option Text) (story : List ℕ) → story ≡ story_of writer known front [] → now ≡ known → HasTold writer front now story
has-begun writer front known now story is held =
    let start : start_in story ≡ known = ap start_in is ∙ start-back writer known front [] in
    let text : text_in story ≡ [] = ap text_in is ∙ text-back writer known front [] in
    (is ∙ (λ i. story_of writer (sym start i) front (sym text i)), told-begun front (text_in story) (start_in story) known now text start held)

pub begun-text : (writer : ℕ) (front : Text) (known : Option Text) (story : List ℕ) → story ≡ story_of writer known front [] → text_in story ≡ []
begun-text writer front known story is = ap text_in is ∙ text-back writer known front []

-- one more line
module _ (writer : ℕ) (front line : Text) (now : Option Text) (story grown : List ℕ) (told : HasTold writer front now story) (grows : grown ≡ story ++ line) where
  whole : grown ≡ story_of writer (start_in story) front (text_in story ++ line)
  whole = grows ∙ ap (λ (s : List ℕ). s ++ line) told.0 ∙ story-more writer (start_in story) front (text_in story) line

  pub grown-text : text_in grown ≡ text_in story ++ line
  grown-text = ap text_in whole ∙ text-back writer (start_in story) front (text_in story ++ line)

  grown-start : start_in grown ≡ start_in story
  grown-start = ap start_in whole ∙ start-back writer (start_in story) front (text_in story ++ line)

  pub has-grown : (stage : Stage) (next : Option Text) → stage ≡ stage_of (text_in story) → Appends now next (told_from front stage line) → HasTold writer front next grown
  has-grown stage next is passed = (
    whole ∙ (λ i. story_of writer (sym grown-start i) front (sym grown-text i)),
    told-behind front (text_in story) line (text_in grown) stage (start_in story) (start_in grown) now next is grown-start grown-text told.1 passed,
  )

pub stage-grown : (writer : ℕ) (front : Text) (now : Option Text) (story grown : List ℕ) (stage : Stage) (is_whole : Bool) (size : ℕ) (bytes : Text) → HasTold writer front now story → grown ≡ story ++ take size bytes
    → 0 < length bytes → stage ≡ stage_of (text_in story) → size ≡ line_length bytes → is_whole ≡ list_any (λ byte. byte == 10) bytes → next_stage stage is_whole ≡ stage_of (text_in grown)
stage-grown writer front now story grown stage is_whole size bytes told grows some is long any =
    staged-behind stage is_whole size (text_in story) bytes (text_in grown) some is long any (grown-text writer front (take size bytes) now story grown told grows)

-- a story at its end is of the writer and of the front that it was begun with, and of all that was passed on
pub has-ended : (writer first : ℕ) (front begun : Text) (known now : Option Text) (story start : List ℕ) (body : Text) → start ≡ story_of first known begun [] → story ≡ start ++ body → HasTold writer front now story
    → (writer ≡ first) × Appends known now (told_of begun body)
has-ended writer first front begun known now story start body is grows told =
    let whole : story ≡ story_of first known begun body = grows ∙ ap (λ (s : List ℕ). s ++ body) is ∙ story-more first known begun [] body in
    let names : writer ≡ first = sym (ap writer_in told.0) ∙ ap writer_in whole in
    let fronts : front ≡ begun = sym (ap front_in told.0 ∙ front-back writer (start_in story) front (text_in story)) ∙ ap front_in whole ∙ front-back first known begun body in
    let starts : start_in story ≡ known = ap start_in whole ∙ start-back first known begun body in
    let texts : text_in story ≡ body = ap text_in whole ∙ text-back first known begun body in
    (names, coe 0 1 (k. Appends (starts k) now (told_of (fronts k) (texts k))) told.1)
