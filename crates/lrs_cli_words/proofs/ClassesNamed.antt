-- Classes that a text names, with a comma between two.
use Rattle.std.proofs.Common.{◌≡◌, ◌∙◌, List, [], ◌∷◌, ◌++◌, length, Option, Some, None, IfNone, IfSome, ap, append_assoc, subst, sym}
use Rattle.std.specs.Prelude.{IsSomeAnd, slice_get}
use Rattle.clap.specs.Words.{Text}
use Rattle.lrs_measure.specs.Texts.{Name}
use Rattle.lrs_sheet_records.proofs.Wording.{said-more}
use Rattle.lrs_sheet_records.specs.Words.{AreSaid, parts_of}
use Rattle.lrs_cli_words.specs.declared.question.BadWord.TheVariants as word
use Rattle.lrs_cli_words.specs.declared.question.QuestionFault.{QuestionFault}
use Rattle.lrs_cli_words.specs.Questions.{Cannot, CannotClass, SaysClass, SaysClasses}

-- the parts before the rest say these classes
pub record HasRead (text rest : Text) (classes : List Name) : Type 0 where
  pub front : List Text
  pub split : parts_of 44 text ≡ front ++ parts_of 44 rest
  pub said : AreSaid SaysClass front classes

module _ (text rest name : Text) (classes : List Name) (before : HasRead text rest classes) where
  parts : (others : List Text) → parts_of 44 rest ≡ name ∷ others → parts_of 44 text ≡ before.front ++ name ∷ others
  parts others split = before.split ∙ ap (λ (ps : List Text). before.front ++ ps) split

  pub one_read : (class : Name) (behind : Text) → parts_of 44 rest ≡ name ∷ parts_of 44 behind → SaysClass name class → HasRead text behind (classes ++ class ∷ [])
  one_read class behind split says = record {
    front = before.front ++ name ∷ [];
    split = parts (parts_of 44 behind) split ∙ sym (append_assoc before.front (name ∷ []) (parts_of 44 behind));
    said = said-more SaysClass before.front classes name class before.said says;
  }

  pub all_read : (class : Name) → parts_of 44 rest ≡ name ∷ [] → SaysClass name class → SaysClasses text (classes ++ class ∷ [])
  all_read class last says =
      subst (λ (ps : List Text). AreSaid SaysClass ps (classes ++ class ∷ [])) (sym (parts [] last)) (said-more SaysClass before.front classes name class before.said says)

  behind_front : (front others : List Text) (P : Text → Type 0) → P name → IsSomeAnd (slice_get (front ++ name ∷ others) (length front)) P
  behind_front [] others P p = p
  behind_front (x ∷ xs) others P p = behind_front xs others P p

  -- a part that is no name of a class is one of them
  pub part_unread : (fault : QuestionFault) → (others : List Text) × (parts_of 44 rest ≡ name ∷ others) → Cannot word.Class (SaysClass name) fault → CannotClass (parts_of 44 text) fault
  part_unread fault (others, split) cannot = (
    length before.front,
    subst (λ (ps : List Text). IsSomeAnd (slice_get ps (length before.front)) (λ t. Cannot word.Class (SaysClass t) fault)) (sym (parts others split))
        (behind_front before.front others (λ t. Cannot word.Class (SaysClass t) fault) cannot),
  )

-- a first part is cut off, whatever is behind it
pub first_part : {A : Type 0} (text_of : A → Text) (o : Option A) (rest name : Text) → IfNone o (parts_of 44 rest ≡ name ∷ []) → IfSome o (λ b. parts_of 44 rest ≡ name ∷ parts_of 44 (text_of b))
    → (others : List Text) × (parts_of 44 rest ≡ name ∷ others)
first_part text_of None rest name last more = ([], last)
first_part text_of (Some b) rest name last more = (parts_of 44 (text_of b), more)
