-- One of the classes cannot be read.
use Rattle.std.proofs.Common.{ℕ, suc, zero, ◌<◌, List, [], ◌∷◌, length, map, get_or, Bor, arith}
use Rattle.std.specs.Prelude.{IsSomeAnd, slice_get}
use Rattle.clap.specs.Words.{Text}
use Rattle.lrs_cli_words.specs.declared.question.BadWord.TheVariants as word
use Rattle.lrs_cli_words.specs.declared.question.QuestionFault.{QuestionFault}
use Rattle.lrs_cli_words.specs.Questions.{Cannot, CannotClass, SaysClass}

at : (texts : List (Bor Text)) (i : ℕ) (d : Bor Text) (P : Text → Type 0) → i < length texts → P (get_or texts i d).now → IsSomeAnd (slice_get (map (λ w. w.now) texts) i) P
at [] i d P low p = absurd (omega (arith, low))
at (x ∷ xs) zero d P low p = p
at (x ∷ xs) (suc i) d P low p = at xs i d P (omega (arith, low)) p

-- a class that cannot be read is one of them
pub class_at : (texts : List (Bor Text)) (i : ℕ) (d : Bor Text) (fault : QuestionFault) → i < length texts → Cannot word.Class (SaysClass (get_or texts i d).now) fault
    → CannotClass (map (λ w. w.now) texts) fault
class_at texts i d fault low cannot = (i, at texts i d (λ text. Cannot word.Class (SaysClass text) fault) low cannot)
