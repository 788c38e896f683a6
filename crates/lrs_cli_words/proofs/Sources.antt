-- The words of a source stand at the front of a list in one way alone.
use Rattle.std.proofs.Common.{◌≡◌, ◌∙◌, List, [], ◌∷◌, ◌++◌, Bor, IfNone, Option, Some, None, append-nil, ap, arith, codes, drop, get_or, length, map, suc, sym}
use Rattle.clap.specs.Words.{Text}
use Rattle.lrs_cli_words.specs.declared.comparison.Source.{Source}
use Rattle.lrs_cli_words.specs.declared.comparison.Source.TheVariants.{Inventory, Log}
use Rattle.lrs_cli_words.specs.Questions.{IsSource, source_words}

pub same_first : (one other : Text) (words others : List Text) → one ∷ words ≡ other ∷ others → one ≡ other
same_first one other words others e = ap (λ (ws : List Text). get_or ws 0 []) e

pub same_rest : (one other : Text) (words others : List Text) → one ∷ words ≡ other ∷ others → words ≡ others
same_rest one other words others e = ap (λ (ws : List Text). drop 1 ws) e

-- `:log` takes one word more
pub behind_log : (first : Text) (words behind : List Text) (source : Source) → first ≡ codes ":log" → IsSource source → first ∷ words ≡ source_words source ++ behind
    → (file : Text) × (words ≡ file ∷ behind)
behind_log first words behind (Inventory db) log is e = absurd (is (sym (same_first first db.now words behind e) ∙ log))
behind_log first words behind (Log file) log is e = (file.now, same_rest first (codes ":log") words (file.now ∷ behind) e)

-- `:log` alone is no source
pub alone : (first : Text) (words : List (Bor Text)) (behind : List Text) (source : Source) → first ≡ codes ":log" → length words ≡ 0 → IsSource source
    → first ∷ map (λ w. w.now) words ≡ source_words source ++ behind → ⊥
alone first [] behind source log none is e = let more : 0 ≡ suc (length behind) = ap length (behind_log first [] behind source log is e).1 in omega (arith, more)
alone first (word ∷ words) behind source log none is e = absurd (omega (arith, none))

-- words that are a source have nothing behind it
pub whole : (first : Bor Text) (others words : List (Bor Text)) (source : Source) → words ≡ first ∷ others → map (λ w. w.now) words ≡ source_words source
    → first.now ∷ map (λ w. w.now) others ≡ source_words source ++ []
whole first others words source split e = sym (ap (map (λ w. w.now)) split) ∙ e ∙ sym (append-nil (source_words source))

pub if_none : {A : Type 0} {P : Type 0} (o : Option A) → P → IfNone o P
if_none None p = p
if_none (Some x) p = tt
