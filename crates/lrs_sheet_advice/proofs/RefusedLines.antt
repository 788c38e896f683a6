-- The lines of refusals, pushed one after another.
use Rattle.std.proofs.Common.{◌≡◌, true, false, cond, Bool, List, [], ◌∷◌, ◌++◌, append_assoc, append-nil, refl, sym, ap, ◌∙◌}
use Rattle.std.specs.List.{filter}
use Rattle.std.proofs.lemmas.Grind.{flat_map-append}
use Rattle.lrs_machine.specs.Lines.{Text}
use Rattle.lrs_sheet_records.specs.Words.{parts_of}
use Rattle.lrs_sheet_advice.specs.AdviceLines.{lines_text}
use Rattle.lrs_sheet_advice.specs.Refusals.{is_refusal, refusals}

text_of_both : (xs ys : List Text) → lines_text (xs ++ ys) ≡ lines_text xs ++ lines_text ys
text_of_both xs ys = flat_map-append (λ (line : Text). line ++ 10 ∷ []) xs ys

-- the refusals among some replies, the first one apart
first-apart : (p : Text → Bool) (x : Text) (xs : List Text) → filter p (x ∷ xs) ≡ filter p (x ∷ []) ++ filter p xs
first-apart p x xs = by (p x)
  where
    by : (t : Bool) → cond t (x ∷ filter p xs) (filter p xs) ≡ cond t (x ∷ []) [] ++ filter p xs
    by true = refl
    by false = refl

-- the replies that are left, once one is gone through
refusals-more : (rest reply behind : Text) → parts_of 10 rest ≡ reply ∷ parts_of 10 behind → refusals rest ≡ filter is_refusal (reply ∷ []) ++ refusals behind
refusals-more rest reply behind cut = ap (λ (xs : List Text). filter is_refusal xs) cut ∙ first-apart is_refusal reply (parts_of 10 behind)

-- one more reply is gone through
pub pushed_more : (all lines rest reply behind next : Text) → lines ++ lines_text (refusals rest) ≡ all → parts_of 10 rest ≡ reply ∷ parts_of 10 behind
    → next ≡ lines ++ lines_text (filter is_refusal (reply ∷ [])) → next ++ lines_text (refusals behind) ≡ all
pushed_more all lines rest reply behind next so_far cut pushed =
    let more = text_of_both (filter is_refusal (reply ∷ [])) (refusals behind) in
    ap (λ (t : Text). t ++ lines_text (refusals behind)) pushed
    ∙ append_assoc lines (lines_text (filter is_refusal (reply ∷ []))) (lines_text (refusals behind))
    ∙ ap (λ (t : Text). lines ++ t) (sym more)
    ∙ ap (λ (xs : List Text). lines ++ lines_text xs) (sym (refusals-more rest reply behind cut))
    ∙ so_far

-- the last reply is gone through
pub pushed_last : (all lines rest reply next : Text) → lines ++ lines_text (refusals rest) ≡ all → parts_of 10 rest ≡ reply ∷ []
    → next ≡ lines ++ lines_text (filter is_refusal (reply ∷ [])) → next ≡ all
pushed_last all lines rest reply next so_far cut pushed =
    pushed ∙ ap (λ (xs : List Text). lines ++ lines_text (filter is_refusal xs)) (sym cut) ∙ so_far

-- a reply that refuses, and one that does not
pub pushed_one : (reply lines next : Text) → is_refusal reply ≡ true → next ≡ lines ++ lines_text (reply ∷ []) → next ≡ lines ++ lines_text (filter is_refusal (reply ∷ []))
pushed_one reply lines next refuses pushed = pushed ∙ ap (λ (t : Bool). lines ++ lines_text (cond t (reply ∷ []) [])) (sym refuses)

pub pushed_none : (reply lines : Text) → is_refusal reply ≡ false → lines ≡ lines ++ lines_text (filter is_refusal (reply ∷ []))
pushed_none reply lines other = sym (append-nil lines) ∙ ap (λ (t : Bool). lines ++ lines_text (cond t (reply ∷ []) [])) (sym other)
