-- The refusals among replies, gone through one after another.
use Rattle.std.proofs.Common.{◌≡◌, ℕ, suc, ◌<◌, Bool, true, false, cond, Option, Some, None, List, [], ◌∷◌, ◌++◌, length, append_assoc, append-nil, refl, sym, ap, subst, ◌∙◌, arith}
use Rattle.std.specs.Prelude.{IfNone, IfSome, option_map}
use Rattle.std.specs.List.{filter}
use Rattle.std.specs.Option.{option_map_or}
use Rattle.lrs_machine.specs.Lines.{Text}
use Rattle.lrs_sheet_records.specs.Words.{parts_of}
use Rattle.lrs_sheet_advice.specs.Refusals.{is_refusal, refusals, refusals_left}

-- the first of some texts apart
first-apart : (p : Text → Bool) (x : Text) (xs : List Text) → filter p (x ∷ xs) ≡ cond (p x) (x ∷ []) [] ++ filter p xs
first-apart p x xs = by (p x)
  where
    by : (t : Bool) → cond t (x ∷ filter p xs) (filter p xs) ≡ cond t (x ∷ []) [] ++ filter p xs
    by true = refl
    by false = refl

module _ {B : Type 0} (now : B → Text) where
  -- what is left, if anything is
  abbrev pub left_in : Option B → List Text
  left_in left = refusals_left (option_map now left)

  -- how much is left
  abbrev pub size_of : Option B → ℕ
  size_of left = option_map_or (λ text. suc (length (now text))) left 0

  pub less : (text : B) (behind : Option B) → IfSome behind (λ rest. length (now rest) < length (now text)) → size_of behind < size_of (Some text)
  less text None shorter = omega arith
  less text (Some rest) shorter = omega (arith, shorter)

  -- once a reply is gone through
  one_through : (text reply : Text) (behind : Option B) → IfNone behind (parts_of 10 text ≡ reply ∷ []) → IfSome behind (λ rest. parts_of 10 text ≡ reply ∷ parts_of 10 (now rest))
      → refusals text ≡ cond (is_refusal reply) (reply ∷ []) [] ++ left_in behind
  one_through text reply None last more = ap (λ (xs : List Text). filter is_refusal xs) last ∙ first-apart is_refusal reply []
  one_through text reply (Some rest) last more = ap (λ (xs : List Text). filter is_refusal xs) more ∙ first-apart is_refusal reply (parts_of 10 (now rest))

  pub one_refused : (text reply : Text) (behind : Option B) → IfNone behind (parts_of 10 text ≡ reply ∷ []) → IfSome behind (λ rest. parts_of 10 text ≡ reply ∷ parts_of 10 (now rest))
      → is_refusal reply ≡ true → refusals text ≡ reply ∷ left_in behind
  one_refused text reply behind last more refuses = one_through text reply behind last more ∙ ap (λ (t : Bool). cond t (reply ∷ []) [] ++ left_in behind) refuses

  pub one_passed : (text reply : Text) (behind : Option B) → IfNone behind (parts_of 10 text ≡ reply ∷ []) → IfSome behind (λ rest. parts_of 10 text ≡ reply ∷ parts_of 10 (now rest))
      → is_refusal reply ≡ false → refusals text ≡ left_in behind
  one_passed text reply behind last more other = one_through text reply behind last more ∙ ap (λ (t : Bool). cond t (reply ∷ []) [] ++ left_in behind) other

-- ---- what is done of each refusal

module _ {S : Type 0} (Does : List Text → S → S → Type 0) where
  -- it is done of all but those that are left
  abbrev pub Through : List Text → List Text → S → S → Type 0
  Through all left a b = (front : List Text) × (front ++ left ≡ all) × Does front a b

  pub one_more : ((xs ys : List Text) (a b c : S) → Does xs a b → Does ys b c → Does (xs ++ ys) a c) → (all left behind : List Text) (reply : Text) (a b c : S)
      → left ≡ reply ∷ behind → Through all left a b → Does (reply ∷ []) b c → Through all behind a c
  one_more joins all left behind reply a b c next (front, so_far, done) one =
      (front ++ reply ∷ [], append_assoc front (reply ∷ []) behind ∙ ap (λ (xs : List Text). front ++ xs) (sym next) ∙ so_far, joins front (reply ∷ []) a b c done one)

  pub all_done : (all left : List Text) (a b : S) → left ≡ [] → Through all left a b → Does all a b
  all_done all left a b none (front, so_far, done) =
      subst (λ (xs : List Text). Does xs a b) (sym (append-nil front) ∙ ap (λ (xs : List Text). front ++ xs) (sym none) ∙ so_far) done

-- one more is gone through, so fewer are left
pub fewer : (left behind : List Text) (reply : Text) → left ≡ reply ∷ behind → length behind < length left
fewer left behind reply next = let size : length left ≡ suc (length behind) = ap length next in omega (arith, size)
