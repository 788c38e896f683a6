-- Words between spaces, one more at a time.
use Rattle.std.proofs.Common.{◌≡◌, ℕ, ◌+◌, ◌<◌, suc, zero, false, List, [], ◌∷◌, ◌++◌, take, map, length, refl, sym, ap, ◌∙◌, arith}
use Rattle.std.specs.Prelude.{slice_index_or, nat_eq}
use Rattle.std.proofs.lemmas.List.{append_assoc, map-append, take_more}
use Rattle.std.proofs.lemmas.Bool.Decides.{nat_tests}
use Rattle.lrs_machine.specs.Lines.{Text, words}
use Rattle.lrs_machine.specs.Texts.{after_words}

words-push : (x : Text) (xs : List Text) (y : Text) → words ((x ∷ xs) ++ y ∷ []) ≡ words (x ∷ xs) ++ 32 ∷ y
words-push x [] y = refl
words-push x (z ∷ zs) y = ap (λ t. x ++ 32 ∷ t) (words-push z zs y) ∙ sym (append_assoc x (32 ∷ words (z ∷ zs)) (32 ∷ y))

not_first : (i : ℕ) → nat_eq (suc i) 0 ≡ false
not_first i = grind (arith, nat_tests)

module _ {X : Type 0} (text : X → Text) where
  -- behind some words
  later : (x : X) (xs : List X) (y : X) → words (map text ((x ∷ xs) ++ y ∷ [])) ≡ words (map text (x ∷ xs)) ++ 32 ∷ text y
  later x xs y = ap (λ ts. words (text x ∷ ts)) (map-append text xs (y ∷ [])) ∙ words-push (text x) (map text xs) (text y)

  pub one_more : (xs : List X) (i : ℕ) (d : X) → i < length xs → words (map text (take (i + 1) xs)) ≡ after_words (nat_eq i 0) (words (map text (take i xs))) (text (slice_index_or xs i d))
  one_more [] i d h = absurd (omega (arith, h))
  one_more (x ∷ xs) zero d h = refl
  one_more (x ∷ xs) (suc i) d h =
      ap (λ ts. words (map text ts)) (take_more (x ∷ xs) (suc i) d h)
      ∙ later x (take i xs) (slice_index_or xs i d)
      ∙ ap (λ b. after_words b (words (map text (x ∷ take i xs))) (text (slice_index_or xs i d))) (sym (not_first i))

-- Fields joined in three parts and then together.
pub fields-joined : (a b c d m f t v o entered location told : Text) → entered ≡ a ++ 44 ∷ (b ++ 44 ∷ (c ++ 44 ∷ d)) → location ≡ m ++ 44 ∷ (f ++ 44 ∷ t) → told ≡ v ++ 44 ∷ o
    → entered ++ 44 ∷ (location ++ 44 ∷ told) ≡ a ++ 44 ∷ (b ++ 44 ∷ (c ++ 44 ∷ (d ++ 44 ∷ (m ++ 44 ∷ (f ++ 44 ∷ (t ++ 44 ∷ (v ++ 44 ∷ o)))))))
fields-joined a b c d m f t v o entered location told e l k =
    ap (λ x. x ++ 44 ∷ (location ++ 44 ∷ told)) e
    ∙ ap (λ x. (a ++ 44 ∷ (b ++ 44 ∷ (c ++ 44 ∷ d))) ++ 44 ∷ (x ++ 44 ∷ told)) l
    ∙ ap (λ x. (a ++ 44 ∷ (b ++ 44 ∷ (c ++ 44 ∷ d))) ++ 44 ∷ ((m ++ 44 ∷ (f ++ 44 ∷ t)) ++ 44 ∷ x)) k
    ∙ (simp append_assoc)
