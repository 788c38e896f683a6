-- Parts are had alike exactly where those of each chunk of assets are.
use Rattle.std.proofs.Common.{◌≡◌, ℕ, ◌+◌, ◌%◌, ◌<◌, ◌≤◌, Bool, true, false, cond, ◌⊎◌, inl, inr, List, [], ◌∷◌, refl, sym, ap, subst, ◌∙◌, arith}
use Rattle.std.specs.Prelude.{◌&&◌, nat_eq, filter}
use Rattle.std.specs.List.{AllByRecursion}
use Rattle.std.proofs.lemmas.Bool.{false≢true, cases_Bool, eqb-true, eq-eqb, cases_lt}
use Rattle.lrs_measure.proofs.Counts.{count_cons, count_no}
use Rattle.lrs_events.specs.declared.part.Part.{Part}
use Rattle.lrs_events.specs.Places.{Place}
use Rattle.lrs_events.specs.Parts.{has_place, has_for, times_had}
use Rattle.lrs_image_sound.specs.SweptParts.{IsFilled}
use Rattle.lrs_image_sound.specs.Pairs.{is_in, AreHadAlike, AreHadAlikeIn}

abbrev parts_in : ℕ → List Part → List Part
parts_in chunk xs = filter (is_in chunk) xs

module _ (a : ℕ) (p : Place) (chunk : ℕ) where
  of_another : (x : Part) → (x.asset % 8 ≡ a % 8 → ⊥) → has_for a p x ≡ false
  of_another x differ = by (cases_Bool (nat_eq x.asset a))
    where
      by : (nat_eq x.asset a ≡ true) ⊎ (nat_eq x.asset a ≡ false) → has_for a p x ≡ false
      by (inl e) = absurd (differ (ap (λ n. n % 8) (eqb-true x.asset a e)))
      by (inr e) = ap (λ b. b && has_place x p) e

  kept : (xs : List Part) → a % 8 ≡ chunk → times_had a p (parts_in chunk xs) ≡ times_had a p xs
  kept [] same = refl
  kept (x ∷ xs) same = by (cases_Bool (is_in chunk x)) (kept xs same)
    where
      by : (is_in chunk x ≡ true) ⊎ (is_in chunk x ≡ false) → times_had a p (parts_in chunk xs) ≡ times_had a p xs → times_had a p (parts_in chunk (x ∷ xs)) ≡ times_had a p (x ∷ xs)
      by (inl h) more =
          let c = count_cons (has_for a p) x (parts_in chunk xs) in
          let d = count_cons (has_for a p) x xs in
          let e : times_had a p (x ∷ parts_in chunk xs) ≡ times_had a p (x ∷ xs) = omega (arith, c, d, more) in
          ap (λ b. times_had a p (cond b (x ∷ parts_in chunk xs) (parts_in chunk xs))) h ∙ e
      by (inr h) more =
          ap (λ b. times_had a p (cond b (x ∷ parts_in chunk xs) (parts_in chunk xs))) h ∙ more
          ∙ sym (count_no (has_for a p) x xs (of_another x (λ e. false≢true (sym h ∙ eq-eqb (x.asset % 8) chunk (e ∙ same)))))

  dropped : (xs : List Part) → (a % 8 ≡ chunk → ⊥) → times_had a p (parts_in chunk xs) ≡ 0
  dropped [] differ = refl
  dropped (x ∷ xs) differ = by (cases_Bool (is_in chunk x)) (dropped xs differ)
    where
      by : (is_in chunk x ≡ true) ⊎ (is_in chunk x ≡ false) → times_had a p (parts_in chunk xs) ≡ 0 → times_had a p (parts_in chunk (x ∷ xs)) ≡ 0
      by (inl h) none =
          ap (λ b. times_had a p (cond b (x ∷ parts_in chunk xs) (parts_in chunk xs))) h
          ∙ count_no (has_for a p) x (parts_in chunk xs) (of_another x (λ e. differ (sym e ∙ eqb-true (x.asset % 8) chunk h)))
          ∙ none
      by (inr h) none = ap (λ b. times_had a p (cond b (x ∷ parts_in chunk xs) (parts_in chunk xs))) h ∙ none

pub alike_in : (chunk : ℕ) (xs ys : List Part) → AreHadAlike (parts_in chunk xs) (parts_in chunk ys) → AreHadAlikeIn chunk xs ys
alike_in chunk xs ys h a p same = sym (kept a p chunk xs same) ∙ h a p ∙ kept a p chunk ys same

pub alike_of : (chunk : ℕ) (xs ys : List Part) → AreHadAlikeIn chunk xs ys → AreHadAlike (parts_in chunk xs) (parts_in chunk ys)
alike_of chunk xs ys h a p = by (cases_Bool (nat_eq (a % 8) chunk))
  where
    by : (nat_eq (a % 8) chunk ≡ true) ⊎ (nat_eq (a % 8) chunk ≡ false) → times_had a p (parts_in chunk xs) ≡ times_had a p (parts_in chunk ys)
    by (inl e) = let same = eqb-true (a % 8) chunk e in kept a p chunk xs same ∙ h a p same ∙ sym (kept a p chunk ys same)
    by (inr e) = let differ : a % 8 ≡ chunk → ⊥ = λ same. false≢true (sym e ∙ eq-eqb (a % 8) chunk same) in dropped a p chunk xs differ ∙ sym (dropped a p chunk ys differ)

pub filled_in : (chunk : ℕ) (xs : List Part) → AllByRecursion IsFilled xs → AllByRecursion IsFilled (parts_in chunk xs)
filled_in chunk [] f = tt
filled_in chunk (x ∷ xs) f = by (is_in chunk x) (filled_in chunk xs f.1)
  where
    by : (b : Bool) → AllByRecursion IsFilled (parts_in chunk xs) → AllByRecursion IsFilled (cond b (x ∷ parts_in chunk xs) (parts_in chunk xs))
    by true more = (f.0, more)
    by false more = more

-- each asset is in one of the chunks
pub all_chunks : (xs ys : List Part) → ((k : ℕ) → k < 8 → AreHadAlikeIn k xs ys) → AreHadAlike xs ys
all_chunks xs ys h a p = let below : a % 8 < 8 = omega arith in h (a % 8) below a p refl

pub one_chunk : (k : ℕ) (xs ys : List Part) → AreHadAlike xs ys → AreHadAlikeIn k xs ys
one_chunk k xs ys h a p same = h a p

pub one_more : (n : ℕ) (xs ys : List Part) → ((k : ℕ) → k < n → AreHadAlikeIn k xs ys) → AreHadAlikeIn n xs ys → (k : ℕ) → k < n + 1 → AreHadAlikeIn k xs ys
one_more n xs ys before here k h = by (cases_lt k n)
  where
    by : (k < n) ⊎ (n ≤ k) → AreHadAlikeIn k xs ys
    by (inl less) = before k less
    by (inr more) = let same : n ≡ k = omega (arith, h, more) in subst (λ m. AreHadAlikeIn m xs ys) same here
