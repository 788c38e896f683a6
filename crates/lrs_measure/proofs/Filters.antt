-- What is left of a list by a test.
use Rattle.std.proofs.Common.{◌≡◌, ℕ, ◌<◌, ◌≤◌, zero, suc, Bool, true, false, not, cond, inl, inr, List, [], ◌∷◌, length, get_or, remove, refl, ap, ◌∙◌, arith}
use Rattle.std.specs.Prelude.{◌||◌, ◌&&◌}
use Rattle.std.specs.List.{list_any, list_all, filter}
use Rattle.std.proofs.lemmas.Bool.{and_parts, and_from}
use Rattle.lrs_measure.specs.Lists.{In, each_two}

or_false : (b : Bool) → (b || false) ≡ b
or_false true = refl
or_false false = refl

module _ {X : Type 0} where
  pub all-filter : (p q : X → Bool) (xs : List X) → list_all p xs ≡ true → list_all p (filter q xs) ≡ true
  all-filter p q [] h = refl
  all-filter p q (x ∷ xs) h =
      let both = and_parts (p x) (list_all p xs) h in
      elim (q x) as (λ b. list_all p (cond b (x ∷ filter q xs) (filter q xs)) ≡ true) [
        | true ↦ and_from (p x) (list_all p (filter q xs)) both.0 (all-filter p q xs both.1)
        | false ↦ all-filter p q xs both.1
      ]

  pub each_two-filter : (test : X → X → Bool) (q : X → Bool) (xs : List X) → each_two test xs ≡ true → each_two test (filter q xs) ≡ true
  each_two-filter test q [] h = refl
  each_two-filter test q (x ∷ xs) h =
      let both = and_parts (list_all (test x) xs) (each_two test xs) h in
      elim (q x) as (λ b. each_two test (cond b (x ∷ filter q xs) (filter q xs)) ≡ true) [
        | true ↦ and_from (list_all (test x) (filter q xs)) (each_two test (filter q xs)) (all-filter (test x) q xs both.0) (each_two-filter test q xs both.1)
        | false ↦ each_two-filter test q xs both.1
      ]

  pub filter_all : (p : X → Bool) (xs : List X) → ((x : X) → In x xs → p x ≡ true) → filter p xs ≡ xs
  filter_all p [] h = refl
  filter_all p (x ∷ xs) h = ap (λ b. cond b (x ∷ filter p xs) (filter p xs)) (h x (inl refl)) ∙ ap (λ ys. x ∷ ys) (filter_all p xs (λ y m. h y (inr m)))

  pub filter_none : (p : X → Bool) (xs : List X) → ((x : X) → In x xs → p x ≡ false) → filter p xs ≡ []
  filter_none p [] h = refl
  filter_none p (x ∷ xs) h = ap (λ b. cond b (x ∷ filter p xs) (filter p xs)) (h x (inl refl)) ∙ filter_none p xs (λ y m. h y (inr m))

  -- two tests that tell the same of each member leave the same
  pub filter_alike : (p q : X → Bool) (xs : List X) → ((x : X) → In x xs → p x ≡ q x) → filter p xs ≡ filter q xs
  filter_alike p q [] same = refl
  filter_alike p q (x ∷ xs) same = λ j. cond (same x (inl refl) j) (x ∷ filter_alike p q xs (λ y m. same y (inr m)) j) (filter_alike p q xs (λ y m. same y (inr m)) j)

  pub length-filter : (p : X → Bool) (xs : List X) → length (filter p xs) ≤ length xs
  length-filter p [] = omega arith
  length-filter p (x ∷ xs) =
      let rest = length-filter p xs in
      elim (p x) as (λ b. length (cond b (x ∷ filter p xs) (filter p xs)) ≤ length (x ∷ xs)) [
        | true ↦ omega (arith, rest)
        | false ↦ omega (arith, rest)
      ]

  -- any that passes both is any of those that pass the one
  pub any-filter : (p q : X → Bool) (xs : List X) → list_any (λ x. p x && q x) xs ≡ list_any q (filter p xs)
  any-filter p q [] = refl
  any-filter p q (x ∷ xs) =
      elim (p x) as (λ b. ((b && q x) || list_any (λ y. p y && q y) xs) ≡ list_any q (cond b (x ∷ filter p xs) (filter p xs))) [
        | true ↦ ap (λ b. q x || b) (any-filter p q xs)
        | false ↦ any-filter p q xs
      ]

  pub any_is_some : (p : X → Bool) (xs : List X) → list_any p xs ≡ list_any (λ _. true) (filter p xs)
  any_is_some p [] = refl
  any_is_some p (x ∷ xs) =
      elim (p x) as (λ b. (b || list_any p xs) ≡ list_any (λ _. true) (cond b (x ∷ filter p xs) (filter p xs))) [
        | true ↦ refl
        | false ↦ any_is_some p xs
      ]

  -- ---- where at most one place passes

  pub none_any : (p : X → Bool) (xs : List X) → ((j : ℕ) (e : X) → j < length xs → p (get_or xs j e) ≡ false) → list_any p xs ≡ false
  none_any p [] h = refl
  none_any p (y ∷ ys) h = λ i. h 0 y (omega arith) i || none_any p ys (λ j e l. h (suc j) e (omega (arith, l))) i

  pub filter_others : (p : X → Bool) (xs : List X) → ((j : ℕ) (e : X) → j < length xs → p (get_or xs j e) ≡ false) → filter (λ y. not (p y)) xs ≡ xs
  filter_others p [] h = refl
  filter_others p (y ∷ ys) h =
      ap (λ b. cond (not b) (y ∷ filter (λ z. not (p z)) ys) (filter (λ z. not (p z)) ys)) (h 0 y (omega arith))
      ∙ ap (λ zs. y ∷ zs) (filter_others p ys (λ j e l. h (suc j) e (omega (arith, l))))

  -- whether any passes is whether that one does
  pub any_only : (p : X → Bool) (xs : List X) (k : ℕ) (d : X) → k < length xs → ((j : ℕ) (e : X) → j < length xs → (j ≡ k → ⊥) → p (get_or xs j e) ≡ false) → list_any p xs ≡ p (get_or xs k d)
  any_only p [] k d h off = absurd (omega (arith, h))
  any_only p (x ∷ xs) zero d h off = ap (λ b. p x || b) (none_any p xs (λ j e l. off (suc j) e (omega (arith, l)) (λ k. omega (arith, k)))) ∙ or_false (p x)
  any_only p (x ∷ xs) (suc k) d h off =
      ap (λ b. b || list_any p xs) (off 0 x (omega arith) (λ e. omega (arith, e)))
      ∙ any_only p xs k d (omega (arith, h)) (λ j e l n. off (suc j) e (omega (arith, l)) (λ m. n (omega (arith, m))))

  -- it is taken out where it passes
  pub filter_only : (p : X → Bool) (xs : List X) (k : ℕ) (d : X) → k < length xs → p (get_or xs k d) ≡ true
      → ((j : ℕ) (e : X) → j < length xs → (j ≡ k → ⊥) → p (get_or xs j e) ≡ false) → filter (λ y. not (p y)) xs ≡ remove xs k
  filter_only p [] k d h t off = absurd (omega (arith, h))
  filter_only p (x ∷ xs) zero d h t off =
      ap (λ b. cond (not b) (x ∷ filter (λ y. not (p y)) xs) (filter (λ y. not (p y)) xs)) t
      ∙ filter_others p xs (λ j e l. off (suc j) e (omega (arith, l)) (λ k. omega (arith, k)))
  filter_only p (x ∷ xs) (suc k) d h t off =
      ap (λ b. cond (not b) (x ∷ filter (λ y. not (p y)) xs) (filter (λ y. not (p y)) xs)) (off 0 x (omega arith) (λ e. omega (arith, e)))
      ∙ ap (λ ys. x ∷ ys) (filter_only p xs k d (omega (arith, h)) t (λ j e l n. off (suc j) e (omega (arith, l)) (λ m. n (omega (arith, m)))))
