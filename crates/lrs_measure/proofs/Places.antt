-- The elements of a list by their places.
use Rattle.std.proofs.Common.{◌≡◌, ℕ, ◌<◌, ◌≤◌, zero, suc, Bool, true, inl, inr, List, [], ◌∷◌, ◌++◌, length, get_or, take, drop, refl, sym, subst, ◌∙◌, arith}
use Rattle.std.specs.Prelude.{slice_range}
use Rattle.std.specs.List.{list_all, AllWithin}
use Rattle.std.proofs.lemmas.Bool.{and_parts, and_from}
use Rattle.std.proofs.lemmas.List.{take-append-drop}
use Rattle.std.proofs.lemmas.List.Folds.{drop_split}
use Rattle.lrs_measure.specs.Lists.{In, each_two}

module _ {X : Type 0} where
  -- a member stands at some place
  pub place_in : (x : X) (xs : List X) → In x xs → (k : ℕ) × (k < length xs) × ((d : X) → get_or xs k d ≡ x)
  place_in x [] m = absurd m
  place_in x (y ∷ ys) (inl e) = (zero, omega arith, λ d. sym e)
  place_in x (y ∷ ys) (inr m) = let later = place_in x ys m in (suc later.0, omega (arith, later.1), later.2)

  -- what stands at a place is a member
  pub member_at : (xs : List X) (i : ℕ) (d : X) → i < length xs → In (get_or xs i d) xs
  member_at [] i d h = absurd (omega (arith, h))
  member_at (x ∷ xs) zero d h = inl refl
  member_at (x ∷ xs) (suc i) d h = inr (member_at xs i d (omega (arith, h)))

  -- all pass where each does at its place, and each does where all pass
  pub all_places : (p : X → Bool) (xs : List X) → ((j : ℕ) (d : X) → j < length xs → p (get_or xs j d) ≡ true) → list_all p xs ≡ true
  all_places p [] h = refl
  all_places p (x ∷ xs) h = and_from (p x) (list_all p xs) (h 0 x (omega arith)) (all_places p xs (λ j d l. h (suc j) d (omega (arith, l))))

  pub passes_at : (p : X → Bool) (xs : List X) (i : ℕ) (d : X) → list_all p xs ≡ true → i < length xs → p (get_or xs i d) ≡ true
  passes_at p [] i d h within = absurd (omega (arith, within))
  passes_at p (x ∷ xs) zero d h within = (and_parts (p x) (list_all p xs) h).0
  passes_at p (x ∷ xs) (suc i) d h within = passes_at p xs i d (and_parts (p x) (list_all p xs) h).1 (omega (arith, within))

  -- so do each two, at their places
  pub two_places : (test : X → X → Bool) (xs : List X) → ((i j : ℕ) (d : X) → i < j → j < length xs → test (get_or xs i d) (get_or xs j d) ≡ true) → each_two test xs ≡ true
  two_places test [] h = refl
  two_places test (x ∷ xs) h = and_from (list_all (test x) xs) (each_two test xs)
      (all_places (test x) xs (λ j d l. h 0 (suc j) d (omega arith) (omega (arith, l))))
      (two_places test xs (λ i j d l m. h (suc i) (suc j) d (omega (arith, l)) (omega (arith, m))))

  pub two_pass : (test : X → X → Bool) (xs : List X) (i j : ℕ) (d : X) → each_two test xs ≡ true → i < j → j < length xs → test (get_or xs i d) (get_or xs j d) ≡ true
  two_pass test [] i j d h less within = absurd (omega (arith, within))
  two_pass test (x ∷ xs) zero zero d h less within = absurd (omega (arith, less))
  two_pass test (x ∷ xs) zero (suc j) d h less within = passes_at (test x) xs j d (and_parts (list_all (test x) xs) (each_two test xs) h).0 (omega (arith, within))
  two_pass test (x ∷ xs) (suc i) zero d h less within = absurd (omega (arith, less))
  two_pass test (x ∷ xs) (suc i) (suc j) d h less within = two_pass test xs i j d (and_parts (list_all (test x) xs) (each_two test xs) h).1 (omega (arith, less)) (omega (arith, within))

  -- what holds at each place of a front holds of its members
  pub all_first : (P : X → Type 0) (xs : List X) (i : ℕ) → AllWithin P xs 0 i → (x : X) → In x (take i xs) → P x
  all_first P xs zero h x m = absurd m
  all_first P [] (suc i) h x m = absurd m
  all_first P (y ∷ ys) (suc i) h x (inl e) = subst P (sym e) (h 0 y (omega arith) (omega arith))
  all_first P (y ∷ ys) (suc i) h x (inr m) = all_first P ys i (λ k d low high. h (suc k) d (omega arith) (omega (arith, high))) x m

  -- ... and so of a rear
  pub all_last : (P : X → Type 0) (xs : List X) (i : ℕ) → AllWithin P xs i (length xs) → (x : X) → In x (drop i xs) → P x
  all_last P [] zero h x m = absurd m
  all_last P [] (suc i) h x m = absurd m
  all_last P (y ∷ ys) zero h x (inl e) = subst P (sym e) (h 0 y (omega arith) (omega arith))
  all_last P (y ∷ ys) zero h x (inr m) = all_last P ys zero (λ k d low high. h (suc k) d (omega arith) (omega (arith, high))) x m
  all_last P (y ∷ ys) (suc i) h x m = all_last P ys i (λ k d low high. h (suc k) d (omega (arith, low)) (omega (arith, high))) x m

  -- a list by two places
  pub in_three : (xs : List X) (start end : ℕ) → start ≤ end → xs ≡ take start xs ++ (slice_range xs start end ++ drop end xs)
  in_three xs start end o = sym (take-append-drop start xs) ∙ (λ i. take start xs ++ drop_split xs start end o i)
