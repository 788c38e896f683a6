-- Counts of lists.
use Rattle.std.proofs.Common.{◌≡◌, ℕ, zero, suc, ◌+◌, Bool, true, false, cond, ◌⊎◌, inl, inr, List, [], ◌∷◌, map, reverse, refl, sym, ap, ◌∙◌, arith}
use Rattle.std.specs.Prelude.{◌||◌, ◌&&◌, nat_lt, sum_by}
use Rattle.std.specs.List.{list_any, count_by, flat_map}
use Rattle.std.proofs.lemmas.Bool.{cases_Bool, lt-ltb}
use Rattle.std.proofs.lemmas.List.Sums.{sum_by-cons}
use Rattle.std.proofs.lemmas.List.Sorted.{sum_by-IsPermutation, IsPermutation-reverse}
use Rattle.lrs_measure.proofs.Counts.{count_cons, count_yes, count_no, count_append, count-none}

module _ {X : Type 0} (p : X → Bool) where
  pub count_one : (x : X) → count_by p (x ∷ []) ≡ cond (p x) 1 0
  count_one x = count_cons p x [] ∙ plus_nothing (cond (p x) 1 0)
    where
      plus_nothing : (n : ℕ) → n + 0 ≡ n
      plus_nothing n = omega arith

  pub count_reverse : (xs : List X) → count_by p (reverse xs) ≡ count_by p xs
  count_reverse xs = sum_by-IsPermutation (λ y. cond (p y) 1 0) xs (reverse xs) (IsPermutation-reverse xs)

  pub any_counted : (xs : List X) → list_any p xs ≡ nat_lt 0 (count_by p xs)
  any_counted [] = refl
  any_counted (x ∷ xs) = by (cases_Bool (p x)) (any_counted xs)
    where
      by : (p x ≡ true) ⊎ (p x ≡ false) → list_any p xs ≡ nat_lt 0 (count_by p xs) → (p x || list_any p xs) ≡ nat_lt 0 (count_by p (x ∷ xs))
      by (inl h) rest = ap (λ b. b || list_any p xs) h ∙ sym (lt-ltb 0 (count_by p (x ∷ xs)) (let e = count_yes p x xs h in omega (arith, e)))
      by (inr h) rest = ap (λ b. b || list_any p xs) h ∙ rest ∙ sym (ap (nat_lt 0) (count_no p x xs h))

module _ {X Y : Type 0} where
  pub count_map : (p : Y → Bool) (f : X → Y) (xs : List X) → count_by p (map f xs) ≡ count_by (λ x. p (f x)) xs
  count_map p f [] = refl
  count_map p f (x ∷ xs) = count_cons p (f x) (map f xs) ∙ ap (λ n. cond (p (f x)) 1 0 + n) (count_map p f xs) ∙ sym (count_cons (λ x. p (f x)) x xs)

  pub count_flat_map : (p : Y → Bool) (f : X → List Y) (xs : List X) → count_by p (flat_map f xs) ≡ sum_by (λ x. count_by p (f x)) xs
  count_flat_map p f [] = refl
  count_flat_map p f (x ∷ xs) =
      let a = count_append p (f x) (flat_map f xs) in
      let b = count_flat_map p f xs in
      let c = sum_by-cons (λ x. count_by p (f x)) x xs in
      omega (arith, a, b, c)

module _ {X : Type 0} where
  pub count_same : (p q : X → Bool) (xs : List X) → ((x : X) → p x ≡ q x) → count_by p xs ≡ count_by q xs
  count_same p q xs h = λ i. count_by (λ x. h x i) xs

  -- a test between two that do not change
  pub count_both : (a b : Bool) (f : X → Bool) (xs : List X) → count_by (λ x. (a && f x) && b) xs ≡ cond (a && b) (count_by f xs) 0
  count_both true true f xs = count_same (λ x. f x && true) f xs (λ x. kept (f x))
    where
      kept : (c : Bool) → (c && true) ≡ c
      kept true = refl
      kept false = refl
  count_both true false f xs = count_same (λ x. f x && false) (λ x. false) xs (λ x. lost (f x)) ∙ count-none xs
    where
      lost : (c : Bool) → (c && false) ≡ false
      lost true = refl
      lost false = refl
  count_both false b f xs = count-none xs

  pub sum_same : (f g : X → ℕ) (xs : List X) → ((x : X) → f x ≡ g x) → sum_by f xs ≡ sum_by g xs
  sum_same f g xs h = λ i. sum_by (λ x. h x i) xs

  pub sum_two : (f g : X → ℕ) (xs : List X) → sum_by (λ x. f x + g x) xs ≡ sum_by f xs + sum_by g xs
  sum_two f g [] = refl
  sum_two f g (x ∷ xs) =
      let a = sum_by-cons (λ x. f x + g x) x xs in
      let b = sum_by-cons f x xs in
      let c = sum_by-cons g x xs in
      let d = sum_two f g xs in
      omega (arith, a, b, c, d)

  -- some one passes where the numbers are not all 0
  pub any_summed : (p : X → Bool) (f : X → ℕ) (xs : List X) → ((x : X) → p x ≡ nat_lt 0 (f x)) → list_any p xs ≡ nat_lt 0 (sum_by f xs)
  any_summed p f [] h = refl
  any_summed p f (x ∷ xs) h = (λ i. h x i || any_summed p f xs h i) ∙ both (f x) (sum_by f xs) ∙ sym (ap (nat_lt 0) (sum_by-cons f x xs))
    where
      both : (m n : ℕ) → (nat_lt 0 m || nat_lt 0 n) ≡ nat_lt 0 (m + n)
      both zero n = ap (nat_lt 0) (omega arith)
      both (suc m) n = ap (λ b. b || nat_lt 0 n) (lt-ltb 0 (suc m) (omega arith)) ∙ sym (lt-ltb 0 (suc m + n) (omega arith))
