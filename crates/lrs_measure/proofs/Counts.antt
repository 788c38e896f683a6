-- How many elements of a list pass a test.
use Rattle.std.proofs.Common.{◌≡◌, ◌+◌, ◌≤◌, Bool, true, false, cond, ◌⊎◌, inl, inr, List, [], ◌∷◌, ◌++◌, refl, sym, ap, ◌∙◌, arith}
use Rattle.std.specs.Prelude.{◌||◌}
use Rattle.std.specs.List.{list_any, list_all, count_by}
use Rattle.std.proofs.lemmas.Bool.{false≢true, and_parts, or_parts, cases_Bool}
use Rattle.std.proofs.lemmas.List.Sums.{sum_by-cons, sum_by-append}
use Rattle.lrs_measure.specs.Lists.{In, each_two}
use Rattle.lrs_measure.proofs.Members.{all_at}

module _ {X : Type 0} (p : X → Bool) where
  pub count_cons : (x : X) (xs : List X) → count_by p (x ∷ xs) ≡ cond (p x) 1 0 + count_by p xs
  count_cons x xs = sum_by-cons (λ y. cond (p y) 1 0) x xs

  pub count_yes : (x : X) (xs : List X) → p x ≡ true → count_by p (x ∷ xs) ≡ 1 + count_by p xs
  count_yes x xs h = count_cons x xs ∙ ap (λ b. cond b 1 0 + count_by p xs) h

  pub count_no : (x : X) (xs : List X) → p x ≡ false → count_by p (x ∷ xs) ≡ count_by p xs
  count_no x xs h = count_cons x xs ∙ ap (λ b. cond b 1 0 + count_by p xs) h ∙ omega arith

  pub count_append : (xs ys : List X) → count_by p (xs ++ ys) ≡ count_by p xs + count_by p ys
  count_append xs ys = sum_by-append (λ y. cond (p y) 1 0) xs ys

  pub none_counted : (xs : List X) → list_any p xs ≡ false → count_by p xs ≡ 0
  none_counted [] h = refl
  none_counted (x ∷ xs) h = let both = or_parts (p x) (list_any p xs) h in count_no x xs both.0 ∙ none_counted xs both.1

  pub some_counted : (xs : List X) → list_any p xs ≡ true → 1 ≤ count_by p xs
  some_counted [] h = absurd (false≢true h)
  some_counted (x ∷ xs) h = by (cases_Bool (p x)) (some_counted xs)
    where
      by : (p x ≡ true) ⊎ (p x ≡ false) → (list_any p xs ≡ true → 1 ≤ count_by p xs) → 1 ≤ count_by p (x ∷ xs)
      by (inl k) more = let e = count_yes x xs k in omega (arith, e)
      by (inr k) more = let e = count_no x xs k in let m = more (ap (λ b. b || list_any p xs) (sym k) ∙ h) in omega (arith, e, m)

module _ {X : Type 0} where
  pub count-none : (xs : List X) → count_by (λ x. false) xs ≡ 0
  count-none [] = refl
  count-none (x ∷ xs) = count_no (λ x. false) x xs refl ∙ count-none xs

  pub none_passes : (p : X → Bool) (xs : List X) → ((x : X) → In x xs → p x ≡ true → ⊥) → count_by p xs ≡ 0
  none_passes p [] w = refl
  none_passes p (x ∷ xs) w = by (cases_Bool (p x)) (none_passes p xs (λ y m. w y (inr m)))
    where
      by : (p x ≡ true) ⊎ (p x ≡ false) → count_by p xs ≡ 0 → count_by p (x ∷ xs) ≡ 0
      by (inl k) rest = absurd (w x (inl refl) k)
      by (inr k) rest = count_no p x xs k ∙ rest

  -- where no two members in their order both pass, at most one does
  pub at_most_one : (p : X → Bool) (test : X → X → Bool) (xs : List X) → each_two test xs ≡ true → ((x y : X) → In x xs → In y xs → test x y ≡ true → p x ≡ true → p y ≡ true → ⊥) → count_by p xs ≤ 1
  at_most_one p test [] h w = omega arith
  at_most_one p test (x ∷ xs) h w =
      by (cases_Bool (p x)) (at_most_one p test xs (and_parts (list_all (test x) xs) (each_two test xs) h).1 (λ y z m n. w y z (inr m) (inr n)))
    where
      ahead : list_all (test x) xs ≡ true
      ahead = (and_parts (list_all (test x) xs) (each_two test xs) h).0

      by : (p x ≡ true) ⊎ (p x ≡ false) → count_by p xs ≤ 1 → count_by p (x ∷ xs) ≤ 1
      by (inl k) rest =
          let none = none_passes p xs (λ y m l. w x y (inl refl) (inr m) (all_at (test x) y xs ahead m) k l) in
          let one = count_yes p x xs k in
          omega (arith, none, one)
      by (inr k) rest = let same = count_no p x xs k in omega (arith, rest, same)

  count_later : (p : X → Bool) (x : X) (xs : List X) → count_by p xs ≤ count_by p (x ∷ xs)
  count_later p x xs = let e = count_cons p x xs in omega (arith, e)

  -- a member that passes is counted
  count_member : (p : X → Bool) (x : X) (xs : List X) → In x xs → p x ≡ true → 1 ≤ count_by p xs
  count_member p x [] m h = absurd m
  count_member p x (y ∷ ys) (inl e) h = let k = count_yes p y ys (ap p (sym e) ∙ h) in omega (arith, k)
  count_member p x (y ∷ ys) (inr m) h = let k = count_later p y ys in let l = count_member p x ys m h in omega (arith, k, l)

  -- two members that pass are one where at most one is counted
  pub one_at : (p : X → Bool) (x y : X) (xs : List X) → count_by p xs ≤ 1 → In x xs → In y xs → p x ≡ true → p y ≡ true → x ≡ y
  one_at p x y [] c m n h k = absurd m
  one_at p x y (z ∷ zs) c (inl e) (inl f) h k = e ∙ sym f
  one_at p x y (z ∷ zs) c (inl e) (inr n) h k =
      let a = count_yes p z zs (ap p (sym e) ∙ h) in let b = count_member p y zs n k in absurd (omega (arith, a, b, c))
  one_at p x y (z ∷ zs) c (inr m) (inl f) h k =
      let a = count_yes p z zs (ap p (sym f) ∙ k) in let b = count_member p x zs m h in absurd (omega (arith, a, b, c))
  one_at p x y (z ∷ zs) c (inr m) (inr n) h k = let a = count_later p z zs in one_at p x y zs (omega (arith, a, c)) m n h k
