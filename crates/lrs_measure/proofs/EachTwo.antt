-- Tests of each two elements of a list, in their order.
use Rattle.std.proofs.Common.{◌≡◌, Bool, true, inl, inr, List, [], ◌∷◌, ◌++◌, refl, sym, ap, ◌∙◌}
use Rattle.std.specs.List.{list_all}
use Rattle.std.proofs.lemmas.Bool.{and_parts, and_from}
use Rattle.std.proofs.lemmas.List.Folds.{list_all-append}
use Rattle.lrs_measure.specs.Lists.{In, each_two}
use Rattle.lrs_measure.proofs.Members.{all_at, all_of, In-append_right}

module _ {X : Type 0} where
  -- each two members that pass one test pass the other
  pub each_two_from : (p q : X → X → Bool) (xs : List X) → ((x y : X) → In x xs → In y xs → p x y ≡ true → q x y ≡ true) → each_two p xs ≡ true → each_two q xs ≡ true
  each_two_from p q [] w h = refl
  each_two_from p q (x ∷ xs) w h =
      let both = and_parts (list_all (p x) xs) (each_two p xs) h in
      and_from (list_all (q x) xs) (each_two q xs) (all_of (q x) xs (λ y m. w x y (inl refl) (inr m) (all_at (p x) y xs both.0 m))) (each_two_from p q xs (λ y z m n. w y z (inr m) (inr n)) both.1)

  pub two_passing : (test other : X → X → Bool) → ((a b : X) → test a b ≡ true → other a b ≡ true) → (xs : List X) → each_two test xs ≡ true → each_two other xs ≡ true
  two_passing test other w xs = each_two_from test other xs (λ x y m n. w x y)

module _ {X : Type 0} (test : X → X → Bool) where
  -- each two of a front and of a rear pass
  pub two_front : (xs ys : List X) → each_two test (xs ++ ys) ≡ true → each_two test xs ≡ true
  two_front [] ys h = refl
  two_front (x ∷ xs) ys h =
      let both = and_parts (list_all (test x) (xs ++ ys)) (each_two test (xs ++ ys)) h in
      let all = and_parts (list_all (test x) xs) (list_all (test x) ys) (sym (list_all-append (test x) xs ys) ∙ both.0) in
      and_from (list_all (test x) xs) (each_two test xs) all.0 (two_front xs ys both.1)

  pub two_rear : (xs ys : List X) → each_two test (xs ++ ys) ≡ true → each_two test ys ≡ true
  two_rear [] ys h = h
  two_rear (x ∷ xs) ys h = two_rear xs ys (and_parts (list_all (test x) (xs ++ ys)) (each_two test (xs ++ ys)) h).1

  -- ... and one of the front with one of the rear
  pub across_of : (xs ys : List X) → each_two test (xs ++ ys) ≡ true → (x y : X) → In x xs → In y ys → test x y ≡ true
  across_of [] ys h x y m n = absurd m
  across_of (z ∷ zs) ys h x y (inl e) n =
      let both = and_parts (list_all (test z) (zs ++ ys)) (each_two test (zs ++ ys)) h in
      ap (λ w. test w y) e ∙ all_at (test z) y (zs ++ ys) both.0 (In-append_right y zs ys n)
  across_of (z ∷ zs) ys h x y (inr m) n = across_of zs ys (and_parts (list_all (test z) (zs ++ ys)) (each_two test (zs ++ ys)) h).1 x y m n

  -- where these pass, each two of both lists do
  pub joined : (xs ys : List X) → each_two test xs ≡ true → each_two test ys ≡ true → ((x y : X) → In x xs → In y ys → test x y ≡ true) → each_two test (xs ++ ys) ≡ true
  joined [] ys h k across = k
  joined (x ∷ xs) ys h k across =
      let both = and_parts (list_all (test x) xs) (each_two test xs) h in
      and_from (list_all (test x) (xs ++ ys)) (each_two test (xs ++ ys))
      (list_all-append (test x) xs ys ∙ and_from (list_all (test x) xs) (list_all (test x) ys) both.0 (all_of (test x) ys (λ y m. across x y (inl refl) m)))
      (joined xs ys both.1 k (λ z y n m. across z y (inr n) m))

  pub each_two-push : (xs : List X) (x : X) → each_two test xs ≡ true → list_all (λ y. test y x) xs ≡ true → each_two test (xs ++ x ∷ []) ≡ true
  each_two-push xs x h k = joined xs (x ∷ []) h refl (λ y z m n. by y z n (all_at (λ y. test y x) y xs k m))
    where
      by : (y z : X) → In z (x ∷ []) → test y x ≡ true → test y z ≡ true
      by y z (inl e) passes = ap (test y) e ∙ passes
      by y z (inr n) passes = absurd n
