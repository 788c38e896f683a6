-- Lists into which others are put by their order.
use Rattle.std.proofs.Common.{◌≡◌, ℕ, ◌+◌, ◌≤◌, zero, suc, Bool, true, false, cond, not, ◌⊎◌, inl, inr, List, [], ◌∷◌, length, insert, refl, sym, ap, ◌∙◌, arith, add-one}
use Rattle.std.specs.List.{list_all}
use Rattle.std.specs.List.Sorted.{IsPartitionPoint}
use Rattle.std.proofs.lemmas.Bool.{false≢true, and_parts, and_from}
use Rattle.lrs_measure.specs.Lists.{In, each_two}
use Rattle.lrs_measure.specs.OrderedLists.{place_by, insert_by, insert_all}

is_passing : (b : Bool) → not b ≡ false → b ≡ true
is_passing true h = refl
is_passing false h = absurd (false≢true (sym h))

is_failing : (b : Bool) → not b ≡ true → b ≡ false
is_failing true h = absurd (false≢true h)
is_failing false h = refl

module _ {X : Type 0} where
  -- Where those that fail are a front, its end is the first place that passes.
  pub placed : (p : X → Bool) (xs : List X) (k : ℕ) → k ≤ length xs → IsPartitionPoint (λ y. not (p y) ≡ true) (λ y. not (p y) ≡ false) xs k → k ≡ place_by p xs
  placed p [] k within point = omega (arith, within)
  placed p (y ∷ ys) zero within point =
      sym (ap (λ b. cond b 0 (place_by p ys + 1)) (is_passing (p y) (point.1 0 y (omega arith) (omega arith))))
  placed p (y ∷ ys) (suc k) within point =
      let here = is_failing (p y) (point.0 0 y (omega arith) (omega arith)) in
      let later = placed p ys k (omega (arith, within)) (λ i d from to. point.0 (suc i) d (omega arith) (omega (arith, to)), λ i d from to. point.1 (suc i) d (omega (arith, from)) (omega (arith, to))) in
      ap suc later ∙ sym (add-one _) ∙ sym (ap (λ b. cond b 0 (place_by p ys + 1)) here)

  -- ---- members

  pub In-insert : (order : X → X → Bool) (x z : X) (ys : List X) → In z (insert_by order x ys) → (z ≡ x) ⊎ In z ys
  In-insert order x z [] (inl e) = inl e
  In-insert order x z [] (inr m) = absurd m
  In-insert order x z (y ∷ ys) m = by (order x y) m (In-insert order x z ys)
    where
      by : (b : Bool) → In z (cond b (x ∷ y ∷ ys) (y ∷ insert_by order x ys)) → (In z (insert_by order x ys) → (z ≡ x) ⊎ In z ys) → (z ≡ x) ⊎ In z (y ∷ ys)
      by true (inl e) later = inl e
      by true (inr m) later = inr m
      by false (inl e) later = inr (inl e)
      by false (inr m) later = two (later m)
        where
          two : (z ≡ x) ⊎ In z ys → (z ≡ x) ⊎ In z (y ∷ ys)
          two (inl e) = inl e
          two (inr k) = inr (inr k)

  pub insert-In : (order : X → X → Bool) (x z : X) (ys : List X) → (z ≡ x) ⊎ In z ys → In z (insert_by order x ys)
  insert-In order x z [] (inl e) = inl e
  insert-In order x z [] (inr m) = absurd m
  insert-In order x z (y ∷ ys) m = by (order x y) m (insert-In order x z ys)
    where
      by : (b : Bool) → (z ≡ x) ⊎ In z (y ∷ ys) → ((z ≡ x) ⊎ In z ys → In z (insert_by order x ys)) → In z (cond b (x ∷ y ∷ ys) (y ∷ insert_by order x ys))
      by true (inl e) later = inl e
      by true (inr m) later = inr m
      by false (inl e) later = inr (later (inl e))
      by false (inr (inl e)) later = inl e
      by false (inr (inr m)) later = inr (later (inr m))

  pub In-insert_all : (order : X → X → Bool) (z : X) (xs ys : List X) → In z (insert_all order xs ys) → In z xs ⊎ In z ys
  In-insert_all order z [] ys m = inr m
  In-insert_all order z (x ∷ xs) ys m = by (In-insert_all order z xs (insert_by order x ys) m)
    where
      two : (z ≡ x) ⊎ In z ys → In z (x ∷ xs) ⊎ In z ys
      two (inl e) = inl (inl e)
      two (inr k) = inr k

      by : In z xs ⊎ In z (insert_by order x ys) → In z (x ∷ xs) ⊎ In z ys
      by (inl k) = inl (inr k)
      by (inr k) = two (In-insert order x z ys k)

  pub insert_all-In : (order : X → X → Bool) (z : X) (xs ys : List X) → In z xs ⊎ In z ys → In z (insert_all order xs ys)
  insert_all-In order z [] ys (inl m) = absurd m
  insert_all-In order z [] ys (inr m) = m
  insert_all-In order z (x ∷ xs) ys (inl (inl e)) = insert_all-In order z xs (insert_by order x ys) (inr (insert-In order x z ys (inl e)))
  insert_all-In order z (x ∷ xs) ys (inl (inr m)) = insert_all-In order z xs (insert_by order x ys) (inl m)
  insert_all-In order z (x ∷ xs) ys (inr m) = insert_all-In order z xs (insert_by order x ys) (inr (insert-In order x z ys (inr m)))

  -- all pass where those do that were there and the one that is put in
  pub all-insert_by : (p : X → Bool) (before : X → X → Bool) (x : X) (xs : List X) → p x ≡ true → list_all p xs ≡ true → list_all p (insert_by before x xs) ≡ true
  all-insert_by p before x [] here h = and_from (p x) true here refl
  all-insert_by p before x (y ∷ ys) here h =
      let both = and_parts (p y) (list_all p ys) h in
      elim (before x y) as (λ b. list_all p (cond b (x ∷ y ∷ ys) (y ∷ insert_by before x ys)) ≡ true) [
        | true ↦ and_from (p x) (list_all p (y ∷ ys)) here h
        | false ↦ and_from (p y) (list_all p (insert_by before x ys)) both.0 (all-insert_by p before x ys here both.1)
      ]

module _ {X : Type 0} (before : X → X → Bool) where
  -- To put an element in its place is to insert it there.
  pub insert_by-place : (x : X) (xs : List X) → insert_by before x xs ≡ insert xs (place_by (before x) xs) x
  insert_by-place x [] = refl
  insert_by-place x (y ∷ ys) =
      elim (before x y) as (λ b. cond b (x ∷ y ∷ ys) (y ∷ insert_by before x ys) ≡ insert (y ∷ ys) (cond b 0 (place_by (before x) ys + 1)) x) [
        | true ↦ refl
        | false ↦ ap (λ t. y ∷ t) (insert_by-place x ys) ∙ ap (λ k. insert (y ∷ ys) k x) (sym (add-one _))
      ]

  pub length-insert_by : (x : X) (xs : List X) → length (insert_by before x xs) ≡ length xs + 1
  length-insert_by x [] = refl
  length-insert_by x (y ∷ ys) =
      let rest = length-insert_by x ys in
      elim (before x y) as (λ b. length (cond b (x ∷ y ∷ ys) (y ∷ insert_by before x ys)) ≡ length (y ∷ ys) + 1) [
        | true ↦ omega arith
        | false ↦ omega (arith, rest)
      ]

  pub length-insert_all : (xs ys : List X) → length (insert_all before xs ys) ≡ length xs + length ys
  length-insert_all [] ys = omega arith
  length-insert_all (x ∷ xs) ys = let rest = length-insert_all xs (insert_by before x ys) in let one = length-insert_by x ys in omega (arith, rest, one)

  -- ---- the order of those that were there

  all_others : (p : X → Bool) (x : X) (xs : List X) → list_all p (insert_by before x xs) ≡ true → list_all p xs ≡ true
  all_others p x [] h = refl
  all_others p x (y ∷ ys) h =
      elim (before x y) as (λ b. list_all p (cond b (x ∷ y ∷ ys) (y ∷ insert_by before x ys)) ≡ true → list_all p (y ∷ ys) ≡ true) [
        | true ↦ λ k. (and_parts (p x) (list_all p (y ∷ ys)) k).1
        | false ↦ λ k. let both = and_parts (p y) (list_all p (insert_by before x ys)) k in and_from (p y) (list_all p ys) both.0 (all_others p x ys both.1)
      ] h

  -- a list that is in order with one more element is in order
  pub order_of_others : (x : X) (xs : List X) → each_two before (insert_by before x xs) ≡ true → each_two before xs ≡ true
  order_of_others x [] h = refl
  order_of_others x (y ∷ ys) h =
      elim (before x y) as (λ b. each_two before (cond b (x ∷ y ∷ ys) (y ∷ insert_by before x ys)) ≡ true → each_two before (y ∷ ys) ≡ true) [
        | true ↦ λ k. (and_parts (list_all (before x) (y ∷ ys)) (each_two before (y ∷ ys)) k).1
        | false ↦ λ k.
            let both = and_parts (list_all (before y) (insert_by before x ys)) (each_two before (insert_by before x ys)) k in
            and_from (list_all (before y) ys) (each_two before ys) (all_others (before y) x ys both.0) (order_of_others x ys both.1)
      ] h

  -- ... or with more of them
  pub order_of_first : (xs ys : List X) → each_two before (insert_all before xs ys) ≡ true → each_two before ys ≡ true
  order_of_first [] ys h = h
  order_of_first (x ∷ xs) ys h = order_of_others x ys (order_of_first xs (insert_by before x ys) h)
