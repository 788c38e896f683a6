-- Where an element belongs in a list that it splits.
use Rattle.std.proofs.Common.{◌≡◌, ℕ, ◌-◌, ◌<◌, ◌≤◌, Bool, true, false, cond, List, [], ◌∷◌, length, get_or, refl, sym, ap, ◌∙◌, arith, ◌⊎◌, inl, inr}
use Rattle.std.specs.Prelude.{◌||◌, not}
use Rattle.std.specs.List.{list_all}
use Rattle.std.specs.List.Sorted.{IsPartitionedBy}
use Rattle.std.proofs.lemmas.Bool.{false≢true, and_parts, and_from, cases_lt, or_right}
use Rattle.lrs_measure.specs.Lists.{each_two}
use Rattle.lrs_measure.specs.OrderedLists.{place_by, insert_by}
use Rattle.lrs_measure.proofs.Places.{two_pass}
use Rattle.lrs_measure.proofs.Insertions.{placed}
use Rattle.lrs_ordered.specs.SearchedLists.{is_parted, is_split_by}

earlier : (a b : Bool) → (not a || b) ≡ true → not b ≡ true → not a ≡ true
earlier true true h k = k
earlier true false h k = absurd (false≢true h)
earlier false b h k = refl

later : (a b : Bool) → (not a || b) ≡ true → a ≡ true → b ≡ true
later true b h k = h
later false b h k = absurd (false≢true k)

module _ {X : Type 0} where
  -- the elements that fail are a front
  pub parted : (p : X → Bool) (xs : List X) → is_parted p xs ≡ true → IsPartitionedBy (λ y. not (p y)) xs
  parted p xs h i j d le within passes = by (cases_lt i j)
    where
      by : (i < j) ⊎ (j ≤ i) → not (p (get_or xs i d)) ≡ true
      by (inl less) = earlier (p (get_or xs i d)) (p (get_or xs j d)) (two_pass (λ a b. not (p a) || p b) xs i j d h less within) passes
      by (inr more) =
          let same : j ≡ i = omega (arith, le, more) in
          ap (λ k. not (p (get_or xs k d))) (sym same) ∙ passes

  -- So is a place, if the element before it fails and the one at it passes.
  pub placed_between : (p : X → Bool) (xs : List X) (k : ℕ) → is_parted p xs ≡ true → k ≤ length xs → (0 < k → (d : X) → p (get_or xs (k - 1) d) ≡ false) → (k < length xs → (d : X) → p (get_or xs k d) ≡ true) → k ≡ place_by p xs
  placed_between p xs k h within front rear = placed p xs k within (before, after)
    where
      pass : (i j : ℕ) (d : X) → i < j → j < length xs → (not (p (get_or xs i d)) || p (get_or xs j d)) ≡ true
      pass i j d less to = two_pass (λ a b. not (p a) || p b) xs i j d h less to

      fails : (i : ℕ) (d : X) → 0 < k → i < k → (i < k - 1) ⊎ (k - 1 ≤ i) → not (p (get_or xs i d)) ≡ true
      fails i d some to (inl less) = earlier (p (get_or xs i d)) (p (get_or xs (k - 1) d)) (pass i (k - 1) d less (omega (arith, some, within))) (ap not (front some d))
      fails i d some to (inr more) =
          let same : i ≡ k - 1 = omega (arith, some, more, to) in
          ap (λ j. not (p (get_or xs j d))) same ∙ ap not (front some d)

      before : (i : ℕ) (d : X) → 0 ≤ i → i < k → not (p (get_or xs i d)) ≡ true
      before i d from to = fails i d (omega (arith, to)) to (cases_lt i (k - 1))

      passes : (i : ℕ) (d : X) → k ≤ i → i < length xs → (k < i) ⊎ (i ≤ k) → p (get_or xs i d) ≡ true
      passes i d from to (inl less) = later (p (get_or xs k d)) (p (get_or xs i d)) (pass k i d less to) (rear (omega (arith, less, to)) d)
      passes i d from to (inr more) =
          let same : i ≡ k = omega (arith, from, more) in
          ap (λ j. p (get_or xs j d)) same ∙ rear (omega (arith, from, to)) d

      after : (i : ℕ) (d : X) → k ≤ i → i < length xs → not (p (get_or xs i d)) ≡ false
      after i d from to = ap not (passes i d from to (cases_lt k i))

  later_passes : (p : X → Bool) (y : X) (ys : List X) → p y ≡ false → list_all (λ b. not (p y) || p b) ys ≡ true
  later_passes p y [] h = refl
  later_passes p y (z ∷ ys) h = and_from (not (p y) || p z) (list_all (λ b. not (p y) || p b) ys) (ap (λ b. not b || p z) h) (later_passes p y ys h)

  passing_all : (p : X → Bool) (y : X) (ys : List X) → list_all p ys ≡ true → list_all (λ b. not (p y) || p b) ys ≡ true
  passing_all p y [] h = refl
  passing_all p y (z ∷ ys) h =
      let both = and_parts (p z) (list_all p ys) h in
      and_from (not (p y) || p z) (list_all (λ b. not (p y) || p b) ys) (or_right (not (p y)) (p z) both.0) (passing_all p y ys both.1)

  -- all pass
  pub passing_split : (p : X → Bool) (ys : List X) → list_all p ys ≡ true → is_parted p ys ≡ true
  passing_split p [] h = refl
  passing_split p (y ∷ ys) h =
      let both = and_parts (p y) (list_all p ys) h in
      and_from (list_all (λ b. not (p y) || p b) ys) (is_parted p ys) (passing_all p y ys both.1) (passing_split p ys both.1)

  -- an element splits a list that is in order with it
  pub split_of_order : (before : X → X → Bool) (x : X) (xs : List X) → each_two before (insert_by before x xs) ≡ true → is_split_by before x xs ≡ true
  split_of_order before x [] h = refl
  split_of_order before x (y ∷ ys) h =
      elim (before x y) as (λ b. before x y ≡ b → each_two before (cond b (x ∷ y ∷ ys) (y ∷ insert_by before x ys)) ≡ true → is_split_by before x (y ∷ ys) ≡ true) [
        | true ↦ λ first k. passing_split (before x) (y ∷ ys) (and_parts (list_all (before x) (y ∷ ys)) (each_two before (y ∷ ys)) k).0
        | false ↦ λ first k.
            and_from (list_all (λ b. not (before x y) || before x b) ys) (is_split_by before x ys) (later_passes (before x) y ys first)
            (split_of_order before x ys (and_parts (list_all (before y) (insert_by before x ys)) (each_two before (insert_by before x ys)) k).1)
      ] refl h
