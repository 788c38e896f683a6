-- Where an element is first found, as its list grows.
use Rattle.std.proofs.Common.{◌≡◌, ℕ, ◌+◌, ◌<◌, ◌≤◌, suc, zero, take, Bool, true, false, cond, List, [], ◌∷◌, ◌++◌, map, length, Option, Some, None, refl, sym, ap, ◌∙◌, arith, length-append}
use Rattle.std.specs.Prelude.{slice_index_or, ◌&&◌, nat_eq, nat_lt, not}
use Rattle.std.specs.List.{position_or_len, prefix_len, position, list_all}
use Rattle.std.proofs.lemmas.Bool.{and_parts, and_from}
use Rattle.std.proofs.lemmas.Bool.Decides.{nat_tests}
use Rattle.std.proofs.lemmas.List.{length-map}
use Rattle.std.proofs.lemmas.List.Folds.{prefix_len-append}
use Rattle.std.proofs.lemmas.List.Sums.{prefix_len-le-length}
use Rattle.lrs_inventory.specs.Prelude.{each_two}

abbrev pick : ℕ → ℕ → Option ℕ
pick n len = cond (nat_lt n len) (Some n) None

none_above : (n len : ℕ) → nat_lt n len ≡ false → pick n len ≡ None
none_above n len e = ap (λ b. cond b (Some n) None) e

some_below : (n len : ℕ) → nat_lt n len ≡ true → pick n len ≡ Some n
some_below n len e = ap (λ b. cond b (Some n) None) e

module _ {X : Type 0} (p : X → Bool) where
  -- none passes so far, and the one that is pushed does
  pub position-push_found : (xs : List X) (x : X) → position p xs ≡ None → p x ≡ true → position p (xs ++ x ∷ []) ≡ Some (length xs)
  position-push_found xs x none passes =
      let grown : prefix_len (λ y. not (p y)) (xs ++ x ∷ []) ≡ length xs =
      prefix_len-append (λ y. not (p y)) xs (x ∷ []) ∙ ap (λ b. cond b (length xs + prefix_len (λ y. not (p y)) (x ∷ [])) (prefix_len (λ y. not (p y)) xs)) at_end
      ∙ ap (λ b. length xs + cond (not b) (1 + 0) 0) passes ∙ (omega arith) in
      ap (λ n. cond (nat_lt n (length (xs ++ x ∷ []))) (Some n) None) grown ∙ ap (λ b. cond b (Some (length xs)) None) longer
    where
      at_end : nat_eq (prefix_len (λ y. not (p y)) xs) (length xs) ≡ true
      at_end = by (nat_lt (position_or_len p xs) (length xs)) refl none (prefix_len-le-length (λ y. not (p y)) xs)
        where
          by : (b : Bool) → nat_lt (position_or_len p xs) (length xs) ≡ b → cond b (Some (position_or_len p xs)) None ≡ None → position_or_len p xs ≤ length xs
              → nat_eq (position_or_len p xs) (length xs) ≡ true
          by true e k l = cc
          by false e k l = grind (arith, nat_tests)

      longer : nat_lt (length xs) (length (xs ++ x ∷ [])) ≡ true
      longer = let e = length-append xs (x ∷ []) in grind (arith, nat_tests)

  pub position-push_other : (xs : List X) (x : X) → p x ≡ false → position p (xs ++ x ∷ []) ≡ position p xs
  position-push_other xs x fails =
      let old = prefix_len (λ y. not (p y)) xs in
      elim (nat_eq old (length xs)) as (λ b. nat_eq old (length xs) ≡ b → position p (xs ++ x ∷ []) ≡ position p xs) [
        | true ↦ λ e. at_end e
        | false ↦ λ e. inside e (prefix_len-le-length (λ y. not (p y)) xs)
      ] refl
    where
      at_end : nat_eq (prefix_len (λ y. not (p y)) xs) (length xs) ≡ true → position p (xs ++ x ∷ []) ≡ position p xs
      at_end e =
          let grown : prefix_len (λ y. not (p y)) (xs ++ x ∷ []) ≡ length xs + 1 =
          prefix_len-append (λ y. not (p y)) xs (x ∷ []) ∙ ap (λ b. cond b (length xs + prefix_len (λ y. not (p y)) (x ∷ [])) (prefix_len (λ y. not (p y)) xs)) e
          ∙ ap (λ b. length xs + cond (not b) (1 + 0) 0) fails in
          let longer = length-append xs (x ∷ []) in
          none_above (prefix_len (λ y. not (p y)) (xs ++ x ∷ [])) (length (xs ++ x ∷ [])) (grind (arith, nat_tests))
          ∙ sym (none_above (prefix_len (λ y. not (p y)) xs) (length xs) (grind (arith, nat_tests)))

      inside : nat_eq (prefix_len (λ y. not (p y)) xs) (length xs) ≡ false → prefix_len (λ y. not (p y)) xs ≤ length xs → position p (xs ++ x ∷ []) ≡ position p xs
      inside e l =
          let same : prefix_len (λ y. not (p y)) (xs ++ x ∷ []) ≡ prefix_len (λ y. not (p y)) xs =
          prefix_len-append (λ y. not (p y)) xs (x ∷ []) ∙ ap (λ b. cond b (length xs + prefix_len (λ y. not (p y)) (x ∷ [])) (prefix_len (λ y. not (p y)) xs)) e in
          let longer = length-append xs (x ∷ []) in
          some_below (prefix_len (λ y. not (p y)) (xs ++ x ∷ [])) (length (xs ++ x ∷ [])) (grind (arith, nat_tests)) ∙ ap Some same
          ∙ sym (some_below (prefix_len (λ y. not (p y)) xs) (length xs) (grind (arith, nat_tests)))

module _ {X : Type 0} (p : X → Bool) where
  all_in_front : (xs : List X) → list_all (λ x. not (p x)) xs ≡ true → prefix_len (λ x. not (p x)) xs ≡ length xs
  all_in_front [] h = refl
  all_in_front (x ∷ xs) h =
      let both = and_parts (not (p x)) (list_all (λ y. not (p y)) xs) h in
      ap (λ b. cond b (1 + prefix_len (λ y. not (p y)) xs) 0) both.0 ∙ ap (λ n. 1 + n) (all_in_front xs both.1) ∙ (omega arith)

  pub position-none : (xs : List X) → list_all (λ x. not (p x)) xs ≡ true → position p xs ≡ None
  position-none xs h = let e = all_in_front xs h in none_above (position_or_len p xs) (length xs) (grind (arith, nat_tests))

module _ {X : Type 0} where
  all_get : (test : X → Bool) (xs : List X) (i : ℕ) (d : X) → i < length xs → list_all test xs ≡ true → test (slice_index_or xs i d) ≡ true
  all_get test [] i d within h = absurd (omega (arith, within))
  all_get test (x ∷ xs) zero d within h = (and_parts (test x) (list_all test xs) h).0
  all_get test (x ∷ xs) (suc i) d within h = all_get test xs i d (omega (arith, within)) (and_parts (test x) (list_all test xs) h).1

  -- what is before a place passes with what is there
  pub each_before : (test : X → X → Bool) (xs : List X) (i : ℕ) (d : X) → i < length xs → each_two test xs ≡ true → list_all (λ y. test y (slice_index_or xs i d)) (take i xs) ≡ true
  each_before test [] i d within h = absurd (omega (arith, within))
  each_before test (x ∷ xs) zero d within h = refl
  each_before test (x ∷ xs) (suc i) d within h =
      let both = and_parts (list_all (test x) xs) (each_two test xs) h in
      and_from (test x (slice_index_or xs i d)) (list_all (λ y. test y (slice_index_or xs i d)) (take i xs)) (all_get (test x) xs i d (omega (arith, within)) both.0) (each_before test xs i d (omega (arith, within)) both.1)

module _ {X : Type 0} (p : X → Bool) where
  none_in_front : (xs : List X) → length xs ≤ prefix_len (λ x. not (p x)) xs → list_all (λ x. not (p x)) xs ≡ true
  none_in_front [] h = refl
  none_in_front (x ∷ xs) h =
      elim (not (p x)) as (λ b. length (x ∷ xs) ≤ cond b (1 + prefix_len (λ x. not (p x)) xs) 0 → (b && list_all (λ x. not (p x)) xs) ≡ true) [
        | true ↦ λ k. none_in_front xs (omega (arith, k))
        | false ↦ λ k. absurd (omega (arith, k))
      ] h

  pub none_passes : (xs : List X) → position p xs ≡ None → list_all (λ x. not (p x)) xs ≡ true
  none_passes xs h = none_in_front xs (at_end (nat_lt (position_or_len p xs) (length xs)) refl h)
    where
      at_end : (b : Bool) → nat_lt (position_or_len p xs) (length xs) ≡ b → cond b (Some (position_or_len p xs)) None ≡ None → length xs ≤ position_or_len p xs
      at_end true e k = cc
      at_end false e k = grind (arith, nat_tests)

-- what no element passes, and what the first to pass is
module _ {X : Type 0} (p : X → Bool) where
  pub position-fails : (xs : List X) → ((i : ℕ) (d : X) → i < length xs → p (slice_index_or xs i d) ≡ false) → position p xs ≡ None
  position-fails xs h = position-none p xs (by xs h)
    where
      by : (ys : List X) → ((i : ℕ) (d : X) → i < length ys → p (slice_index_or ys i d) ≡ false) → list_all (λ x. not (p x)) ys ≡ true
      by [] h = refl
      by (y ∷ ys) h = and_from (not (p y)) (list_all (λ x. not (p x)) ys) (ap not (h zero y (omega arith))) (by ys (λ i d within. h (suc i) d (omega (arith, within))))

  pub position-first : (xs : List X) (i : ℕ) (d : X) → i < length xs → p (slice_index_or xs i d) ≡ true → ((k : ℕ) → k < i → p (slice_index_or xs k d) ≡ false) → position p xs ≡ Some i
  position-first xs i d within passes before =
      ap (λ n. pick n (length xs)) (by xs i within passes before) ∙ some_below i (length xs) (grind (arith, nat_tests))
    where
      by : (ys : List X) (k : ℕ) → k < length ys → p (slice_index_or ys k d) ≡ true → ((j : ℕ) → j < k → p (slice_index_or ys j d) ≡ false) → prefix_len (λ x. not (p x)) ys ≡ k
      by [] k w t b = absurd (omega (arith, w))
      by (y ∷ ys) zero w t b = ap (λ t. cond (not t) (1 + prefix_len (λ x. not (p x)) ys) 0) t
      by (y ∷ ys) (suc k) w t b =
          ap (λ t. cond (not t) (1 + prefix_len (λ x. not (p x)) ys) 0) (b zero (omega arith))
          ∙ ap (λ n. 1 + n) (by ys k (omega (arith, w)) t (λ j below. b (suc j) (omega (arith, below)))) ∙ (omega arith)

module _ {X : Type 0} where
  -- of each two elements in their order the test is passed
  pub each_at : (test : X → X → Bool) (xs : List X) (i j : ℕ) (d : X) → i < j → j < length xs → each_two test xs ≡ true → test (slice_index_or xs i d) (slice_index_or xs j d) ≡ true
  each_at test [] i j d below within h = absurd (omega (arith, within))
  each_at test (x ∷ xs) i zero d below within h = absurd (omega (arith, below))
  each_at test (x ∷ xs) zero (suc j) d below within h = all_get (test x) xs j d (omega (arith, within)) (and_parts (list_all (test x) xs) (each_two test xs) h).0
  each_at test (x ∷ xs) (suc i) (suc j) d below within h = each_at test xs i j d (omega (arith, below)) (omega (arith, within)) (and_parts (list_all (test x) xs) (each_two test xs) h).1

-- in what is made of the elements
module _ {X Y : Type 0} (f : X → Y) (p : Y → Bool) where
  prefix_len-map : (xs : List X) → prefix_len (λ y. not (p y)) (map f xs) ≡ prefix_len (λ x. not (p (f x))) xs
  prefix_len-map [] = refl
  prefix_len-map (x ∷ xs) = ap (λ n. cond (not (p (f x))) (1 + n) 0) (prefix_len-map xs)

  pub position-map : (xs : List X) → position p (map f xs) ≡ position (λ x. p (f x)) xs
  position-map xs = λ j. cond (nat_lt (prefix_len-map xs j) (length-map xs f j)) (Some (prefix_len-map xs j)) None
