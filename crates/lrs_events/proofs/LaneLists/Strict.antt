-- Lists in a strict order: where an element is found in them, and that one order has one list of the same elements.
use Rattle.std.proofs.Common.{◌≡◌, ℕ, ◌+◌, ◌<◌, ◌≤◌, Bool, true, false, not, cond, ◌⊎◌, inl, inr, List, [], ◌∷◌, length, get_or, filter, count_by, remove, refl, sym, ap, subst, ◌∙◌, arith}
use Rattle.std.specs.List.{list_any, list_all}
use Rattle.std.specs.List.Sorted.{IsPartitionedBy, IsPartitionPoint, IsSortedBy}
use Rattle.std.specs.Cmp.{IsStrictWeakOrder}
use Rattle.std.proofs.lemmas.Bool.{both_ways, and_parts, cases_lt, cases_eq, cases_Bool, false_from_ne_true, not_from_false, not-true}
use Rattle.std.proofs.lemmas.List.{get_or_default}
use Rattle.std.proofs.lemmas.List.Sorted.{sorted_far}
use Rattle.lrs_measure.specs.Lists.{In, each_two}
use Rattle.lrs_measure.proofs.Members.{any_found, all_at}
use Rattle.lrs_measure.proofs.Places.{two_pass, two_places}
use Rattle.lrs_measure.proofs.Filters.{none_any, filter_others, any_only, filter_only}
use Rattle.lrs_measure.proofs.Counts.{count_cons, none_counted}
use Rattle.lrs_events.proofs.LaneLists.Ranks.{itself, before_trans}

abbrev weight : Bool → ℕ
weight b = cond b 1 0

module _ {X : Type 0} (before : X → X → Bool) (o : IsStrictWeakOrder before) where
  pub parted_before : (x : X) (xs : List X) → each_two before xs ≡ true → IsPartitionedBy (λ y. before y x) xs
  parted_before x xs h i j d le within passes = by (cases_lt i j)
    where
      by : (i < j) ⊎ (j ≤ i) → before (get_or xs i d) x ≡ true
      by (inl l) = before_trans before o (get_or xs i d) (get_or xs j d) x (two_pass before xs i j d h l within) passes
      by (inr g) = let e : j ≡ i = omega (arith, le, g) in ap (λ k. before (get_or xs k d) x) (sym e) ∙ passes

  -- x is only at the place before which the others come before it
  module _ (p : X → Bool) (x : X) (is : (y : X) → p y ≡ true → y ≡ x) (xs : List X) (k : ℕ) (h : each_two before xs ≡ true)
      (point : IsPartitionPoint (λ y. before y x ≡ true) (λ y. before y x ≡ false) xs k) where
    ahead : (j : ℕ) (d : X) → j < k → p (get_or xs j d) ≡ false
    ahead j d l = false_from_ne_true (p (get_or xs j d)) (λ m. both_ways (before x x) (itself before o x) (ap (λ y. before y x) (sym (is (get_or xs j d) m)) ∙ point.0 j d (omega arith) l))

    behind : (j : ℕ) (d : X) → k < j → j < length xs → p (get_or xs j d) ≡ false
    behind j d l within = false_from_ne_true (p (get_or xs j d)) (λ m.
        both_ways (before (get_or xs k d) x) (point.1 k d (omega arith) (omega (arith, l, within)))
        (ap (λ y. before (get_or xs k d) y) (sym (is (get_or xs j d) m)) ∙ two_pass before xs k j d h l within))

    elsewhere : (j : ℕ) (d : X) → j < length xs → (j ≡ k → ⊥) → p (get_or xs j d) ≡ false
    elsewhere j d within other = by (cases_lt j k) (cases_lt k j)
      where
        by : (j < k) ⊎ (k ≤ j) → (k < j) ⊎ (j ≤ k) → p (get_or xs j d) ≡ false
        by (inl l) w = ahead j d l
        by (inr g) (inl l) = behind j d l within
        by (inr g) (inr l) = absurd (other (omega (arith, g, l)))

    pub found_there : (d : X) → k < length xs → list_any p xs ≡ p (get_or xs k d)
    found_there d within = any_only p xs k d within elsewhere

    pub found_nowhere : length xs ≤ k → list_any p xs ≡ false
    found_nowhere past = none_any p xs (λ j e within. elsewhere j e within (λ q. omega (arith, q, within, past)))

    pub taken_there : (d : X) → k < length xs → p (get_or xs k d) ≡ true → filter (λ y. not (p y)) xs ≡ remove xs k
    taken_there d within t = filter_only p xs k d within t elsewhere

    pub left_there : (d : X) → k < length xs → p (get_or xs k d) ≡ false → filter (λ y. not (p y)) xs ≡ xs
    left_there d within f = filter_others p xs (λ j e l. by j e l (cases_eq j k))
      where
        by : (j : ℕ) (e : X) → j < length xs → (j ≡ k) ⊎ (j ≡ k → ⊥) → p (get_or xs j e) ≡ false
        by j e l (inl q) = ap (λ i. p (get_or xs i e)) q ∙ ap p (get_or_default xs k e d within) ∙ f
        by j e l (inr n) = elsewhere j e l n

    pub left_nowhere : length xs ≤ k → filter (λ y. not (p y)) xs ≡ xs
    left_nowhere past = filter_others p xs (λ j e within. elsewhere j e within (λ q. omega (arith, q, within, past)))

  -- ---- one list

  -- no element comes before one in front of it
  abbrev pub not_behind : X → X → Bool
  not_behind x y = not (before y x)

  pub sorted_two : (xs : List X) → IsSortedBy before xs → each_two not_behind xs ≡ true
  sorted_two xs up = two_places not_behind xs (λ i j d l within. not_from_false _ (sorted_far before o xs up i j d (omega (arith, l)) within))

  module _ (same : X → X → Bool) (is : (x y : X) → same x y ≡ true → x ≡ y) (own : (x : X) → same x x ≡ true) where
    -- an element that is counted among others is one of them
    counted_in : (x : X) (xs ys : List X) → count_by (same x) (x ∷ xs) ≡ count_by (same x) ys → In x ys
    counted_in x xs ys e = by (cases_Bool (list_any (same x) ys))
      where
        by : (list_any (same x) ys ≡ true) ⊎ (list_any (same x) ys ≡ false) → In x ys
        by (inl h) = let f = any_found (same x) ys h in subst (λ z. In z ys) (sym (is x f.0 f.2)) f.1
        by (inr h) =
            let none = none_counted (same x) ys h in
            let one = count_cons (same x) x xs ∙ ap (λ b. cond b 1 0 + count_by (same x) xs) (own x) in
            absurd (omega (arith, e, none, one))

    pub same_sorted : (ys zs : List X) → each_two before ys ≡ true → each_two not_behind zs ≡ true → ((p : X → Bool) → count_by p zs ≡ count_by p ys) → zs ≡ ys
    same_sorted [] [] h k c = refl
    same_sorted [] (z ∷ zs) h k c = absurd (counted_in z zs [] (c (same z)))
    same_sorted (y ∷ ys) [] h k c = absurd (counted_in y ys [] (sym (c (same y))))
    same_sorted (y ∷ ys) (z ∷ zs) h k c =
        let up = and_parts (list_all (before y) ys) (each_two before ys) h in
        let level = and_parts (list_all (not_behind z) zs) (each_two not_behind zs) k in
        let e : z ≡ y = head up.0 level.0 (counted_in z zs (y ∷ ys) (c (same z))) (counted_in y ys (z ∷ zs) (sym (c (same y)))) in
        (λ i. e i ∷ same_sorted ys zs up.1 level.1 (λ p. rest p e) i)
      where
        head : list_all (before y) ys ≡ true → list_all (not_behind z) zs ≡ true → In z (y ∷ ys) → In y (z ∷ zs) → z ≡ y
        head first least (inl e) n = e
        head first least (inr m) (inl e) = sym e
        head first least (inr m) (inr n) = absurd (both_ways (before y z) (not-true (before y z) (all_at (not_behind z) y zs least n)) (all_at (before y) z ys first m))

        rest : (p : X → Bool) → z ≡ y → count_by p zs ≡ count_by p ys
        rest p e =
            let both = sym (count_cons p z zs) ∙ c p ∙ count_cons p y ys in
            let heads = ap (λ (x : X). weight (p x)) e in
            omega (arith, both, heads)
