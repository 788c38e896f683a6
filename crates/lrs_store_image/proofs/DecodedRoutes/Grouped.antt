-- The rows of a route among rows in the order of their routes, and numbered rows in the order of their numbers.
use Rattle.std.proofs.Common.{◌≡◌, ℕ, zero, suc, ◌+◌, ◌-◌, ◌<◌, ◌≤◌, Bool, true, false, cond, not, ◌⊎◌, inl, inr, List, [], ◌∷◌, ◌++◌, filter, take, drop, length, get_or, Option, Some, None, refl, sym, ap, ◌∙◌, arith, IsPermutation}
use Rattle.std.specs.Prelude.{◌||◌, nat_eq, nat_lt}
use Rattle.std.specs.List.{list_all}
use Rattle.std.specs.List.Sorted.{IsSortedBy, IsPartitionedBy, IsPartitionPoint}
use Rattle.std.specs.Cmp.{IsStrictWeakOrder}
use Rattle.std.specs.declared.cmp.Ordering.{Ordering}
use Rattle.std.specs.declared.cmp.Ordering.TheVariants.{Less, Equal, Greater}
use Rattle.std.specs.Ordering.{is_eq, is_lt, ordering_reverse}
use Rattle.std.specs.Cmp.Lexicographic.{nat_list_cmp_total, bytes_decides, texts_ties}
use Rattle.std.proofs.lemmas.Bool.{false≢true, both_ways, and_parts, and_from, not-true, cases_lt, cases_Bool, false_from_ne_true, true_from_ne_false, eqb-true, eq-eqb, ne_eqb, lt-ltb, ltb-true, ltb-false, or_left}
use Rattle.std.proofs.lemmas.List.Sorted.{sorted_far, ranks_by, IsStrictWeakOrder-by_number, IsPermutation-refl, IsPermutation-cons, IsPermutation-trans}
use Rattle.lrs_measure.specs.Lists.{each_two}
use Rattle.lrs_measure.specs.Texts.{Name, name_cmp, same_name, name_before}
use Rattle.lrs_measure.proofs.Members.{all_weaker}
use Rattle.lrs_measure.proofs.Places.{two_pass}
use Rattle.lrs_events.proofs.LaneLists.Inserted.{IsPermutation-insert_by}
use Rattle.lrs_events.proofs.LaneLists.Ranks.{itself, before_trans}
use Rattle.lrs_image_sound.proofs.Rising.{rises}
use Rattle.lrs_image_sound.proofs.Sweeping.{each_two-permutation}
use Rattle.lrs_store_tables.specs.Contents.Decoders.{OfRoute, Numbered, number_before, sorted, counted, only_if}
use Rattle.lrs_store_tables.specs.Contents.Decoders as option
use Rattle.lrs_store_image.specs.DecodedRoutes.Groups.{route_before}
use Rattle.lrs_store_tables.proofs.Contents.Unordered.{sort_alike, sorted_in_order}

pub names_rank : IsStrictWeakOrder name_before
names_rank = ranks_by nat_list_cmp_total (λ (c : Name). c)

pub names_tell : (c d : Name) → name_before c d ≡ false → name_before d c ≡ false → same_name c d ≡ true
names_tell c d h k = by (name_cmp c d) refl
  where
    by : (o : Ordering) → o ≡ name_cmp c d → same_name c d ≡ true
    by Less e = absurd (both_ways (name_before c d) h (ap is_lt (sym e)))
    by Equal e = texts_ties c d ∙ ap is_eq (sym e)
    by Greater e = absurd (both_ways (name_before d c) k (ap is_lt (nat_list_cmp_total.antisymm d c ∙ ap ordering_reverse (sym e))))

pub routes_rank : {X : Type 0} → IsStrictWeakOrder (route_before {X = X})
routes_rank {X} = ranks_by nat_list_cmp_total (λ (r : OfRoute X). r.route)

pub numbers_rank : {X : Type 0} → IsStrictWeakOrder (number_before {X = X})
numbers_rank {X} = IsStrictWeakOrder-by_number (λ (r : Numbered X). r.n)

-- a stretch of a list that passes, where nothing else does
module _ {X : Type 0} (p : X → Bool) where
  skipped : (x : X) (xs ys : List X) → p x ≡ false → ys ≡ filter p xs → ys ≡ filter p (x ∷ xs)
  skipped x xs ys f e = e ∙ sym (ap (λ b. cond b (x ∷ filter p xs) (filter p xs)) f)

  kept : (x : X) (xs ys : List X) → p x ≡ true → ys ≡ filter p xs → x ∷ ys ≡ filter p (x ∷ xs)
  kept x xs ys f e = ap (λ l. x ∷ l) e ∙ sym (ap (λ b. cond b (x ∷ filter p xs) (filter p xs)) f)

  pub stretch : (xs : List X) (lo n : ℕ) → lo + n ≤ length xs → ((k : ℕ) (d : X) → k < lo → p (get_or xs k d) ≡ false) → ((k : ℕ) (d : X) → lo ≤ k → k < lo + n → p (get_or xs k d) ≡ true)
      → ((k : ℕ) (d : X) → lo + n ≤ k → k < length xs → p (get_or xs k d) ≡ false) → take n (drop lo xs) ≡ filter p xs
  stretch [] zero zero within f g h = refl
  stretch [] zero (suc n) within f g h = absurd (omega (arith, within))
  stretch [] (suc lo) n within f g h = absurd (omega (arith, within))
  stretch (x ∷ xs) zero zero within f g h =
      skipped x xs (take zero xs) (h 0 x (omega arith) (omega arith))
      (stretch xs zero zero (omega arith) (λ k d l. absurd (omega (arith, l))) (λ k d a l. absurd (omega (arith, l))) (λ k d a l. h (suc k) d (omega arith) (omega (arith, l))))
  stretch (x ∷ xs) zero (suc n) within f g h =
      kept x xs (take n xs) (g 0 x (omega arith) (omega arith))
      (stretch xs zero n (omega (arith, within)) (λ k d l. absurd (omega (arith, l))) (λ k d a l. g (suc k) d (omega arith) (omega (arith, l))) (λ k d a l. h (suc k) d (omega (arith, a)) (omega (arith, l))))
  stretch (x ∷ xs) (suc lo) n within f g h =
      skipped x xs (take n (drop lo xs)) (f 0 x (omega arith))
      (stretch xs lo n (omega (arith, within)) (λ k d l. f (suc k) d (omega (arith, l))) (λ k d a l. g (suc k) d (omega (arith, a)) (omega (arith, l))) (λ k d a l. h (suc k) d (omega (arith, a)) (omega (arith, l))))

module _ {X : Type 0} (rows : List (OfRoute X)) (up : IsSortedBy route_before rows) (route : Name) where
  pub parted_before : IsPartitionedBy (λ (r : OfRoute X). name_before r.route route) rows
  parted_before i j d le within passes =
      true_from_ne_false (name_before (get_or rows i d).route route) (λ f. both_ways (name_before (get_or rows j d).route route)
      (names_rank.chain (get_or rows j d).route (get_or rows i d).route route (sorted_far route_before routes_rank rows up i j d le within) f) passes)

  pub parted_up_to : IsPartitionedBy (λ (r : OfRoute X). not (name_before route r.route)) rows
  parted_up_to i j d le within passes =
      ap not (names_rank.chain route (get_or rows j d).route (get_or rows i d).route (not-true (name_before route (get_or rows j d).route) passes) (sorted_far route_before routes_rank rows up i j d le within))

  module _ (from to : ℕ) (within : to ≤ length rows) (first : IsPartitionPoint (λ (r : OfRoute X). name_before r.route route ≡ true) (λ (r : OfRoute X). name_before r.route route ≡ false) rows from)
      (last : IsPartitionPoint (λ (r : OfRoute X). not (name_before route r.route) ≡ true) (λ (r : OfRoute X). not (name_before route r.route) ≡ false) rows to) where
    abbrev is_of : OfRoute X → Bool
    is_of r = same_name r.route route

    is_after : (b : Bool) → not b ≡ false → b ≡ true
    is_after true h = refl
    is_after false h = absurd (false≢true (sym h))

    differ_before : (a b : Name) → name_before a b ≡ true → same_name a b ≡ false
    differ_before a b h = false_from_ne_true (same_name a b) (λ s. both_ways (name_before a a) (itself name_before names_rank a) (ap (name_before a) ((bytes_decides a b).0 s) ∙ h))

    differ_after : (a b : Name) → name_before b a ≡ true → same_name a b ≡ false
    differ_after a b h = false_from_ne_true (same_name a b) (λ s. both_ways (name_before b b) (itself name_before names_rank b) (ap (name_before b) (sym ((bytes_decides a b).0 s)) ∙ h))

    pub in_order : (d : OfRoute X) → from ≤ length rows → from ≤ to
    in_order d bound = by (cases_lt to from)
      where
        by : (to < from) ⊎ (from ≤ to) → from ≤ to
        by (inr h) = h
        by (inl h) =
            let inside : to < length rows = omega (arith, h, bound) in
            absurd (both_ways (name_before route (get_or rows to d).route) (names_rank.one_way (get_or rows to d).route route (first.0 to d (omega arith) h))
            (is_after (name_before route (get_or rows to d).route) (last.1 to d (omega arith) inside)))

    pub of_route : from ≤ to → take (to - from) (drop from rows) ≡ filter is_of rows
    of_route order =
        let end : from + (to - from) ≡ to = omega (arith, order) in
        stretch is_of rows from (to - from) (omega (arith, end, within))
        (λ k d l. differ_before (get_or rows k d).route route (first.0 k d (omega arith) l))
        (λ k d a l. names_tell (get_or rows k d).route route (first.1 k d a (omega (arith, end, l, within))) (not-true (name_before route (get_or rows k d).route) (last.0 k d (omega arith) (omega (arith, end, l)))))
        (λ k d a l. differ_after (get_or rows k d).route route (is_after (name_before route (get_or rows k d).route) (last.1 k d (omega (arith, end, a)) l)))

    pub of_none : from ≤ length rows → to ≤ from → [] ≡ filter is_of rows
    of_none bound past =
        stretch is_of rows to 0 (omega (arith, within))
        (λ k d l. differ_before (get_or rows k d).route route (first.0 k d (omega arith) (omega (arith, l, past))))
        (λ k d a l. absurd (omega (arith, a, l)))
        (λ k d a l. differ_after (get_or rows k d).route route (is_after (name_before route (get_or rows k d).route) (last.1 k d (omega (arith, a)) l)))

-- ---- what a sort leaves in order

module _ {X : Type 0} (before : X → X → Bool) (o : IsStrictWeakOrder before) where
  pub IsPermutation-sorted : (xs : List X) → IsPermutation xs (sorted before xs)
  IsPermutation-sorted [] = IsPermutation-refl []
  IsPermutation-sorted (x ∷ xs) =
      IsPermutation-trans (x ∷ xs) (x ∷ sorted before xs) (sorted before (x ∷ xs)) (IsPermutation-cons x xs (sorted before xs) (IsPermutation-sorted xs)) (IsPermutation-insert_by before x (sorted before xs))

  abbrev differs : X → X → Bool
  differs x y = before x y || before y x

  or-comm : (b c : Bool) → (b || c) ≡ (c || b)
  or-comm true true = refl
  or-comm true false = refl
  or-comm false true = refl
  or-comm false false = refl

  all_differ : (xs : List X) → each_two before xs ≡ true → each_two differs xs ≡ true
  all_differ [] h = refl
  all_differ (x ∷ xs) h =
      let both = and_parts (list_all (before x) xs) (each_two before xs) h in
      and_from (list_all (differs x) xs) (each_two differs xs) (all_weaker (before x) (differs x) xs (λ y k. or_left (before x y) (before y x) k) both.0) (all_differ xs both.1)

  one_first : (b c : Bool) → (b || c) ≡ true → c ≡ false → b ≡ true
  one_first true c h f = refl
  one_first false c h f = absurd (both_ways c f h)

  -- If the elements of a list that does not fall can be in a strict order, it is.
  pub sorted_strict : (ys : List X) → IsSortedBy before ys → each_two before (sorted before ys) ≡ true → each_two before ys ≡ true
  sorted_strict ys up h =
      let apart : each_two differs ys ≡ true = (each_two-permutation differs (λ a b. or-comm (before a b) (before b a)) ys (sorted before ys) (IsPermutation-sorted ys)).0 ∙ all_differ (sorted before ys) h in
      rises before (before_trans before o) ys (λ k d lt.
      one_first (before (get_or ys k d) (get_or ys (k + 1) d)) (before (get_or ys (k + 1) d) (get_or ys k d)) (two_pass differs ys k (k + 1) d apart (omega arith) lt) (up k d (omega arith) lt))

-- ---- numbers

some_alike : {A : Type 0} {a b : A} → ◌≡◌ {A = Option A} (Some a) (Some b) → a ≡ b
some_alike e = cc

module _ {X : Type 0} where
  -- the step of `counted`
  abbrev step : Bool → X → Option (List X) → Option (List X)
  step true x None = None
  step true x (Some xs) = Some (x ∷ xs)
  step false x more = None

  counted-step : (k : ℕ) (r : Numbered X) (rs : List (Numbered X)) → counted k (r ∷ rs) ≡ step (nat_eq r.n k) r.said (counted (k + 1) rs)
  counted-step k r rs = go (nat_eq r.n k) (counted (k + 1) rs)
    where
      go : (b : Bool) (more : Option (List X)) → option.◌>>=◌ (only_if b r.said) (λ x. option.◌>>=◌ more (λ xs. Some (x ∷ xs))) ≡ step b r.said more
      go true None = refl
      go true (Some xs) = refl
      go false more = refl

  stepped : (b : Bool) (x : X) (more : Option (List X)) (xs : List X) → step b x more ≡ Some xs → (b ≡ true) × ((ys : List X) × (more ≡ Some ys) × (xs ≡ x ∷ ys))
  stepped true x None xs h = absurd (cc h)
  stepped true x (Some ys) xs h = (refl, (ys, refl, sym (some_alike h)))
  stepped false x more xs h = absurd (cc h)

  -- rows that are numbered from k on are in order
  counted_from : (k : ℕ) (rs : List (Numbered X)) (xs : List X) → counted k rs ≡ Some xs → list_all (λ r. not (nat_lt r.n k)) rs ≡ true
  counted_from k [] xs h = refl
  counted_from k (r ∷ rs) xs h =
      let s = stepped (nat_eq r.n k) r.said (counted (k + 1) rs) xs (sym (counted-step k r rs) ∙ h) in
      and_from (not (nat_lt r.n k)) (list_all (λ q. not (nat_lt q.n k)) rs) (level (eqb-true r.n k s.0)) (lower rs (counted_from (k + 1) rs s.1.0 s.1.1))
    where
      level : r.n ≡ k → not (nat_lt r.n k) ≡ true
      level e = ap not (false_from_ne_true (nat_lt r.n k) (λ t. let l = ltb-true r.n k t in absurd (omega (arith, l, e))))

      lower : (qs : List (Numbered X)) → list_all (λ q. not (nat_lt q.n (k + 1))) qs ≡ true → list_all (λ q. not (nat_lt q.n k)) qs ≡ true
      lower [] t = refl
      lower (q ∷ qs) t =
          let both = and_parts (not (nat_lt q.n (k + 1))) (list_all (λ q. not (nat_lt q.n (k + 1))) qs) t in
          and_from (not (nat_lt q.n k)) (list_all (λ q. not (nat_lt q.n k)) qs)
          (ap not (false_from_ne_true (nat_lt q.n k) (λ u. let l = ltb-true q.n k u in both_ways (nat_lt q.n (k + 1)) (not-true (nat_lt q.n (k + 1)) both.0) (lt-ltb q.n (k + 1) (omega (arith, l))))))
          (lower qs both.1)

  counted_rises : (k : ℕ) (rs : List (Numbered X)) (xs : List X) → counted k rs ≡ Some xs → each_two number_before rs ≡ true
  counted_rises k [] xs h = refl
  counted_rises k (r ∷ rs) xs h =
      let s = stepped (nat_eq r.n k) r.said (counted (k + 1) rs) xs (sym (counted-step k r rs) ∙ h) in
      and_from (list_all (number_before r) rs) (each_two number_before rs) (higher (eqb-true r.n k s.0) rs (counted_from (k + 1) rs s.1.0 s.1.1)) (counted_rises (k + 1) rs s.1.0 s.1.1)
    where
      higher : r.n ≡ k → (qs : List (Numbered X)) → list_all (λ q. not (nat_lt q.n (k + 1))) qs ≡ true → list_all (number_before r) qs ≡ true
      higher e [] t = refl
      higher e (q ∷ qs) t =
          let both = and_parts (not (nat_lt q.n (k + 1))) (list_all (λ q. not (nat_lt q.n (k + 1))) qs) t in
          and_from (nat_lt r.n q.n) (list_all (number_before r) qs)
          (true_from_ne_false (nat_lt r.n q.n) (λ f. both_ways (nat_lt q.n (k + 1)) (not-true (nat_lt q.n (k + 1)) both.0) (lt-ltb q.n (k + 1) (let l = ltb-false r.n q.n f in omega (arith, l, e)))))
          (higher e qs both.1)

  -- ---- row by row

  pub counted_fails : (k i : ℕ) (rs : List (Numbered X)) (d : Numbered X) (zs : List X) → i < length rs → counted k (take i rs) ≡ Some zs → ((get_or rs i d).n ≡ k + i → ⊥) → counted k rs ≡ None
  counted_fails k i [] d zs bound h other = absurd (omega (arith, bound))
  counted_fails k zero (r ∷ rs) d zs bound h other =
      counted-step k r rs ∙ ap (λ b. step b r.said (counted (k + 1) rs)) (ne_eqb r.n k (λ e. other (omega (arith, e))))
  counted_fails k (suc i) (r ∷ rs) d zs bound h other =
      let s = stepped (nat_eq r.n k) r.said (counted (k + 1) (take i rs)) zs (sym (counted-step k r (take i rs)) ∙ h) in
      counted-step k r rs ∙ (λ j. step (s.0 j) r.said (counted_fails (k + 1) i rs d s.1.0 (omega (arith, bound)) s.1.1 (λ e. other (omega (arith, e))) j))

  pub counted_more : (k i : ℕ) (rs : List (Numbered X)) (d : Numbered X) (zs : List X) → i < length rs → counted k (take i rs) ≡ Some zs → (get_or rs i d).n ≡ k + i
      → counted k (take (suc i) rs) ≡ Some (zs ++ (get_or rs i d).said ∷ [])
  counted_more k i [] d zs bound h is = absurd (omega (arith, bound))
  counted_more k zero (r ∷ rs) d zs bound h is =
      let none : [] ≡ zs = some_alike h in
      counted-step k r [] ∙ (λ j. step (eq-eqb r.n k (omega (arith, is)) j) r.said (Some [])) ∙ ap (λ l. Some (l ++ r.said ∷ [])) none
  counted_more k (suc i) (r ∷ rs) d zs bound h is =
      let s = stepped (nat_eq r.n k) r.said (counted (k + 1) (take i rs)) zs (sym (counted-step k r (take i rs)) ∙ h) in
      counted-step k r (take (suc i) rs) ∙ (λ j. step (s.0 j) r.said (counted_more (k + 1) i rs d s.1.0 (omega (arith, bound)) s.1.1 (omega (arith, is)) j))
      ∙ ap (λ l. Some (l ++ (get_or rs i d).said ∷ [])) (sym s.1.2)

  pub counted_none : (k : ℕ) (rs : List (Numbered X)) → each_two number_before rs ≡ false → counted k rs ≡ None
  counted_none k rs f = by (counted k rs) refl
    where
      by : (o : Option (List X)) → counted k rs ≡ o → o ≡ None
      by None e = refl
      by (Some xs) e = absurd (both_ways (each_two number_before rs) f (counted_rises k rs xs e))

  -- The same rows in any order are counted alike once they are sorted.
  pub counted_alike : (k : ℕ) (xs ys : List (Numbered X)) → IsPermutation xs ys → counted k (sorted number_before xs) ≡ counted k (sorted number_before ys)
  counted_alike k xs ys same = by (sort_alike number_before numbers_rank xs ys same)
    where
      by : (sorted number_before xs ≡ sorted number_before ys) ⊎ ((each_two number_before (sorted number_before xs) ≡ false) × (each_two number_before (sorted number_before ys) ≡ false)) → counted k (sorted number_before xs) ≡ counted k (sorted number_before ys)
      by (inl e) = ap (counted k) e
      by (inr f) = counted_none k (sorted number_before xs) f.0 ∙ sym (counted_none k (sorted number_before ys) f.1)

  -- the order of a sort: no element before one in front of it; where it is strict nowhere, neither is the list that the definitions sort
  module _ (xs ys : List (Numbered X)) (same : IsPermutation xs ys) (up : IsSortedBy number_before ys) where
    pub counted_sorted : (k : ℕ) → counted k ys ≡ counted k (sorted number_before xs)
    counted_sorted k = by (cases_Bool (each_two number_before ys))
      where
        by : (each_two number_before ys ≡ true) ⊎ (each_two number_before ys ≡ false) → counted k ys ≡ counted k (sorted number_before xs)
        by (inl h) = ap (counted k) (sym (sorted_in_order number_before ys h)) ∙ sym (counted_alike k xs ys same)
        by (inr f) = counted_none k ys f ∙ sym (counted_none k (sorted number_before ys) (unsorted f)) ∙ sym (counted_alike k xs ys same)
          where
            unsorted : each_two number_before ys ≡ false → each_two number_before (sorted number_before ys) ≡ false
            unsorted f = false_from_ne_true (each_two number_before (sorted number_before ys)) (λ t. both_ways (each_two number_before ys) f (sorted_strict number_before numbers_rank ys up t))
