-- The members of a list, and what tests of the whole list say of them.
use Rattle.std.proofs.Common.{◌≡◌, ℕ, ◌+◌, ◌<◌, ◌≤◌, zero, suc, Bool, true, false, cond, not, ◌⊎◌, inl, inr, List, [], ◌∷◌, ◌++◌, map, length, take, drop, refl, sym, ap, subst, ◌∙◌, arith}
use Rattle.std.specs.Prelude.{◌||◌, ◌&&◌}
use Rattle.std.specs.List.{list_any, list_all, filter, flat_map, range_with_len}
use Rattle.std.proofs.lemmas.Bool.{false≢true, both_ways, and_parts, and_from, or_cases, or_left, or_right, cases_order}
use Rattle.std.proofs.lemmas.List.Folds.{list_any-append, list_all-append}
use Rattle.lrs_measure.specs.Lists.{In, each_two}

module _ {X : Type 0} where
  -- where some member passes, there is one that does
  pub any_found : (p : X → Bool) (xs : List X) → list_any p xs ≡ true → (x : X) × In x xs × (p x ≡ true)
  any_found p [] h = absurd (false≢true h)
  any_found p (x ∷ xs) h = either (or_cases _ _ h) (any_found p xs)
    where
      either : (p x ≡ true) ⊎ (list_any p xs ≡ true) → (list_any p xs ≡ true → (y : X) × In y xs × (p y ≡ true)) → (y : X) × In y (x ∷ xs) × (p y ≡ true)
      either (inl here) later = (x, inl refl, here)
      either (inr there) later = let found = later there in (found.0, inr found.1, found.2)

  -- a member that passes
  pub any_of : (p : X → Bool) (x : X) (xs : List X) → In x xs → p x ≡ true → list_any p xs ≡ true
  any_of p x [] m h = absurd m
  any_of p x (y ∷ ys) (inl e) h = or_left _ _ (ap p (sym e) ∙ h)
  any_of p x (y ∷ ys) (inr m) h = or_right _ _ (any_of p x ys m h)

  -- each member passes where all do
  pub all_at : (p : X → Bool) (x : X) (xs : List X) → list_all p xs ≡ true → In x xs → p x ≡ true
  all_at p x [] h m = absurd m
  all_at p x (y ∷ ys) h (inl e) = ap p e ∙ (and_parts _ _ h).0
  all_at p x (y ∷ ys) h (inr m) = all_at p x ys (and_parts _ _ h).1 m

  -- all pass where each member does
  pub all_of : (p : X → Bool) (xs : List X) → ((x : X) → In x xs → p x ≡ true) → list_all p xs ≡ true
  all_of p [] h = refl
  all_of p (x ∷ xs) h = and_from (p x) (list_all p xs) (h x (inl refl)) (all_of p xs (λ y m. h y (inr m)))

  -- what passes a test passes a weaker one
  pub all_weaker : (p q : X → Bool) (xs : List X) → ((x : X) → p x ≡ true → q x ≡ true) → list_all p xs ≡ true → list_all q xs ≡ true
  all_weaker p q xs w h = all_of q xs (λ x m. w x (all_at p x xs h m))

  -- all pass where none fails
  pub not_any : (p : X → Bool) (xs : List X) → list_all p xs ≡ not (list_any (λ x. not (p x)) xs)
  not_any p [] = refl
  not_any p (x ∷ xs) = by (p x) (not_any p xs)
    where
      by : (b : Bool) → list_all p xs ≡ not (list_any (λ y. not (p y)) xs) → (b && list_all p xs) ≡ not (not b || list_any (λ y. not (p y)) xs)
      by true more = more
      by false more = refl

  -- two members are one, or pass the test of each two in their order
  pub two_at : (test : X → X → Bool) (x y : X) (xs : List X) → each_two test xs ≡ true → In x xs → In y xs → (x ≡ y) ⊎ ((test x y ≡ true) ⊎ (test y x ≡ true))
  two_at test x y [] h m n = absurd m
  two_at test x y (z ∷ zs) h (inl e) (inl f) = inl (e ∙ sym f)
  two_at test x y (z ∷ zs) h (inl e) (inr n) = inr (inl (ap (λ w. test w y) e ∙ all_at (test z) y zs (and_parts _ _ h).0 n))
  two_at test x y (z ∷ zs) h (inr m) (inl f) = inr (inr (ap (λ w. test w x) f ∙ all_at (test z) x zs (and_parts _ _ h).0 m))
  two_at test x y (z ∷ zs) h (inr m) (inr n) = two_at test x y zs (and_parts _ _ h).1 m n

  -- ---- a list by its parts

  pub In-append_left : (x : X) (xs ys : List X) → In x xs → In x (xs ++ ys)
  In-append_left x [] ys m = absurd m
  In-append_left x (z ∷ zs) ys (inl e) = inl e
  In-append_left x (z ∷ zs) ys (inr m) = inr (In-append_left x zs ys m)

  pub In-append_right : (x : X) (xs ys : List X) → In x ys → In x (xs ++ ys)
  In-append_right x [] ys m = m
  In-append_right x (z ∷ zs) ys m = inr (In-append_right x zs ys m)

  pub In-append_cases : (x : X) (xs ys : List X) → In x (xs ++ ys) → In x xs ⊎ In x ys
  In-append_cases x [] ys m = inr m
  In-append_cases x (z ∷ zs) ys (inl e) = inl (inl e)
  In-append_cases x (z ∷ zs) ys (inr m) = later (In-append_cases x zs ys m)
    where
      later : In x zs ⊎ In x ys → In x (z ∷ zs) ⊎ In x ys
      later (inl k) = inl (inr k)
      later (inr k) = inr k

  -- what is taken or what is left are members
  pub In-take : (x : X) (n : ℕ) (xs : List X) → In x (take n xs) → In x xs
  In-take x zero xs m = absurd m
  In-take x (suc n) [] m = absurd m
  In-take x (suc n) (y ∷ ys) (inl e) = inl e
  In-take x (suc n) (y ∷ ys) (inr m) = inr (In-take x n ys m)

  pub In-drop : (x : X) (n : ℕ) (xs : List X) → In x (drop n xs) → In x xs
  In-drop x zero xs m = m
  In-drop x (suc n) [] m = absurd m
  In-drop x (suc n) (y ∷ ys) m = inr (In-drop x n ys m)

  -- what is taken of a shorter front is in the longer
  pub In-shorter : (x : X) (m n : ℕ) (xs : List X) → m ≤ n → In x (take m xs) → In x (take n xs)
  In-shorter x zero n xs h k = absurd k
  In-shorter x (suc m) n [] h k = absurd k
  In-shorter x (suc m) zero (y ∷ ys) h k = absurd (omega (arith, h))
  In-shorter x (suc m) (suc n) (y ∷ ys) h (inl e) = inl e
  In-shorter x (suc m) (suc n) (y ∷ ys) h (inr k) = inr (In-shorter x m n ys (omega (arith, h)) k)

  -- a member stands between two parts
  pub split_at : (x : X) (xs : List X) → In x xs → (front : List X) × (rear : List X) × (xs ≡ front ++ (x ∷ rear))
  split_at x [] m = absurd m
  split_at x (y ∷ ys) (inl e) = ([], ys, λ i. sym e i ∷ ys)
  split_at x (y ∷ ys) (inr m) = let s = split_at x ys m in (y ∷ s.0, s.1, ap (λ zs. y ∷ zs) s.2)

  -- where one is taken out, the others stay
  pub In-without : (x y : X) (front rear : List X) → In x (front ++ (y ∷ rear)) → (x ≡ y) ⊎ In x (front ++ rear)
  In-without x y [] rear (inl e) = inl e
  In-without x y [] rear (inr m) = inr m
  In-without x y (z ∷ front) rear (inl e) = inr (inl e)
  In-without x y (z ∷ front) rear (inr m) = later (In-without x y front rear m)
    where
      later : (x ≡ y) ⊎ In x (front ++ rear) → (x ≡ y) ⊎ In x (z ∷ (front ++ rear))
      later (inl e) = inl e
      later (inr k) = inr (inr k)

  pub length-without : (y : X) (front rear : List X) → length (front ++ (y ∷ rear)) ≡ length (front ++ rear) + 1
  length-without y [] rear = omega arith
  length-without y (z ∷ front) rear = let e = length-without y front rear in omega (arith, e)

  -- ---- those that pass a test

  pub In-filter : (p : X → Bool) (x : X) (xs : List X) → In x (filter p xs) → In x xs × (p x ≡ true)
  In-filter p x [] m = absurd m
  In-filter p x (y ∷ ys) m = by (p y) refl m (In-filter p x ys)
    where
      by : (b : Bool) → b ≡ p y → In x (cond b (y ∷ filter p ys) (filter p ys)) → (In x (filter p ys) → In x ys × (p x ≡ true)) → In x (y ∷ ys) × (p x ≡ true)
      by true e (inl q) later = (inl q, ap p q ∙ sym e)
      by true e (inr k) later = let t = later k in (inr t.0, t.1)
      by false e k later = let t = later k in (inr t.0, t.1)

  pub filter-In : (p : X → Bool) (x : X) (xs : List X) → In x xs → p x ≡ true → In x (filter p xs)
  filter-In p x [] m h = absurd m
  filter-In p x (y ∷ ys) m h = by (p y) refl m (λ k. filter-In p x ys k h)
    where
      by : (b : Bool) → b ≡ p y → In x (y ∷ ys) → (In x ys → In x (filter p ys)) → In x (cond b (y ∷ filter p ys) (filter p ys))
      by true e (inl q) later = inl q
      by true e (inr k) later = inr (later k)
      by false e (inl q) later = absurd (both_ways (p y) (sym e) (ap p (sym q) ∙ h))
      by false e (inr k) later = later k

-- the numbers of a range
pub In-range_with_len : (k a n : ℕ) → a ≤ k → k < a + n → In k (range_with_len a n)
In-range_with_len k a zero low high = absurd (omega arith)
In-range_with_len k a (suc n) low high = by (cases_order a k) (λ above. In-range_with_len k (a + 1) n (omega arith) (omega arith))
  where
    by : (a ≡ k) ⊎ ((a < k) ⊎ (k < a)) → (a < k → In k (range_with_len (a + 1) n)) → In k (range_with_len a (suc n))
    by (inl e) later = inl (sym e)
    by (inr (inl above)) later = inr (later above)
    by (inr (inr below)) later = absurd (omega arith)

module _ {X Y : Type 0} where
  pub In-map : (f : X → Y) (x : X) (xs : List X) → In x xs → In (f x) (map f xs)
  In-map f x [] m = absurd m
  In-map f x (z ∷ zs) (inl e) = inl (ap f e)
  In-map f x (z ∷ zs) (inr m) = inr (In-map f x zs m)

  -- what is in a mapped list comes from a member
  pub map_found : (f : X → Y) (y : Y) (xs : List X) → In y (map f xs) → (x : X) × In x xs × (y ≡ f x)
  map_found f y [] m = absurd m
  map_found f y (z ∷ zs) (inl e) = (z, inl refl, e)
  map_found f y (z ∷ zs) (inr m) = let found = map_found f y zs m in (found.0, inr found.1, found.2)

  -- a test of mapped members is a test of the members
  pub list_any-map : (p : Y → Bool) (f : X → Y) (xs : List X) → list_any p (map f xs) ≡ list_any (λ x. p (f x)) xs
  list_any-map p f [] = refl
  list_any-map p f (x ∷ xs) = ap (λ b. p (f x) || b) (list_any-map p f xs)

  pub In-flat_map : (f : X → List Y) (x : X) (y : Y) (xs : List X) → In x xs → In y (f x) → In y (flat_map f xs)
  In-flat_map f x y [] m n = absurd m
  In-flat_map f x y (z ∷ zs) (inl e) n = In-append_left y (f z) (flat_map f zs) (subst (λ w. In y (f w)) e n)
  In-flat_map f x y (z ∷ zs) (inr m) n = In-append_right y (f z) (flat_map f zs) (In-flat_map f x y zs m n)

  -- what is given is given by a member
  pub flat_map_found : (f : X → List Y) (y : Y) (xs : List X) → In y (flat_map f xs) → (x : X) × In x xs × In y (f x)
  flat_map_found f y [] m = absurd m
  flat_map_found f y (z ∷ zs) m = by (In-append_cases y (f z) (flat_map f zs) m) (flat_map_found f y zs)
    where
      by : In y (f z) ⊎ In y (flat_map f zs) → (In y (flat_map f zs) → (x : X) × In x zs × In y (f x)) → (x : X) × In x (z ∷ zs) × In y (f x)
      by (inl k) later = (z, inl refl, k)
      by (inr k) later = let found = later k in (found.0, inr found.1, found.2)

  -- what passes among what one member gives passes among what all give
  pub any_given : (p : Y → Bool) (f : X → List Y) (x : X) (xs : List X) → In x xs → list_any p (f x) ≡ true → list_any p (flat_map f xs) ≡ true
  any_given p f x [] m h = absurd m
  any_given p f x (y ∷ ys) (inl e) h = list_any-append p (f y) (flat_map f ys) ∙ or_left _ _ (ap (λ z. list_any p (f z)) (sym e) ∙ h)
  any_given p f x (y ∷ ys) (inr m) h = list_any-append p (f y) (flat_map f ys) ∙ or_right _ _ (any_given p f x ys m h)

  -- what all members give passes
  pub all_given : (p : Y → Bool) (f : X → List Y) (xs : List X) → ((x : X) → list_all p (f x) ≡ true) → list_all p (flat_map f xs) ≡ true
  all_given p f [] h = refl
  all_given p f (x ∷ xs) h = list_all-append p (f x) (flat_map f xs) ∙ (λ i. h x i && all_given p f xs h i)
