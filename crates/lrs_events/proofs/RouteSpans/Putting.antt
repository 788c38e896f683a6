-- Rows put into a list in order, one after the other.
use Rattle.std.proofs.Common.{◌≡◌, Bool, true, false, cond, ◌⊎◌, inl, inr, List, [], ◌∷◌, refl, sym, ap, subst, ◌∙◌}
use Rattle.std.specs.Prelude.{◌||◌}
use Rattle.std.specs.List.{list_any, list_all, filter}
use Rattle.std.proofs.lemmas.Bool.{both_ways, and_parts, and_from}
use Rattle.lrs_measure.specs.Lists.{In, each_two}
use Rattle.lrs_measure.specs.OrderedLists.{insert_by, insert_all}
use Rattle.lrs_measure.proofs.Members.{all_at, all_of, In-filter}
use Rattle.lrs_measure.proofs.Insertions.{In-insert, insert-In, order_of_first}
use Rattle.lrs_events.proofs.Row.Sorted.{IsStrict}

module _ {X : Type 0} where
  module _ (before : X → X → Bool) where
    -- one of two comes first
    abbrev pub IsOneFirst : X → X → Type 0
    IsOneFirst x y = (before x y ≡ true) ⊎ (before y x ≡ true)

    pub flip : (x y : X) → IsOneFirst x y → IsOneFirst y x
    flip x y (inl h) = inr h
    flip x y (inr h) = inl h

    -- who is put into a list in order comes before or behind each
    one_first : (x : X) (ys : List X) → each_two before (insert_by before x ys) ≡ true → (y : X) → In y ys → IsOneFirst x y
    one_first x [] h y m = absurd m
    one_first x (z ∷ zs) h y m = by (before x z) h m (λ k. one_first x zs k y)
      where
        by : (b : Bool) → each_two before (cond b (x ∷ z ∷ zs) (z ∷ insert_by before x zs)) ≡ true → In y (z ∷ zs) → (each_two before (insert_by before x zs) ≡ true → In y zs → IsOneFirst x y) → IsOneFirst x y
        by true k n later = inl (all_at (before x) y (z ∷ zs) (and_parts (list_all (before x) (z ∷ zs)) (each_two before (z ∷ zs)) k).0 n)
        by false k (inl e) later =
            inr (subst (λ w. before w x ≡ true) (sym e) (all_at (before z) x (insert_by before x zs) (and_parts (list_all (before z) (insert_by before x zs)) (each_two before (insert_by before x zs)) k).0 (insert-In before x x zs (inl refl))))
        by false k (inr n) later = later (and_parts (list_all (before z) (insert_by before x zs)) (each_two before (insert_by before x zs)) k).1 n

    -- of each two of xs, and of each of xs and each of ys, one comes first
    abbrev pub AreAsunder : List X → List X → Type 0
    AreAsunder [] ys = Unit {0}
    AreAsunder (x ∷ xs) ys = ((y : X) → In y ys → IsOneFirst x y) × ((y : X) → In y xs → IsOneFirst x y) × AreAsunder xs ys

    asunder_at : (xs ys : List X) → AreAsunder xs ys → (x y : X) → In x xs → In y ys → IsOneFirst x y
    asunder_at [] ys a x y m n = absurd m
    asunder_at (z ∷ zs) ys a x y (inl e) n = subst (λ w. IsOneFirst w y) (sym e) (a.0 y n)
    asunder_at (z ∷ zs) ys a x y (inr m) n = asunder_at zs ys a.2 x y m n

    pub asunder_fewer : (xs ys zs : List X) → ((z : X) → In z zs → In z ys) → AreAsunder xs ys → AreAsunder xs zs
    asunder_fewer [] ys zs f a = tt
    asunder_fewer (x ∷ xs) ys zs f a = (λ z m. a.0 z (f z m), a.1, asunder_fewer xs ys zs f a.2)

    -- a list that is in order with others
    pub asunder : (xs ys : List X) → each_two before (insert_all before xs ys) ≡ true → AreAsunder xs ys
    asunder [] ys h = tt
    asunder (x ∷ xs) ys h =
        let rest = asunder xs (insert_by before x ys) h in (
          one_first x ys (order_of_first before xs (insert_by before x ys) h),
          λ y m. flip y x (asunder_at xs (insert_by before x ys) rest y x m (insert-In before x x ys (inl refl))),
          asunder_fewer xs (insert_by before x ys) ys (λ z m. insert-In before x z ys (inr m)) rest,
        )

    insert_kept : IsStrict before → (x : X) (ys : List X) → each_two before ys ≡ true → ((y : X) → In y ys → IsOneFirst x y) → each_two before (insert_by before x ys) ≡ true
    insert_kept o x [] h f = refl
    insert_kept o x (y ∷ ys) h f =
        let a = and_parts (list_all (before y) ys) (each_two before ys) h in
        by (before x y) refl (f y (inl refl)) a.0 (insert_kept o x ys a.1 (λ z m. f z (inr m)))
      where
        behind : before y x ≡ true → list_all (before y) ys ≡ true → (z : X) → (z ≡ x) ⊎ In z ys → before y z ≡ true
        behind k a z (inl e) = subst (λ w. before y w ≡ true) (sym e) k
        behind k a z (inr m) = all_at (before y) z ys a m

        other : before x y ≡ false → IsOneFirst x y → before y x ≡ true
        other e (inl k) = absurd (both_ways (before x y) e k)
        other e (inr k) = k

        front : before x y ≡ true → list_all (before y) ys ≡ true → (z : X) → (z ≡ y) ⊎ In z ys → before x z ≡ true
        front k a z (inl e) = subst (λ w. before x w ≡ true) (sym e) k
        front k a z (inr m) = o.through x y z k (all_at (before y) z ys a m)

        by : (b : Bool) → b ≡ before x y → IsOneFirst x y → list_all (before y) ys ≡ true → each_two before (insert_by before x ys) ≡ true → each_two before (cond b (x ∷ y ∷ ys) (y ∷ insert_by before x ys)) ≡ true
        by true e k a rest = and_from (list_all (before x) (y ∷ ys)) (each_two before (y ∷ ys)) (all_of (before x) (y ∷ ys) (front (sym e) a)) h
        by false e k a rest =
            and_from (list_all (before y) (insert_by before x ys)) (each_two before (insert_by before x ys))
            (all_of (before y) (insert_by before x ys) (λ z m. behind (other (sym e) k) a z (In-insert before x z ys m))) rest

    pub put_in_order : IsStrict before → (xs ys : List X) → AreAsunder xs ys → each_two before ys ≡ true → each_two before (insert_all before xs ys) ≡ true
    put_in_order o [] ys a h = h
    put_in_order o (x ∷ xs) ys a h = put_in_order o xs (insert_by before x ys) (more xs a.1 a.2) (insert_kept o x ys h a.0)
      where
        at : (w z : X) → IsOneFirst x w → ((y : X) → In y ys → IsOneFirst w y) → (z ≡ x) ⊎ In z ys → IsOneFirst w z
        at w z f g (inl e) = subst (λ v. IsOneFirst w v) (sym e) (flip x w f)
        at w z f g (inr m) = g z m

        more : (zs : List X) → ((y : X) → In y zs → IsOneFirst x y) → AreAsunder zs ys → AreAsunder zs (insert_by before x ys)
        more [] f b = tt
        more (w ∷ ws) f b = (λ z m. at w z (f w (inl refl)) b.0 (In-insert before x z ys m), b.1, more ws (λ y m. f y (inr m)) b.2)

  -- ... in another order
  pub asunder_by : (b c : X → X → Bool) (p : X → Bool) (xs ys : List X) → ((x y : X) → In x xs → In y xs ⊎ In y ys → IsOneFirst b x y → IsOneFirst c x y) → AreAsunder b xs ys → AreAsunder c (filter p xs) ys
  asunder_by b c p [] ys f a = tt
  asunder_by b c p (x ∷ xs) ys f a = by (p x) (asunder_by b c p xs ys (λ y z m n. f y z (inr m) (more z n)) a.2)
    where
      more : (z : X) → In z xs ⊎ In z ys → In z (x ∷ xs) ⊎ In z ys
      more z (inl m) = inl (inr m)
      more z (inr m) = inr m

      by : (t : Bool) → AreAsunder c (filter p xs) ys → AreAsunder c (cond t (x ∷ filter p xs) (filter p xs)) ys
      by true rest = (λ y m. f x y (inl refl) (inr m) (a.0 y m), λ y m. f x y (inl refl) (inl (inr (In-filter p y xs m).0)) (a.1 y (In-filter p y xs m).0), rest)
      by false rest = rest

-- ---- tests of what is in a list

or_swap : (a b c : Bool) → (a || (b || c)) ≡ (b || (a || c))
or_swap true true c = refl
or_swap true false c = refl
or_swap false b c = refl

module _ {X : Type 0} (p : X → Bool) (before : X → X → Bool) where
  any-insert_by : (x : X) (ys : List X) → list_any p (insert_by before x ys) ≡ (p x || list_any p ys)
  any-insert_by x [] = refl
  any-insert_by x (y ∷ ys) =
      elim (before x y) as (λ b. list_any p (cond b (x ∷ y ∷ ys) (y ∷ insert_by before x ys)) ≡ (p x || (p y || list_any p ys))) [
        | true ↦ refl
        | false ↦ ap (λ b. p y || b) (any-insert_by x ys) ∙ or_swap (p y) (p x) (list_any p ys)
      ]

  or_move : (a b c : Bool) → ((a || b) || c) ≡ (b || (a || c))
  or_move true true c = refl
  or_move true false c = refl
  or_move false b c = refl

  pub any-insert_all : (xs ys : List X) → list_any p (insert_all before xs ys) ≡ (list_any p ys || list_any p xs)
  any-insert_all [] ys = sym (or_none (list_any p ys))
    where
      or_none : (b : Bool) → (b || false) ≡ b
      or_none true = refl
      or_none false = refl
  any-insert_all (x ∷ xs) ys =
      any-insert_all xs (insert_by before x ys) ∙ ap (λ b. b || list_any p xs) (any-insert_by x ys) ∙ or_move (p x) (list_any p ys) (list_any p xs)
