-- Lists in a strict order.
use Rattle.std.proofs.Common.{◌≡◌, Bool, true, false, cond, ◌⊎◌, inl, inr, List, [], ◌∷◌, refl, sym, subst, ◌∙◌}
use Rattle.std.specs.List.{list_all}
use Rattle.std.proofs.lemmas.Bool.{both_ways, and_parts, and_from}
use Rattle.lrs_measure.specs.Lists.{In, each_two}
use Rattle.lrs_measure.specs.OrderedLists.{insert_by, insert_all}
use Rattle.lrs_measure.proofs.Members.{all_at, all_of, two_at}
use Rattle.lrs_measure.proofs.Insertions.{In-insert, insert-In}

-- what stands in a strict order
pub record IsStrict {X : Type 0} (before : X → X → Bool) : Type 0 where
  pub never_both : (x y : X) → before x y ≡ true → before y x ≡ true → ⊥
  pub through : (x y z : X) → before x y ≡ true → before y z ≡ true → before x z ≡ true

module _ {X : Type 0} where
  module _ (before : X → X → Bool) (o : IsStrict before) where
    -- what is in order is determined by its members
    pub one_list : (xs ys : List X) → each_two before xs ≡ true → each_two before ys ≡ true → ((x : X) → In x xs → In x ys) → ((x : X) → In x ys → In x xs) → xs ≡ ys
    one_list [] [] h k f g = refl
    one_list [] (y ∷ ys) h k f g = absurd (g y (inl refl))
    one_list (x ∷ xs) [] h k f g = absurd (f x (inl refl))
    one_list (x ∷ xs) (y ∷ ys) h k f g =
        let a = and_parts (list_all (before x) xs) (each_two before xs) h in
        let b = and_parts (list_all (before y) ys) (each_two before ys) k in
        let e = heads a.0 b.0 (f x (inl refl)) (g y (inl refl)) in
        let rest = one_list xs ys a.1 b.1 (λ z m. there z y ys (f z (inr m)) (λ q. twice z a.0 m (q ∙ sym e))) (λ z m. there z x xs (g z (inr m)) (λ q. twice_too z b.0 m (q ∙ e))) in
        λ i. e i ∷ rest i
      where
        heads : list_all (before x) xs ≡ true → list_all (before y) ys ≡ true → (x ≡ y) ⊎ In x ys → (y ≡ x) ⊎ In y xs → x ≡ y
        heads a b (inl e) n = e
        heads a b (inr m) (inl e) = sym e
        heads a b (inr m) (inr n) = absurd (o.never_both x y (all_at (before x) y xs a n) (all_at (before y) x ys b m))

        twice : (z : X) → list_all (before x) xs ≡ true → In z xs → z ≡ x → ⊥
        twice z a m e = let q = subst (λ w. before x w ≡ true) e (all_at (before x) z xs a m) in o.never_both x x q q

        twice_too : (z : X) → list_all (before y) ys ≡ true → In z ys → z ≡ y → ⊥
        twice_too z a m e = let q = subst (λ w. before y w ≡ true) e (all_at (before y) z ys a m) in o.never_both y y q q

        there : (z w : X) (ws : List X) → (z ≡ w) ⊎ In z ws → (z ≡ w → ⊥) → In z ws
        there z w ws (inl e) n = absurd (n e)
        there z w ws (inr m) n = m

    insert_kept : (x : X) (ys : List X) → each_two before ys ≡ true → ((y : X) → In y ys → (before x y ≡ true) ⊎ (before y x ≡ true)) → each_two before (insert_by before x ys) ≡ true
    insert_kept x [] h f = refl
    insert_kept x (y ∷ ys) h f =
        let a = and_parts (list_all (before y) ys) (each_two before ys) h in
        by (before x y) refl (f y (inl refl)) a.0 (insert_kept x ys a.1 (λ z m. f z (inr m)))
      where
        behind : before y x ≡ true → list_all (before y) ys ≡ true → (z : X) → (z ≡ x) ⊎ In z ys → before y z ≡ true
        behind k a z (inl e) = subst (λ w. before y w ≡ true) (sym e) k
        behind k a z (inr m) = all_at (before y) z ys a m

        other : before x y ≡ false → (before x y ≡ true) ⊎ (before y x ≡ true) → before y x ≡ true
        other e (inl k) = absurd (both_ways (before x y) e k)
        other e (inr k) = k

        front : before x y ≡ true → list_all (before y) ys ≡ true → (z : X) → (z ≡ y) ⊎ In z ys → before x z ≡ true
        front k a z (inl e) = subst (λ w. before x w ≡ true) (sym e) k
        front k a z (inr m) = o.through x y z k (all_at (before y) z ys a m)

        by : (b : Bool) → b ≡ before x y → (before x y ≡ true) ⊎ (before y x ≡ true) → list_all (before y) ys ≡ true → each_two before (insert_by before x ys) ≡ true → each_two before (cond b (x ∷ y ∷ ys) (y ∷ insert_by before x ys)) ≡ true
        by true e k a rest = and_from (list_all (before x) (y ∷ ys)) (each_two before (y ∷ ys)) (all_of (before x) (y ∷ ys) (front (sym e) a)) h
        by false e k a rest =
            and_from (list_all (before y) (insert_by before x ys)) (each_two before (insert_by before x ys))
            (all_of (before y) (insert_by before x ys) (λ z m. behind (other (sym e) k) a z (In-insert before x z ys m))) rest

    -- members of a list in order, with others of it
    pub record ArePut (xs ys zs : List X) : Type 0 where
      pub in_order : each_two before zs ≡ true
      pub from : (z : X) → In z zs → In z xs ⊎ In z ys
      pub to : (z : X) → In z xs ⊎ In z ys → In z zs

    pub put_all : (all xs ys : List X) → each_two before all ≡ true → each_two before xs ≡ true → each_two before ys ≡ true
        → ((x : X) → In x xs → In x all) → ((y : X) → In y ys → In y all) → ((x : X) → In x xs → In x ys → ⊥) → ArePut xs ys (insert_all before xs ys)
    put_all all [] ys h k l f g n = record { in_order = l; from = λ z m. inr m; to = λ z m. only z m }
      where
        only : (z : X) → In z [] ⊎ In z ys → In z ys
        only z (inl m) = absurd m
        only z (inr m) = m
    put_all all (x ∷ xs) ys h k l f g n =
        let a = and_parts (list_all (before x) xs) (each_two before xs) k in
        let rest = put_all all xs (insert_by before x ys) h a.1 (insert_kept x ys l (λ y m. apart y m (two_at before x y all h (f x (inl refl)) (g y m))))
        (λ z m. f z (inr m)) (λ z m. there z (In-insert before x z ys m)) (λ z m q. fresh z a.0 m (In-insert before x z ys q)) in
        record {
          in_order = rest.in_order;
          from = λ z m. back z (rest.from z m);
          to = λ z m. rest.to z (forth z m);
        }
      where
        apart : (y : X) → In y ys → (x ≡ y) ⊎ ((before x y ≡ true) ⊎ (before y x ≡ true)) → (before x y ≡ true) ⊎ (before y x ≡ true)
        apart y m (inl e) = absurd (n x (inl refl) (subst (λ w. In w ys) (sym e) m))
        apart y m (inr q) = q

        there : (z : X) → (z ≡ x) ⊎ In z ys → In z all
        there z (inl e) = subst (λ w. In w all) (sym e) (f x (inl refl))
        there z (inr m) = g z m

        fresh : (z : X) → list_all (before x) xs ≡ true → In z xs → (z ≡ x) ⊎ In z ys → ⊥
        fresh z a m (inl e) = let q = subst (λ w. before x w ≡ true) e (all_at (before x) z xs a m) in o.never_both x x q q
        fresh z a m (inr q) = n z (inr m) q

        back : (z : X) → In z xs ⊎ In z (insert_by before x ys) → In z (x ∷ xs) ⊎ In z ys
        back z (inl m) = inl (inr m)
        back z (inr m) = two (In-insert before x z ys m)
          where
            two : (z ≡ x) ⊎ In z ys → In z (x ∷ xs) ⊎ In z ys
            two (inl e) = inl (inl e)
            two (inr q) = inr q

        forth : (z : X) → In z (x ∷ xs) ⊎ In z ys → In z xs ⊎ In z (insert_by before x ys)
        forth z (inl (inl e)) = inr (insert-In before x z ys (inl e))
        forth z (inl (inr m)) = inl m
        forth z (inr m) = inr (insert-In before x z ys (inr m))
