-- Two lists in one order that have the same members are one list.
use Rattle.std.proofs.Common.{◌≡◌, Bool, true, inl, inr, List, [], ◌∷◌, refl, sym, ap₂, subst, ◌∙◌}
use Rattle.std.specs.List.{list_all}
use Rattle.std.proofs.lemmas.Bool.{and_parts}
use Rattle.lrs_measure.specs.Lists.{In, each_two}
use Rattle.lrs_measure.proofs.Members.{all_at}

module _ {A : Type 0} (before : A → A → Bool) (one_way : (x y : A) → before x y ≡ true → before y x ≡ true → ⊥) where
  first_same : (x y : A) (xs ys : List A) → list_all (before x) xs ≡ true → list_all (before y) ys ≡ true → In x (y ∷ ys) → In y (x ∷ xs) → x ≡ y
  first_same x y xs ys h k (inl e) n = e
  first_same x y xs ys h k (inr m) (inl e) = sym e
  first_same x y xs ys h k (inr m) (inr n) = absurd (one_way x y (all_at (before x) y xs h n) (all_at (before y) x ys k m))

  -- a member behind the first of one list is behind the first of the other
  behind : (x y z : A) (xs ys : List A) → x ≡ y → list_all (before x) xs ≡ true → In z xs → In z (y ∷ ys) → In z ys
  behind x y z xs ys e h m (inr n) = n
  behind x y z xs ys e h m (inl f) = let itself = subst (λ w. before x w ≡ true) (f ∙ sym e) (all_at (before x) z xs h m) in absurd (one_way x x itself itself)

  pub one_list : (xs ys : List A) → each_two before xs ≡ true → each_two before ys ≡ true → ((z : A) → In z xs → In z ys) → ((z : A) → In z ys → In z xs) → xs ≡ ys
  one_list [] [] h k to back = refl
  one_list [] (y ∷ ys) h k to back = absurd (back y (inl refl))
  one_list (x ∷ xs) [] h k to back = absurd (to x (inl refl))
  one_list (x ∷ xs) (y ∷ ys) h k to back =
      let up = and_parts (list_all (before x) xs) (each_two before xs) h in
      let also = and_parts (list_all (before y) ys) (each_two before ys) k in
      let e = first_same x y xs ys up.0 also.0 (to x (inl refl)) (back y (inl refl)) in
      ap₂ (λ z zs. z ∷ zs) e
      (one_list xs ys up.1 also.1 (λ z m. behind x y z xs ys e up.0 m (to z (inr m))) (λ z m. behind y x z ys xs (sym e) also.0 m (back z (inr m))))
