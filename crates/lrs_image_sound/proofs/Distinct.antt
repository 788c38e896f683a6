-- Names of which no two are the same: a sort brings two that are side by side.
use Rattle.std.proofs.Common.{◌≡◌, ◌+◌, Bool, true, false, not, List, [], ◌∷◌, get_or, refl, sym, ap, ◌∙◌, arith, Ordering, Less, Equal, Greater, is_lt, IsPermutation}
use Rattle.std.specs.List.{list_all, IsAllAdjacentAnswer}
use Rattle.std.specs.List.Sorted.{IsSorted}
use Rattle.std.specs.Ordering.{is_eq, ordering_reverse}
use Rattle.std.specs.Cmp.{both_ways}
use Rattle.std.specs.Cmp.Lexicographic.{nat_list_cmp_total, nat_list_eq_equiv, texts_ties}
use Rattle.std.proofs.lemmas.Bool.{false≢true, and_parts, and_from}
use Rattle.lrs_measure.specs.Lists.{each_two}
use Rattle.lrs_measure.specs.Texts.{Name, name_cmp, name_before, same_name}
use Rattle.lrs_measure.proofs.Places.{two_pass}
use Rattle.lrs_image_sound.proofs.Rising.{risen, rises, lt_chain}
use Rattle.lrs_image_sound.proofs.Sweeping.{each_two-permutation}

abbrev pub differ : Name → Name → Bool
differ k l = not (same_name k l)

differ-comm : (k l : Name) → differ k l ≡ differ l k
differ-comm k l = ap not (nat_list_eq_equiv.symm k l)

module _ {X : Type 0} (p q : X → X → Bool) (f : (x y : X) → p x y ≡ true → q x y ≡ true) where
  each_weaker : (x : X) (ys : List X) → list_all (p x) ys ≡ true → list_all (q x) ys ≡ true
  each_weaker x [] h = refl
  each_weaker x (y ∷ ys) h = let both = and_parts (p x y) (list_all (p x) ys) h in and_from (q x y) (list_all (q x) ys) (f x y both.0) (each_weaker x ys both.1)

  two_weaker : (xs : List X) → each_two p xs ≡ true → each_two q xs ≡ true
  two_weaker [] h = refl
  two_weaker (x ∷ xs) h = let both = and_parts (list_all (p x) xs) (each_two p xs) h in and_from (list_all (q x) xs) (each_two q xs) (each_weaker x xs both.0) (two_weaker xs both.1)

before_differs : (k l : Name) → name_before k l ≡ true → differ k l ≡ true
before_differs k l h = by (name_cmp k l) refl
  where
    by : (o : Ordering) → name_cmp k l ≡ o → differ k l ≡ true
    by Less e = ap not (texts_ties k l ∙ ap is_eq e)
    by Equal e = absurd (false≢true (sym (ap is_lt e) ∙ h))
    by Greater e = absurd (false≢true (sym (ap is_lt e) ∙ h))

-- of two that differ, the one that is not before is behind
differ_before : (k l : Name) → name_before l k ≡ false → differ k l ≡ true → name_before k l ≡ true
differ_before k l up h = by (name_cmp k l) refl
  where
    by : (o : Ordering) → name_cmp k l ≡ o → name_before k l ≡ true
    by Less e = ap is_lt e
    by Equal e = absurd (false≢true (sym (ap not (texts_ties k l ∙ ap is_eq e)) ∙ h))
    by Greater e = absurd (false≢true (sym up ∙ ap is_lt (nat_list_cmp_total.antisymm l k ∙ ap ordering_reverse e)))

pub sorted_differ : (xs ys : List Name) (r : Bool) → IsPermutation xs ys → IsSorted name_cmp ys → IsAllAdjacentAnswer (λ x y b. b ≡ name_before x y) ys r → r ≡ each_two differ xs
sorted_differ xs ys r same sorted answer = risen name_before (lt_chain nat_list_cmp_total (λ (n : Name). n)) ys r answer ∙ both_ways (each_two name_before ys) (each_two differ ys) there back ∙ sym (each_two-permutation differ differ-comm xs ys same).0
  where
    there : each_two name_before ys ≡ true → each_two differ ys ≡ true
    there = two_weaker name_before differ before_differs ys

    back : each_two differ ys ≡ true → each_two name_before ys ≡ true
    back h = rises name_before (lt_chain nat_list_cmp_total (λ (n : Name). n)) ys (λ k d lt. differ_before (get_or ys k d) (get_or ys (k + 1) d) (sorted k d (omega arith) lt) (two_pass differ ys k (k + 1) d h (omega arith) lt))
