-- Rows whose neighbours are in order are in order.
use Rattle.std.proofs.Common.{◌≡◌, ℕ, ◌+◌, ◌<◌, suc, Bool, true, false, ◌&&◌, List, [], ◌∷◌, length, get_or, refl, sym, ap, ◌∙◌, arith, Ordering, Less, Equal, Greater, is_lt}
use Rattle.std.specs.Prelude.{nat_lt}
use Rattle.std.specs.List.{list_all, IsAllAdjacentAnswer}
use Rattle.std.specs.Cmp.{IsTotalOrder}
use Rattle.std.proofs.lemmas.Bool.{false≢true, and_parts, and_from, false_from_ne_true, ltb-true, lt-ltb}
use Rattle.lrs_measure.specs.Lists.{each_two}
use Rattle.lrs_measure.proofs.Places.{two_pass}

module _ {X : Type 0} (test : X → X → Bool) (trans : (x y z : X) → test x y ≡ true → test y z ≡ true → test x z ≡ true) where
  below : (x y : X) (zs : List X) → test x y ≡ true → list_all (test y) zs ≡ true → list_all (test x) zs ≡ true
  below x y [] h k = refl
  below x y (z ∷ zs) h k =
      let both = and_parts (test y z) (list_all (test y) zs) k in
      and_from (test x z) (list_all (test x) zs) (trans x y z h both.0) (below x y zs h both.1)

  pub rises : (xs : List X) → ((k : ℕ) (d : X) → k + 1 < length xs → test (get_or xs k d) (get_or xs (k + 1) d) ≡ true) → each_two test xs ≡ true
  rises [] h = refl
  rises (x ∷ []) h = refl
  rises (x ∷ y ∷ ys) h =
      let more = rises (y ∷ ys) (λ k d lt. rw Rattle.std.proofs.Common.add-one (rw Rattle.std.proofs.Common.add-one at (h (suc k) d (omega (arith, lt))))) in
      let first : test x y ≡ true = h 0 x (omega arith) in
      and_from (list_all (test x) (y ∷ ys)) (each_two test (y ∷ ys))
      (and_from (test x y) (list_all (test x) ys) first (below x y ys first (and_parts (list_all (test y) ys) (each_two test ys) more).0)) more

  pub risen : (xs : List X) (r : Bool) → IsAllAdjacentAnswer (λ x y b. b ≡ test x y) xs r → r ≡ each_two test xs
  risen xs true h = sym (rises xs (λ k e lt. sym (h k e lt)))
  risen [] false h = absurd (omega (arith, h.1))
  risen (x ∷ xs) false h =
      sym (false_from_ne_true (each_two test (x ∷ xs)) (λ t. false≢true (h.2 x ∙ two_pass test (x ∷ xs) h.0 (h.0 + 1) x t (omega arith) h.1)))

-- ---- by numbers

module _ {X : Type 0} (key : X → ℕ) where
  pub less_chain : (x y z : X) → nat_lt (key x) (key y) ≡ true → nat_lt (key y) (key z) ≡ true → nat_lt (key x) (key z) ≡ true
  less_chain x y z h k = let a = ltb-true (key x) (key y) h in let b = ltb-true (key y) (key z) k in lt-ltb (key x) (key z) (omega (arith, a, b))

-- ---- by any order

module _ {K X : Type 0} {R : K → K → Ordering} (total : IsTotalOrder R) (key : X → K) where
  is_less : (o : Ordering) → is_lt o ≡ true → o ≡ Less
  is_less Less h = refl
  is_less Equal h = absurd (false≢true h)
  is_less Greater h = absurd (false≢true h)

  pub lt_chain : (x y z : X) → is_lt (R (key x) (key y)) ≡ true → is_lt (R (key y) (key z)) ≡ true → is_lt (R (key x) (key z)) ≡ true
  lt_chain x y z h k = ap is_lt (total.trans (key x) (key y) (key z) (is_less (R (key x) (key y)) h) (is_less (R (key y) (key z)) k))
