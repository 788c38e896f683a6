-- A row of a fresh number leaves the order of its list.
use Rattle.std.proofs.Common.{◌≡◌, ◌≢◌, ℕ, Bool, true, false, cond, List, [], ◌∷◌, Option, Some, None, refl, sym, ap, ◌∙◌, arith}
use Rattle.std.specs.Prelude.{◌&&◌, not, is_some, nat_lt}
use Rattle.std.specs.Option.{option_map}
use Rattle.std.specs.List.{list_all, find}
use Rattle.std.specs.Ordering.{nat_cmp, is_eq}
use Rattle.std.specs.Cmp.{unsigned_tied}
use Rattle.std.proofs.lemmas.Bool.{false≢true, and_parts, and_from, lt-ltb, ltb-true, ltb-false, eq-eqb}
use Rattle.lrs_measure.specs.Lists.{each_two}
use Rattle.lrs_measure.specs.OrderedLists.{insert_by}
use Rattle.lrs_measure.proofs.Members.{all_weaker}
use Rattle.lrs_measure.proofs.Insertions.{all-insert_by}

module _ {X : Type 0} where
  -- what is not found fails everywhere
  unfound : (p : X → Bool) (xs : List X) → find p xs ≡ None → list_all (λ x. not (p x)) xs ≡ true
  unfound p [] h = refl
  unfound p (x ∷ xs) h = by (p x) (unfound p xs) h
    where
      by : (b : Bool) → (find p xs ≡ None → list_all (λ y. not (p y)) xs ≡ true) → cond b (Some x) (find p xs) ≡ None → (not b && list_all (λ y. not (p y)) xs) ≡ true
      by true rest h = absurd (cc h)
      by false rest h = rest h

pub nothing_found : {A X : Type 0} (f : A → X) (o : Option A) (b : Bool) (found : Option X) → is_some o ≡ not b → b ≡ true → option_map f o ≡ found → found ≡ None
nothing_found f None b found none is e = sym e
nothing_found f (Some a) b found none is e = absurd (false≢true (sym (none ∙ ap not is)))

module _ {X : Type 0} (number : X → ℕ) where
  abbrev before_by : X → X → Bool
  before_by a b = nat_lt (number a) (number b)

  abbrev has : ℕ → X → Bool
  has n x = is_eq (nat_cmp (number x) n)

  other : (x y : X) → not (has (number x) y) ≡ true → number x ≢ number y
  other x y h e = absurd (false≢true (sym (ap not (unsigned_tied (number y) (number x) ∙ eq-eqb (number y) (number x) (sym e))) ∙ h))

  chain : (x y z : X) → before_by x y ≡ true → before_by y z ≡ true → before_by x z ≡ true
  chain x y z h k =
      let a = ltb-true (number x) (number y) h in
      let b = ltb-true (number y) (number z) k in
      lt-ltb (number x) (number z) (omega (arith, a, b))

  kept : (x : X) (xs : List X) → each_two before_by xs ≡ true → list_all (λ y. not (has (number x) y)) xs ≡ true → each_two before_by (insert_by before_by x xs) ≡ true
  kept x [] h fresh = refl
  kept x (y ∷ ys) h fresh =
      let two = and_parts (list_all (before_by y) ys) (each_two before_by ys) h in
      let apart = and_parts (not (has (number x) y)) (list_all (λ z. not (has (number x) z)) ys) fresh in
      by (before_by x y) refl two.0 two.1 (other x y apart.0) (kept x ys two.1 apart.1)
    where
      by : (b : Bool) → before_by x y ≡ b → list_all (before_by y) ys ≡ true → each_two before_by ys ≡ true → number x ≢ number y → each_two before_by (insert_by before_by x ys) ≡ true
          → each_two before_by (cond b (x ∷ y ∷ ys) (y ∷ insert_by before_by x ys)) ≡ true
      by true e later rest ne inner = and_from (list_all (before_by x) (y ∷ ys)) (each_two before_by (y ∷ ys))
          (and_from (before_by x y) (list_all (before_by x) ys) e (all_weaker (before_by y) (before_by x) ys (λ z. chain x y z e) later))
          (and_from (list_all (before_by y) ys) (each_two before_by ys) later rest)
      by false e later rest ne inner =
          let from = ltb-false (number x) (number y) e in
          and_from (list_all (before_by y) (insert_by before_by x ys)) (each_two before_by (insert_by before_by x ys))
          (all-insert_by (before_by y) before_by x ys (lt-ltb (number y) (number x) (omega (arith, from, ne))) later) inner

  -- Where no row of its number is found, a row leaves the order.
  pub kept_fresh : (x : X) (xs : List X) → each_two before_by xs ≡ true → find (has (number x)) xs ≡ None → each_two before_by (insert_by before_by x xs) ≡ true
  kept_fresh x xs h none = kept x xs h (unfound (has (number x)) xs none)
