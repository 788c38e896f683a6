-- Lists in order with one more element, and tests of them.
use Rattle.std.proofs.Common.{◌≡◌, Bool, true, false, cond, ◌⊎◌, inl, inr, List, [], ◌∷◌, ◌++◌, map, Option, Some, None, refl, sym, ap, ◌∙◌}
use Rattle.std.specs.Prelude.{◌||◌, ◌&&◌}
use Rattle.std.specs.List.{list_any, list_all, flat_map, find}
use Rattle.std.specs.declared.cmp.Ordering.{Ordering}
use Rattle.std.specs.declared.cmp.Ordering.TheVariants.{Less, Equal, Greater}
use Rattle.std.specs.Ordering.{is_lt, is_eq, eq_by_cmp, ordering_reverse}
use Rattle.std.specs.Cmp.{IsTotalOrder}
use Rattle.std.proofs.lemmas.Bool.{false≢true, both_ways, and_parts, and_from, or_cases, or_left, or_right, or_parts}
use Rattle.std.proofs.lemmas.List.Folds.{list_all-map}
use Rattle.lrs_measure.specs.Lists.{each_two}
use Rattle.lrs_measure.specs.OrderedLists.{insert_by}
use Rattle.lrs_measure.proofs.Members.{all_weaker}
use Rattle.lrs_measure.proofs.Insertions.{all-insert_by}

pub is_false : (b : Bool) → (b ≡ true → ⊥) → b ≡ false
is_false true h = absurd (h refl)
is_false false h = refl

pub and_weaker : (a b c d : Bool) → (a ≡ true → c ≡ true) → (b ≡ true → d ≡ true) → (a && b) ≡ true → (c && d) ≡ true
and_weaker a b c d f g h = let p = and_parts a b h in and_from c d (f p.0) (g p.1)

other_holds : (a b : Bool) → a ≡ false → (a || b) ≡ true → b ≡ true
other_holds a b fails h = by (or_cases a b h)
  where
    by : (a ≡ true) ⊎ (b ≡ true) → b ≡ true
    by (inl e) = absurd (both_ways a fails e)
    by (inr e) = e

module _ {X : Type 0} where
  pub any-insert_by : (p : X → Bool) (before : X → X → Bool) (x : X) (xs : List X) → list_any p xs ≡ true → list_any p (insert_by before x xs) ≡ true
  any-insert_by p before x [] h = absurd (false≢true h)
  any-insert_by p before x (y ∷ ys) h =
      elim (before x y) as (λ b. list_any p (cond b (x ∷ y ∷ ys) (y ∷ insert_by before x ys)) ≡ true) [
        | true ↦ or_right (p x) (list_any p (y ∷ ys)) h
        | false ↦ by (or_cases (p y) (list_any p ys) h) (any-insert_by p before x ys)
      ]
    where
      by : (p y ≡ true) ⊎ (list_any p ys ≡ true) → (list_any p ys ≡ true → list_any p (insert_by before x ys) ≡ true) → (p y || list_any p (insert_by before x ys)) ≡ true
      by (inl e) rest = or_left (p y) (list_any p (insert_by before x ys)) e
      by (inr e) rest = or_right (p y) (list_any p (insert_by before x ys)) (rest e)

  -- x is in an order with each of these
  abbrev pub is_comparable : (X → X → Bool) → X → List X → Bool
  is_comparable before x xs = list_all (λ y. before x y || before y x) xs

  pub each_two-insert_by : (before : X → X → Bool) → ((a b c : X) → before a b ≡ true → before b c ≡ true → before a c ≡ true)
      → (x : X) (xs : List X) → is_comparable before x xs ≡ true → each_two before xs ≡ true → each_two before (insert_by before x xs) ≡ true
  each_two-insert_by before chain x [] apart h = refl
  each_two-insert_by before chain x (y ∷ ys) apart h =
      let each = and_parts (before x y || before y x) (is_comparable before x ys) apart in
      let rises = and_parts (list_all (before y) ys) (each_two before ys) h in
      elim (before x y) as (λ b. before x y ≡ b → each_two before (cond b (x ∷ y ∷ ys) (y ∷ insert_by before x ys)) ≡ true) [
        | true ↦ λ first. and_from (list_all (before x) (y ∷ ys)) (each_two before (y ∷ ys))
            (and_from (before x y) (list_all (before x) ys) first (all_weaker (before y) (before x) ys (λ z k. chain x y z first k) rises.0)) h
        | false ↦ λ later. and_from (list_all (before y) (insert_by before x ys)) (each_two before (insert_by before x ys))
            (all-insert_by (before y) before x ys (other_holds (before x y) (before y x) later each.0) rises.0) (each_two-insert_by before chain x ys each.1 rises.1)
      ] refl

-- Rows in the order of their keys.
module _ {K Row : Type 0} {R : K → K → Ordering} (total : IsTotalOrder R) (key : Row → K) where
  abbrev pub before_by : Row → Row → Bool
  before_by a b = is_lt (R (key a) (key b))

  less : (r : Ordering) → is_lt r ≡ true → r ≡ Less
  less Less h = refl
  less Equal h = cc
  less Greater h = cc

  pub before-chain : (a b c : Row) → before_by a b ≡ true → before_by b c ≡ true → before_by a c ≡ true
  before-chain a b c h k = ap is_lt (total.trans (key a) (key b) (key c) (less _ h) (less _ k))

  either : (r s : Ordering) → r ≡ ordering_reverse s → is_eq r ≡ false → (is_lt r || is_lt s) ≡ true
  either Less s e h = refl
  either Equal s e h = absurd (false≢true (sym h))
  either Greater Less e h = refl
  either Greater Equal e h = cc
  either Greater Greater e h = cc

  -- Rows of other keys stand in an order with this one.
  pub before-comparable : (x : Row) (rows : List Row) → list_any (λ y. eq_by_cmp R (key x) (key y)) rows ≡ false → is_comparable before_by x rows ≡ true
  before-comparable x [] h = refl
  before-comparable x (y ∷ ys) h =
      let apart = or_parts (eq_by_cmp R (key x) (key y)) (list_any (λ z. eq_by_cmp R (key x) (key z)) ys) h in
      and_from (before_by x y || before_by y x) (is_comparable before_by x ys) (either (R (key x) (key y)) (R (key y) (key x)) (total.antisymm (key x) (key y)) apart.0) (before-comparable x ys apart.1)

module _ {X : Type 0} where
  -- an element that fails is not seen
  pub any-insert_by_other : (p : X → Bool) (before : X → X → Bool) (x : X) (xs : List X) → p x ≡ false → list_any p (insert_by before x xs) ≡ list_any p xs
  any-insert_by_other p before x [] fails = ap (λ b. b || false) fails
  any-insert_by_other p before x (y ∷ ys) fails =
      elim (before x y) as (λ b. list_any p (cond b (x ∷ y ∷ ys) (y ∷ insert_by before x ys)) ≡ list_any p (y ∷ ys)) [
        | true ↦ ap (λ b. b || list_any p (y ∷ ys)) fails
        | false ↦ ap (λ b. p y || b) (any-insert_by_other p before x ys fails)
      ]

  pub none_found : (p : X → Bool) (xs : List X) → list_any p xs ≡ false → find p xs ≡ None
  none_found p [] h = refl
  none_found p (x ∷ xs) h = let both = or_parts (p x) (list_any p xs) h in ap (λ b. cond b (Some x) (find p xs)) both.0 ∙ none_found p xs both.1

  -- What is looked for is the new element where it passes and no other does, and else it is found as before.
  pub find-insert_by : (p : X → Bool) (before : X → X → Bool) (x : X) (xs : List X) → (p x ≡ true → list_any p xs ≡ false) → find p (insert_by before x xs) ≡ cond (p x) (Some x) (find p xs)
  find-insert_by p before x [] alone = refl
  find-insert_by p before x (y ∷ ys) alone =
      elim (before x y) as (λ b. find p (cond b (x ∷ y ∷ ys) (y ∷ insert_by before x ys)) ≡ cond (p x) (Some x) (find p (y ∷ ys))) [
        | true ↦ refl
        | false ↦ ap (cond (p y) (Some y)) (find-insert_by p before x ys (λ h. (or_parts (p y) (list_any p ys) (alone h)).1))
            ∙ one (p x) (p y) (find p ys) (λ h. (or_parts (p y) (list_any p ys) (alone h)).0)
      ]
    where
      one : (b c : Bool) (o : Option X) → (b ≡ true → c ≡ false) → cond c (Some y) (cond b (Some x) o) ≡ cond b (Some x) (cond c (Some y) o)
      one true true o apart = absurd (false≢true (sym (apart refl)))
      one true false o apart = refl
      one false true o apart = refl
      one false false o apart = refl

  -- Each two pass that did, where the new element passes with each of them, on either side.
  pub each_two-insert_among : (test : X → X → Bool) (before : X → X → Bool) (x : X) (xs : List X) → list_all (test x) xs ≡ true → list_all (λ y. test y x) xs ≡ true → each_two test xs ≡ true
      → each_two test (insert_by before x xs) ≡ true
  each_two-insert_among test before x [] ahead behind h = refl
  each_two-insert_among test before x (y ∷ ys) ahead behind h =
      let two = and_parts (list_all (test y) ys) (each_two test ys) h in
      let after = and_parts (test x y) (list_all (test x) ys) ahead in
      let front = and_parts (test y x) (list_all (λ z. test z x) ys) behind in
      elim (before x y) as (λ b. each_two test (cond b (x ∷ y ∷ ys) (y ∷ insert_by before x ys)) ≡ true) [
        | true ↦ and_from (list_all (test x) (y ∷ ys)) (each_two test (y ∷ ys)) ahead h
        | false ↦ and_from (list_all (test y) (insert_by before x ys)) (each_two test (insert_by before x ys))
            (all-insert_by (test y) before x ys front.0 two.0) (each_two-insert_among test before x ys after.1 front.1 two.1)
      ]

module _ {X Y : Type 0} where
  -- an element of which nothing is made
  pub made-insert_by_none : (f : X → List Y) (before : X → X → Bool) (x : X) (xs : List X) → f x ≡ [] → flat_map f (insert_by before x xs) ≡ flat_map f xs
  made-insert_by_none f before x [] none = ap (λ ys. ys ++ []) none
  made-insert_by_none f before x (y ∷ ys) none =
      elim (before x y) as (λ b. flat_map f (cond b (x ∷ y ∷ ys) (y ∷ insert_by before x ys)) ≡ flat_map f (y ∷ ys)) [
        | true ↦ ap (λ zs. zs ++ flat_map f (y ∷ ys)) none
        | false ↦ ap (λ zs. f y ++ zs) (made-insert_by_none f before x ys none)
      ]

  -- a test of what stands for the elements
  pub all_mapped-insert_by : (p : Y → Bool) (f : X → Y) (before : X → X → Bool) (x : X) (xs : List X) → p (f x) ≡ true → list_all p (map f xs) ≡ true → list_all p (map f (insert_by before x xs)) ≡ true
  all_mapped-insert_by p f before x xs here h = list_all-map p f (insert_by before x xs) ∙ all-insert_by (λ y. p (f y)) before x xs here (sym (list_all-map p f xs) ∙ h)

  -- what stands for the elements is in order as they are
  pub map-insert_by : (f : X → Y) (before : Y → Y → Bool) (x : X) (xs : List X) → map f (insert_by (λ a b. before (f a) (f b)) x xs) ≡ insert_by before (f x) (map f xs)
  map-insert_by f before x [] = refl
  map-insert_by f before x (y ∷ ys) =
      elim (before (f x) (f y)) as (λ b. map f (cond b (x ∷ y ∷ ys) (y ∷ insert_by (λ a b. before (f a) (f b)) x ys)) ≡ cond b (f x ∷ f y ∷ map f ys) (f y ∷ insert_by before (f x) (map f ys))) [
        | true ↦ refl
        | false ↦ ap (λ zs. f y ∷ zs) (map-insert_by f before x ys)
      ]
