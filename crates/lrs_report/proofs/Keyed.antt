-- The row of a key among rows in the order of their keys: where the rows that are not below the key begin, or nowhere.
use Rattle.std.proofs.Common.{◌≡◌, ℕ, zero, suc, ◌+◌, ◌<◌, ◌≤◌, Bool, true, false, cond, Some, None, List, [], ◌∷◌, length, get_or, refl, sym, ap, ◌∙◌, arith}
use Rattle.std.specs.Prelude.{◌||◌, not}
use Rattle.std.specs.List.{find, list_all}
use Rattle.std.specs.declared.cmp.Ordering.{Ordering}
use Rattle.std.specs.declared.cmp.Ordering.TheVariants.{Less, Equal, Greater}
use Rattle.std.specs.Ordering.{is_lt, is_eq, is_ge}
use Rattle.std.proofs.lemmas.Bool.{false≢true, and_parts}
use Rattle.lrs_measure.specs.Lists.{each_two}
use Rattle.lrs_measure.specs.OrderedLists.{place_by}
use Rattle.lrs_measure.proofs.EachTwo.{two_passing}
use Rattle.lrs_ordered.specs.SearchedLists.{is_parted}

pub place_first : (b : Bool) (n : ℕ) → cond b 0 (n + 1) ≡ 0 → b ≡ true
place_first true n h = refl
place_first false n h = absurd (omega (arith, h))

pub place_later : (b : Bool) (n k : ℕ) → cond b 0 (n + 1) ≡ suc k → (b ≡ false) × (n ≡ k)
place_later true n k h = absurd (omega (arith, h))
place_later false n k h = (refl, omega (arith, h))

pub not_from : (r : Ordering) → is_ge r ≡ false → is_eq r ≡ false
not_from Less h = refl
not_from Equal h = absurd (false≢true (sym h))
not_from Greater h = refl

from_not_below : (r : Ordering) → is_ge r ≡ true → is_lt r ≡ false
from_not_below Less h = absurd (false≢true h)
from_not_below Equal h = refl
from_not_below Greater h = refl

stays_from : (r s : Ordering) → (is_lt r ≡ false → s ≡ Greater) → (not (is_ge r) || is_ge s) ≡ true
stays_from Less s h = refl
stays_from Equal s h = ap is_ge (h refl)
stays_from Greater s h = ap is_ge (h refl)

module _ {X : Type 0} (order : X → Ordering) where
  -- the row where those below a key end is found, if it has the key
  pub found : (xs : List X) (k : ℕ) (d : X) → k ≡ place_by (λ x. is_ge (order x)) xs → k < length xs → is_eq (order (get_or xs k d)) ≡ true → find (λ x. is_eq (order x)) xs ≡ Some (get_or xs k d)
  found [] k d e within here = absurd (omega (arith, within))
  found (x ∷ xs) zero d e within here = ap (λ b. cond b (Some x) (find (λ y. is_eq (order y)) xs)) here
  found (x ∷ xs) (suc k) d e within here =
      let later = place_later (is_ge (order x)) (place_by (λ y. is_ge (order y)) xs) k (sym e) in
      ap (λ b. cond b (Some x) (find (λ y. is_eq (order y)) xs)) (not_from (order x) later.0) ∙ found xs k d (sym later.1) (omega (arith, within)) here

  -- where all rows are below the key, none is found
  pub beyond : (xs : List X) (k : ℕ) → k ≡ place_by (λ x. is_ge (order x)) xs → length xs ≤ k → find (λ x. is_eq (order x)) xs ≡ None
  beyond [] k e within = refl
  beyond (x ∷ xs) zero e within = absurd (omega (arith, within))
  beyond (x ∷ xs) (suc k) e within =
      let later = place_later (is_ge (order x)) (place_by (λ y. is_ge (order y)) xs) k (sym e) in
      ap (λ b. cond b (Some x) (find (λ y. is_eq (order y)) xs)) (not_from (order x) later.0) ∙ beyond xs k (sym later.1) (omega (arith, within))

  module _ (before : X → X → Bool) (rises : (a b : X) → before a b ≡ true → is_lt (order a) ≡ false → order b ≡ Greater) where
    -- the rows that are below a key are a front of all
    pub below_first : (xs : List X) → each_two before xs ≡ true → is_parted (λ x. is_ge (order x)) xs ≡ true
    below_first xs h = two_passing before (λ a b. not (is_ge (order a)) || is_ge (order b)) (λ a b first. stays_from (order a) (order b) (rises a b first)) xs h

    -- behind a row that is not below the key, none has it, if the rows there are behind it in their order
    pub none_above : (x : X) (xs : List X) → is_ge (order x) ≡ true → list_all (before x) xs ≡ true → find (λ y. is_eq (order y)) xs ≡ None
    none_above x [] from h = refl
    none_above x (y ∷ ys) from h =
        let both = and_parts (before x y) (list_all (before x) ys) h in
        ap (λ r. cond (is_eq r) (Some y) (find (λ z. is_eq (order z)) ys)) (rises x y both.0 (from_not_below (order x) from)) ∙ none_above x ys from both.1

    -- where the row behind them has another key, none is found
    pub missed : (xs : List X) (k : ℕ) (d : X) → each_two before xs ≡ true → k ≡ place_by (λ x. is_ge (order x)) xs → k < length xs → is_eq (order (get_or xs k d)) ≡ false → find (λ x. is_eq (order x)) xs ≡ None
    missed [] k d h e within here = absurd (omega (arith, within))
    missed (x ∷ xs) zero d h e within here =
        let from = place_first (is_ge (order x)) (place_by (λ y. is_ge (order y)) xs) (sym e) in
        ap (λ b. cond b (Some x) (find (λ y. is_eq (order y)) xs)) here ∙ none_above x xs from (and_parts (list_all (before x) xs) (each_two before xs) h).0
    missed (x ∷ xs) (suc k) d h e within here =
        let later = place_later (is_ge (order x)) (place_by (λ y. is_ge (order y)) xs) k (sym e) in
        ap (λ b. cond b (Some x) (find (λ y. is_eq (order y)) xs)) (not_from (order x) later.0)
        ∙ missed xs k d (and_parts (list_all (before x) xs) (each_two before xs) h).1 (sym later.1) (omega (arith, within)) here
