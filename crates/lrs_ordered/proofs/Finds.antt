-- The one element of a key in a list that rises around it.
use Rattle.std.proofs.Common.{◌≡◌, ℕ, ◌+◌, ◌-◌, ◌<◌, ◌≤◌, zero, suc, Bool, true, false, cond, List, [], ◌∷◌, ◌++◌, length, get_or, take, drop, refl, sym, ap, ◌∙◌, arith, Some, None}
use Rattle.std.specs.Prelude.{◌||◌, not}
use Rattle.std.specs.List.{list_all, find}
use Rattle.std.specs.declared.cmp.Ordering.{Ordering}
use Rattle.std.specs.declared.cmp.Ordering.TheVariants.{Less, Equal, Greater}
use Rattle.std.specs.Ordering.{is_lt, is_eq, is_gt, is_ge}
use Rattle.std.proofs.lemmas.Bool.{false≢true, and_parts, and_from, not-true}
use Rattle.lrs_measure.specs.Lists.{each_two}
use Rattle.lrs_measure.specs.OrderedLists.{place_by}
use Rattle.lrs_measure.proofs.Members.{all_weaker}
use Rattle.lrs_measure.proofs.EachTwo.{two_passing}
use Rattle.lrs_ordered.specs.SearchedLists.{is_parted, joined, first_passes, rises_by, none_by, are_filled}
use Rattle.lrs_ordered.proofs.Joins.{place_first, place_later, target_parts, two_rear_at, joined_at}

above_parted : (r s : Ordering) → (is_lt r || is_gt s) ≡ true → (not (is_gt r) || is_gt s) ≡ true
above_parted Less s h = refl
above_parted Equal s h = refl
above_parted Greater s h = h

from_parted : (r s : Ordering) → (is_lt r || is_gt s) ≡ true → (not (is_ge r) || is_ge s) ≡ true
from_parted Less s h = refl
from_parted Equal Greater h = refl
from_parted Equal Equal h = refl
from_parted Equal Less h = h
from_parted Greater Greater h = refl
from_parted Greater Equal h = refl
from_parted Greater Less h = h

below_other : (r : Ordering) → is_lt r ≡ true → not (is_eq r) ≡ true
below_other Less h = refl
below_other Equal h = absurd (false≢true h)
below_other Greater h = absurd (false≢true h)

above_other : (r : Ordering) → is_gt r ≡ true → not (is_eq r) ≡ true
above_other Less h = absurd (false≢true h)
above_other Equal h = absurd (false≢true h)
above_other Greater h = refl

not_from : (r : Ordering) → is_ge r ≡ false → is_eq r ≡ false
not_from Less h = refl
not_from Equal h = absurd (false≢true (sym h))
not_from Greater h = refl

over : (r s : Ordering) → is_ge r ≡ true → is_eq r ≡ false → (is_lt r || is_gt s) ≡ true → not (is_eq s) ≡ true
over Less s from other h = absurd (false≢true from)
over Equal s from other h = absurd (false≢true (sym other))
over Greater s from other h = above_other s h

rises_two : (r s : Ordering) → (is_lt r ≡ false → s ≡ Greater) → (is_lt r || is_gt s) ≡ true
rises_two Less s h = refl
rises_two Equal s h = ap is_gt (h refl)
rises_two Greater s h = ap is_gt (h refl)

module _ {X : Type 0} (order : X → Ordering) where
  abbrev is_at : X → Bool
  is_at x = is_eq (order x)

  pub parted_above : (xs : List X) → rises_by order xs ≡ true → is_parted (λ x. is_gt (order x)) xs ≡ true
  parted_above xs h = two_passing (λ a b. is_lt (order a) || is_gt (order b)) (λ a b. not (is_gt (order a)) || is_gt (order b)) (λ a b k. above_parted (order a) (order b) k) xs h

  pub parted_from : (xs : List X) → rises_by order xs ≡ true → is_parted (λ x. is_ge (order x)) xs ≡ true
  parted_from xs h = two_passing (λ a b. is_lt (order a) || is_gt (order b)) (λ a b. not (is_ge (order a)) || is_ge (order b)) (λ a b k. from_parted (order a) (order b) k) xs h

  pub find_none : (xs : List X) → none_by order xs ≡ true → find is_at xs ≡ None
  find_none [] h = refl
  find_none (x ∷ xs) h =
      let both = and_parts (not (is_at x)) (none_by order xs) h in
      ap (λ b. cond b (Some x) (find is_at xs)) (not-true (is_at x) both.0) ∙ find_none xs both.1

  -- The element at the first place that is not below is found, if it is at the key.
  pub found : (xs : List X) (k : ℕ) (d : X) → k ≡ place_by (λ x. is_ge (order x)) xs → k < length xs → is_eq (order (get_or xs k d)) ≡ true → find is_at xs ≡ Some (get_or xs k d)
  found [] k d e within here = absurd (omega (arith, within))
  found (x ∷ xs) zero d e within here = ap (λ b. cond b (Some x) (find is_at xs)) here
  found (x ∷ xs) (suc k) d e within here =
      let later = place_later (is_ge (order x)) (place_by (λ y. is_ge (order y)) xs) k (sym e) in
      ap (λ b. cond b (Some x) (find is_at xs)) (not_from (order x) later.0) ∙ found xs k d (sym later.1) (omega (arith, within)) here

  pub missed : (xs : List X) (k : ℕ) (d : X) → rises_by order xs ≡ true → k ≡ place_by (λ x. is_ge (order x)) xs → k < length xs → is_eq (order (get_or xs k d)) ≡ false → find is_at xs ≡ None
  missed [] k d rises e within here = absurd (omega (arith, within))
  missed (x ∷ xs) zero d rises e within here =
      let from = place_first (is_ge (order x)) (place_by (λ y. is_ge (order y)) xs) (sym e) in
      let later = (and_parts (list_all (λ b. is_lt (order x) || is_gt (order b)) xs) (rises_by order xs) rises).0 in
      ap (λ b. cond b (Some x) (find is_at xs)) here
      ∙ find_none xs (all_weaker (λ b. is_lt (order x) || is_gt (order b)) (λ b. not (is_eq (order b))) xs (λ b k. over (order x) (order b) from here k) later)
  missed (x ∷ xs) (suc k) d rises e within here =
      let later = place_later (is_ge (order x)) (place_by (λ y. is_ge (order y)) xs) k (sym e) in
      let rest = (and_parts (list_all (λ b. is_lt (order x) || is_gt (order b)) xs) (rises_by order xs) rises).1 in
      ap (λ b. cond b (Some x) (find is_at xs)) (not_from (order x) later.0) ∙ missed xs k d rest (sym later.1) (omega (arith, within)) here

  pub beyond : (xs : List X) (k : ℕ) → k ≡ place_by (λ x. is_ge (order x)) xs → length xs ≤ k → find is_at xs ≡ None
  beyond [] k e within = refl
  beyond (x ∷ xs) zero e within = absurd (omega (arith, within))
  beyond (x ∷ xs) (suc k) e within =
      let later = place_later (is_ge (order x)) (place_by (λ y. is_ge (order y)) xs) k (sym e) in
      ap (λ b. cond b (Some x) (find is_at xs)) (not_from (order x) later.0) ∙ beyond xs k (sym later.1) (omega (arith, within))

  find_front : (xs ys : List X) → none_by order ys ≡ true → find is_at (xs ++ ys) ≡ find is_at xs
  find_front [] ys h = find_none ys h
  find_front (x ∷ xs) ys h = ap (cond (is_at x) (Some x)) (find_front xs ys h)

  find_rear : (xs ys : List X) → none_by order xs ≡ true → find is_at (xs ++ ys) ≡ find is_at ys
  find_rear [] ys h = refl
  find_rear (x ∷ xs) ys h =
      let both = and_parts (not (is_at x)) (none_by order xs) h in
      ap (λ b. cond b (Some x) (find is_at (xs ++ ys))) (not-true (is_at x) both.0) ∙ find_rear xs ys both.1

  -- The element is found in the one list that it can be in.
  pub found_in : (xss : List (List X)) (i : ℕ) (d : List X) → i < length xss → none_by order (joined (take i xss)) ≡ true → none_by order (joined (drop (i + 1) xss)) ≡ true
      → find is_at (joined xss) ≡ find is_at (get_or xss i d)
  found_in xss i d within front rear =
      ap (find is_at) (joined_at xss i d within) ∙ find_rear (joined (take i xss)) (get_or xss i d ++ joined (drop (i + 1) xss)) front ∙ find_front (get_or xss i d) (joined (drop (i + 1) xss)) rear

  all_above : (xs : List X) → rises_by order xs ≡ true → first_passes (λ x. is_gt (order x)) xs ≡ true → none_by order xs ≡ true
  all_above [] rises h = refl
  all_above (x ∷ xs) rises h =
      let later = (and_parts (list_all (λ b. is_lt (order x) || is_gt (order b)) xs) (rises_by order xs) rises).0 in
      and_from (not (is_at x)) (none_by order xs) (above_other (order x) h)
      (all_weaker (λ b. is_lt (order x) || is_gt (order b)) (λ b. not (is_eq (order b))) xs (λ b k. over (order x) (order b) (above_from (order x) h) (above_off (order x) h) k) later)
    where
      above_from : (r : Ordering) → is_gt r ≡ true → is_ge r ≡ true
      above_from Less k = absurd (false≢true k)
      above_from Equal k = refl
      above_from Greater k = refl

      above_off : (r : Ordering) → is_gt r ≡ true → is_eq r ≡ false
      above_off Less k = refl
      above_off Equal k = absurd (false≢true k)
      above_off Greater k = refl

  -- No other list has it than the last that does not begin above it.
  pub elsewhere : (xss : List (List X)) (k j : ℕ) (d : List X) → are_filled xss ≡ true → rises_by order (joined xss) ≡ true → k ≡ place_by (first_passes (λ x. is_gt (order x))) xss → j ≡ k - 1 → j < length xss
      → (none_by order (joined (take j xss)) ≡ true) × (none_by order (joined (drop (j + 1) xss)) ≡ true)
  elsewhere xss k j d filled rises e is within =
      let both = target_parts (λ x. is_lt (order x)) (λ x. is_gt (order x)) xss k j filled rises (parted_above (joined xss) rises) e is in (
        all_weaker (λ x. is_lt (order x)) (λ x. not (is_eq (order x))) (joined (take j xss)) (λ x h. below_other (order x) h) both.0,
        all_above (joined (drop (j + 1) xss)) (two_rear_at (λ a b. is_lt (order a) || is_gt (order b)) xss j d within rises) both.1,
      )

  -- rows in order rise around each key
  pub rises_from : (before : X → X → Bool) → ((a b : X) → before a b ≡ true → is_lt (order a) ≡ false → order b ≡ Greater) → (xs : List X) → each_two before xs ≡ true → rises_by order xs ≡ true
  rises_from before law xs h = two_passing before (λ a b. is_lt (order a) || is_gt (order b)) (λ a b first. rises_two (order a) (order b) (law a b first)) xs h

  pub missed_all : (xs : List X) (k : ℕ) (d : X) → rises_by order xs ≡ true → k ≡ place_by (λ x. is_ge (order x)) xs → k < length xs → is_eq (order (get_or xs k d)) ≡ false → none_by order xs ≡ true
  missed_all [] k d rises e within here = refl
  missed_all (x ∷ xs) zero d rises e within here =
      let from = place_first (is_ge (order x)) (place_by (λ y. is_ge (order y)) xs) (sym e) in
      let later = (and_parts (list_all (λ b. is_lt (order x) || is_gt (order b)) xs) (rises_by order xs) rises).0 in
      and_from (not (is_at x)) (none_by order xs) (ap not here)
      (all_weaker (λ b. is_lt (order x) || is_gt (order b)) (λ b. not (is_eq (order b))) xs (λ b k. over (order x) (order b) from here k) later)
  missed_all (x ∷ xs) (suc k) d rises e within here =
      let later = place_later (is_ge (order x)) (place_by (λ y. is_ge (order y)) xs) k (sym e) in
      let rest = (and_parts (list_all (λ b. is_lt (order x) || is_gt (order b)) xs) (rises_by order xs) rises).1 in
      and_from (not (is_at x)) (none_by order xs) (ap not (not_from (order x) later.0)) (missed_all xs k d rest (sym later.1) (omega (arith, within)) here)

  pub beyond_all : (xs : List X) (k : ℕ) → k ≡ place_by (λ x. is_ge (order x)) xs → length xs ≤ k → none_by order xs ≡ true
  beyond_all [] k e within = refl
  beyond_all (x ∷ xs) zero e within = absurd (omega (arith, within))
  beyond_all (x ∷ xs) (suc k) e within =
      let later = place_later (is_ge (order x)) (place_by (λ y. is_ge (order y)) xs) k (sym e) in
      and_from (not (is_at x)) (none_by order xs) (ap not (not_from (order x) later.0)) (beyond_all xs k (sym later.1) (omega (arith, within)))
