-- The parts of one edit among parts in the order of their edits.
use Rattle.std.proofs.Common.{◌≡◌, ℕ, zero, suc, ◌-◌, ◌<◌, ◌≤◌, Bool, true, false, ◌⊎◌, inl, inr, List, [], ◌∷◌, ◌++◌, length, take, drop, get_or, sym, ap, ap₂, subst, ◌∙◌, arith}
use Rattle.std.specs.Prelude.{nat_eq, nat_lt, nat_le, filter}
use Rattle.std.specs.declared.cmp.Ordering.TheVariants.{Greater}
use Rattle.std.specs.Cmp.{nat_cmp_is}
use Rattle.std.specs.List.Sorted.{IsNonDecreasingBy, IsPartitionPoint}
use Rattle.std.specs.Cmp.Lexicographic.{slice_cmp}
use Rattle.std.specs.Ordering.{nat_cmp, is_lt, ordering_then}
use Rattle.std.proofs.lemmas.Bool.{both_ways, and_parts, cases_lt, ltb-true, ltb-false, leb-true, leb-false, eq-eqb, eqb-true, false_from_ne_true}
use Rattle.std.proofs.lemmas.List.{take-append-drop, append-nil, take_all, length-drop}
use Rattle.std.proofs.lemmas.List.Elements.{filter-append}
use Rattle.lrs_measure.specs.Lists.{In, each_two}
use Rattle.lrs_measure.proofs.Places.{two_pass, all_first, all_last}
use Rattle.lrs_measure.proofs.Filters.{filter_all, filter_none}
use Rattle.lrs_events.specs.declared.part.Part.{Part}
use Rattle.lrs_events.specs.Parts.{part_before, side_number}
use Rattle.lrs_machine.specs.declared.image.Image.{Image}
use Rattle.lrs_machine.specs.Sound.{IsSound, are_parts}
use Rattle.lrs_image.proofs.Tables.{passes}

-- ---- their order

before_rises : (x y : Part) → part_before x y ≡ true → x.edit ≤ y.edit
before_rises x y h = by (cases_lt y.edit x.edit)
  where
    by : (y.edit < x.edit) ⊎ (x.edit ≤ y.edit) → x.edit ≤ y.edit
    by (inr le) = le
    by (inl less) = absurd (both_ways (part_before x y) (ap (λ o. is_lt (ordering_then o (slice_cmp nat_cmp (x.asset ∷ x.link ∷ x.from ∷ side_number x.side ∷ []) (y.asset ∷ y.link ∷ y.from ∷ side_number y.side ∷ [])))) (sym (nat_cmp_is x.edit y.edit Greater less))) h)

pub edits_rise : (parts : List Part) → each_two part_before parts ≡ true → IsNonDecreasingBy (λ (p : Part). p.edit) parts
edits_rise parts h i j d le within = by (cases_lt i j)
  where
    by : (i < j) ⊎ (j ≤ i) → (get_or parts i d).edit ≤ (get_or parts j d).edit
    by (inl l) = before_rises (get_or parts i d) (get_or parts j d) (two_pass part_before parts i j d h l within)
    by (inr g) = let e : i ≡ j = omega (arith, le, g) in let f : (get_or parts i d).edit ≡ (get_or parts j d).edit = ap (λ k. (get_or parts k d).edit) e in omega (arith, f)

pub ledger_rises : (i : Image) → IsSound i → IsNonDecreasingBy (λ (p : Part). p.edit) i.entered
ledger_rises i sound = edits_rise i.entered (and_parts (each_two part_before i.entered) (are_parts i.links i.assets i.entered) (passes i sound).entered).0

-- ---- what two searches leave

In-take : (x : Part) (n : ℕ) (xs : List Part) → In x (take n xs) → In x xs
In-take x zero xs m = absurd m
In-take x (suc n) [] m = absurd m
In-take x (suc n) (y ∷ ys) (inl e) = inl e
In-take x (suc n) (y ∷ ys) (inr m) = inr (In-take x n ys m)

module _ (parts : List Part) (edit from to : ℕ)
    (first : IsPartitionPoint (λ (p : Part). nat_lt p.edit edit ≡ true) (λ p. nat_lt p.edit edit ≡ false) parts from)
    (last : IsPartitionPoint (λ (p : Part). nat_le p.edit edit ≡ true) (λ p. nat_le p.edit edit ≡ false) (drop from parts) to) where
  abbrev is_of : Part → Bool
  is_of p = nat_eq p.edit edit

  not_of : (p : Part) → (p.edit ≡ edit → ⊥) → is_of p ≡ false
  not_of p h = false_from_ne_true (is_of p) (λ t. h (eqb-true p.edit edit t))

  in_front : (p : Part) → In p (take from parts) → is_of p ≡ false
  in_front p m = let l = ltb-true p.edit edit (all_first (λ (p : Part). nat_lt p.edit edit ≡ true) parts from first.0 p m) in not_of p (λ e. omega (arith, e, l))

  behind : (p : Part) → In p (drop to (drop from parts)) → is_of p ≡ false
  behind p m = let l = leb-false p.edit edit (all_last (λ (p : Part). nat_le p.edit edit ≡ false) (drop from parts) to last.1 p m) in not_of p (λ e. omega (arith, e, l))

  within : (p : Part) → In p (take to (drop from parts)) → is_of p ≡ true
  within p m =
      let low = ltb-false p.edit edit (all_last (λ (p : Part). nat_lt p.edit edit ≡ false) parts from first.1 p (In-take p to (drop from parts) m)) in
      let high = leb-true p.edit edit (all_first (λ (p : Part). nat_le p.edit edit ≡ true) (drop from parts) to last.0 p m) in
      eq-eqb p.edit edit (omega (arith, low, high))

  pub of_edit : take to (drop from parts) ≡ filter is_of parts
  of_edit =
      let rest = drop from parts in
      sym (ap (filter is_of) (sym (take-append-drop from parts)) ∙ filter-append is_of (take from parts) rest
      ∙ ap (λ xs. xs ++ filter is_of rest) (filter_none is_of (take from parts) in_front)
      ∙ ap (filter is_of) (sym (take-append-drop to rest)) ∙ filter-append is_of (take to rest) (drop to rest)
      ∙ ap₂ (λ xs ys. xs ++ ys) (filter_all is_of (take to rest) within) (filter_none is_of (drop to rest) behind) ∙ append-nil (take to rest))

-- ... as slices of slices
pub of_slices : (parts : List Part) (edit from to : ℕ) → IsPartitionPoint (λ (p : Part). nat_lt p.edit edit ≡ true) (λ p. nat_lt p.edit edit ≡ false) parts from
    → IsPartitionPoint (λ (p : Part). nat_le p.edit edit ≡ true) (λ p. nat_le p.edit edit ≡ false) (take (length parts - from) (drop from parts)) to
    → take to (take (length parts - from) (drop from parts)) ≡ filter (λ p. nat_eq p.edit edit) parts
of_slices parts edit from to first last =
    let rest : take (length parts - from) (drop from parts) ≡ drop from parts = take_all (length parts - from) (drop from parts) (omega (arith, length-drop from parts)) in
    ap (take to) rest ∙ of_edit parts edit from to first (subst (λ (xs : List Part). IsPartitionPoint (λ (p : Part). nat_le p.edit edit ≡ true) (λ p. nat_le p.edit edit ≡ false) xs to) rest last)
