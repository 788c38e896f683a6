-- The order of a ledger, and parts in it.
use Rattle.std.proofs.Common.{◌≡◌, ℕ, zero, suc, ◌<◌, ◌≤◌, Bool, true, false, ◌⊎◌, inl, inr, List, [], ◌∷◌, length, get_or, Ordering, Less, Equal, Greater, refl, sym, ap, ◌∙◌, arith}
use Rattle.std.specs.Prelude.{◌&&◌, nat_eq, nat_le, nat_lt}
use Rattle.std.specs.List.{list_all, count_by, AllAdjacentBelow}
use Rattle.std.specs.Ordering.{nat_cmp, is_lt, ordering_then, ordering_reverse}
use Rattle.std.specs.Cmp.Lexicographic.{nat_list_cmp_total, slice_cmp}
use Rattle.std.proofs.lemmas.Map.Lookups.{exact_bytes}
use Rattle.std.proofs.lemmas.Bool.{false≢true, and_parts, and_from, cases_Bool, eq-eqb, le-leb, lt-ltb, ltb-true}
use Rattle.std.proofs.lemmas.List.Sorted.{sorted_far, ranks_by}
use Rattle.lrs_measure.specs.Lists.{each_two}
use Rattle.lrs_measure.proofs.Counts.{count_yes, count_no}
use Rattle.lrs_events.specs.declared.part.Part.{Part}
use Rattle.lrs_events.specs.declared.side.LinkSide.{LinkSide}
use Rattle.lrs_events.specs.declared.side.LinkSide.TheVariants.{Left, Right}
use Rattle.lrs_events.specs.Places.{Place, same_link_side}
use Rattle.lrs_events.specs.Parts.{has_for, IsHadOnce, part_before, part_key, side_number}

then_then : (a b c : Ordering) → ordering_then (ordering_then a b) c ≡ ordering_then a (ordering_then b c)
then_then Less b c = refl
then_then Equal b c = refl
then_then Greater b c = refl

then_equal : (a : Ordering) → ordering_then a Equal ≡ a
then_equal Less = refl
then_equal Equal = refl
then_equal Greater = refl

in_threes : (a b c d e : Ordering) → ordering_then a (ordering_then b (ordering_then c (ordering_then d (ordering_then e Equal)))) ≡ ordering_then (ordering_then (ordering_then a b) c) (ordering_then d e)
in_threes a b c d e =
    (λ i. ordering_then a (ordering_then b (ordering_then c (ordering_then d (then_equal e i)))))
    ∙ sym (then_then (ordering_then a b) c (ordering_then d e) ∙ then_then a b (ordering_then c (ordering_then d e)))

-- by two keys, one within the other
pub same_order : (x y : Part)
    → part_before x y
    ≡ is_lt (ordering_then (ordering_then (ordering_then (nat_cmp x.edit y.edit) (nat_cmp x.asset y.asset)) (nat_cmp x.link y.link)) (ordering_then (nat_cmp x.from y.from) (nat_cmp (side_number x.side) (side_number y.side))))
same_order x y = ap is_lt (in_threes (nat_cmp x.edit y.edit) (nat_cmp x.asset y.asset) (nat_cmp x.link y.link) (nat_cmp x.from y.from) (nat_cmp (side_number x.side) (side_number y.side)))

-- ---- parts in that order, each pair once

counted_at : {X : Type 0} (p : X → Bool) (xs : List X) (i : ℕ) (d : X) → i < length xs → p (get_or xs i d) ≡ true → 1 ≤ count_by p xs
counted_at p [] i d within h = absurd (omega (arith, within))
counted_at p (x ∷ xs) zero d within h = let e = count_yes p x xs h in omega (arith, e)
counted_at p (x ∷ xs) (suc i) d within h = by (cases_Bool (p x)) (counted_at p xs i d (omega (arith, within)) h)
  where
    by : (p x ≡ true) ⊎ (p x ≡ false) → 1 ≤ count_by p xs → 1 ≤ count_by p (x ∷ xs)
    by (inl g) rest = let e = count_yes p x xs g in omega (arith, e)
    by (inr g) rest = let e = count_no p x xs g in omega (arith, e, rest)

pub two_counted : {X : Type 0} (p : X → Bool) (xs : List X) (i j : ℕ) (d : X) → i < j → j < length xs → p (get_or xs i d) ≡ true → p (get_or xs j d) ≡ true → 2 ≤ count_by p xs
two_counted p [] i j d less within h k = absurd (omega (arith, within))
two_counted p (x ∷ xs) zero zero d less within h k = absurd (omega (arith, less))
two_counted p (x ∷ xs) zero (suc j) d less within h k = let e = count_yes p x xs h in let f = counted_at p xs j d (omega (arith, within)) k in omega (arith, e, f)
two_counted p (x ∷ xs) (suc i) zero d less within h k = absurd (omega (arith, less))
two_counted p (x ∷ xs) (suc i) (suc j) d less within h k = by (cases_Bool (p x)) (two_counted p xs i j d (omega (arith, less)) (omega (arith, within)) h k)
  where
    by : (p x ≡ true) ⊎ (p x ≡ false) → 2 ≤ count_by p xs → 2 ≤ count_by p (x ∷ xs)
    by (inl g) rest = let e = count_yes p x xs g in omega (arith, e, rest)
    by (inr g) rest = let e = count_no p x xs g in omega (arith, e, rest)

all_placed : {X : Type 0} (p : X → Bool) (xs : List X) → ((i : ℕ) (d : X) → i < length xs → p (get_or xs i d) ≡ true) → list_all p xs ≡ true
all_placed p [] h = refl
all_placed p (x ∷ xs) h = and_from (p x) (list_all p xs) (h zero x (omega arith)) (all_placed p xs (λ i d lt. h (suc i) d (omega (arith, lt))))

each_placed : {X : Type 0} (test : X → X → Bool) (xs : List X) → ((i j : ℕ) (d : X) → i < j → j < length xs → test (get_or xs i d) (get_or xs j d) ≡ true) → each_two test xs ≡ true
each_placed test [] h = refl
each_placed test (x ∷ xs) h =
    and_from (list_all (test x) xs) (each_two test xs) (all_placed (test x) xs (λ j d lt. h zero (suc j) d (omega arith) (omega (arith, lt))))
    (each_placed test xs (λ i j d less lt. h (suc i) (suc j) d (omega (arith, less)) (omega (arith, lt))))

pub all_at_place : (p : Part → Bool) (xs : List Part) (i : ℕ) (d : Part) → list_all p xs ≡ true → i < length xs → p (get_or xs i d) ≡ true
all_at_place p [] i d h lt = absurd (omega (arith, lt))
all_at_place p (x ∷ xs) zero d h lt = (and_parts (p x) (list_all p xs) h).0
all_at_place p (x ∷ xs) (suc i) d h lt = all_at_place p xs i d (and_parts (p x) (list_all p xs) h).1 (omega (arith, lt))

same_numbers : (s t : LinkSide) → side_number s ≡ side_number t → same_link_side s t ≡ true
same_numbers Left Left e = refl
same_numbers Left Right e = absurd (omega (arith, e))
same_numbers Right Left e = absurd (omega (arith, e))
same_numbers Right Right e = refl

has_first : (x y : Part) → part_key y ≡ part_key x → nat_lt y.from y.to ≡ true → has_for x.asset (record { link = x.link; mm = x.from; side = x.side }) y ≡ true
has_first x y e f =
    let asset : y.asset ≡ x.asset = ap (λ l. get_or l 1 0) e in
    let link : y.link ≡ x.link = ap (λ l. get_or l 2 0) e in
    let lo : y.from ≡ x.from = ap (λ l. get_or l 3 0) e in
    let side : side_number y.side ≡ side_number x.side = ap (λ l. get_or l 4 0) e in
    let rises = ltb-true y.from y.to f in
    and_from (nat_eq y.asset x.asset) (((nat_eq y.link x.link && nat_le y.from x.from) && nat_lt x.from y.to) && same_link_side y.side x.side) (eq-eqb y.asset x.asset asset)
    (and_from ((nat_eq y.link x.link && nat_le y.from x.from) && nat_lt x.from y.to) (same_link_side y.side x.side)
    (and_from (nat_eq y.link x.link && nat_le y.from x.from) (nat_lt x.from y.to)
    (and_from (nat_eq y.link x.link) (nat_le y.from x.from) (eq-eqb y.link x.link link) (le-leb y.from x.from (omega (arith, lo)))) (lt-ltb x.from y.to (omega (arith, lo, rises))))
    (same_numbers y.side x.side side))

decided : (o p : Ordering) → o ≡ ordering_reverse p → is_lt p ≡ false → (p ≡ Equal) ⊎ (is_lt o ≡ true)
decided o Less e h = absurd (false≢true (sym h))
decided o Equal e h = inl refl
decided o Greater e h = inr (ap is_lt e)

pub strictly : (xs : List Part) → AllAdjacentBelow (λ x y. part_before y x ≡ false) xs (length xs) → list_all (λ x. nat_lt x.from x.to) xs ≡ true → IsHadOnce xs → each_two part_before xs ≡ true
strictly xs order filled once = each_placed part_before xs (λ i j d less within.
    let x = get_or xs i d in
    let y = get_or xs j d in
    let far = sorted_far part_before (ranks_by nat_list_cmp_total part_key) xs (λ k e z h. order k e h) i j d (omega (arith, less)) within in
    by i j d less within (decided (slice_cmp nat_cmp (part_key x) (part_key y)) (slice_cmp nat_cmp (part_key y) (part_key x)) (nat_list_cmp_total.antisymm (part_key x) (part_key y)) far))
  where
    by : (i j : ℕ) (d : Part) → i < j → j < length xs → (slice_cmp nat_cmp (part_key (get_or xs j d)) (part_key (get_or xs i d)) ≡ Equal) ⊎ (part_before (get_or xs i d) (get_or xs j d) ≡ true) → part_before (get_or xs i d) (get_or xs j d) ≡ true
    by i j d less within (inr h) = h
    by i j d less within (inl e) =
        let x = get_or xs i d in
        let y = get_or xs j d in
        let p : Place = record { link = x.link; mm = x.from; side = x.side } in
        let same = exact_bytes (part_key y) (part_key x) e in
        let two = two_counted (has_for x.asset p) xs i j d less within
        (has_first x x refl (all_at_place (λ z. nat_lt z.from z.to) xs i d filled (omega (arith, less, within))))
        (has_first x y same (all_at_place (λ z. nat_lt z.from z.to) xs j d filled within)) in
        let one = once x.asset p in
        absurd (omega (arith, two, one))
