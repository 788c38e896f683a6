-- Each asset was entered by the one edit that it names.
use Rattle.std.proofs.Common.{◌≡◌, ℕ, ◌<◌, ◌≤◌, Bool, true, false, not, List, [], ◌∷◌, map, length, get_or, refl, sym, ap, ◌∙◌, arith, Some, None, Err, IsPermutation, Less, Equal, Greater, ◌⊎◌, inl, inr}
use Rattle.std.specs.Prelude.{◌&&◌, ◌||◌, nat_eq}
use Rattle.std.specs.List.{list_any, list_all}
use Rattle.std.specs.Ordering.{nat_cmp}
use Rattle.std.specs.Option.{option_map_or}
use Rattle.std.specs.Cmp.{both_ways, nat_cmp_total}
use Rattle.std.specs.List.Sorted.{IsSorted, IsBinarySearchResult, IsPartitionPoint}
use Rattle.std.proofs.lemmas.List.Sorted.{searchable_from_sorted}
use Rattle.std.proofs.lemmas.Bool.{and_parts, and_from, cases_lt, false_from_ne_true, eq-eqb, eqb-true}
use Rattle.lrs_measure.specs.Lists.{In}
use Rattle.lrs_measure.proofs.Members.{any_found, any_of, all_at, all_of}
use Rattle.lrs_measure.proofs.Places.{place_in, member_at}
use Rattle.lrs_events.specs.declared.class.Asset.{Asset}
use Rattle.lrs_events.specs.declared.part.Part.{Part}
use Rattle.lrs_machine.specs.Sound.{is_origin, are_origins}
use Rattle.lrs_image_sound.specs.Origins.{has_number, is_named, agrees, agrees_with_all}
use Rattle.lrs_image_sound.proofs.Along.{along_permutation}
use Rattle.lrs_image_sound.proofs.Keyed.{same_number, number_ties}

-- ---- one part

nat_eq-comm : (m n : ℕ) → nat_eq m n ≡ nat_eq n m
nat_eq-comm m n = both_ways (nat_eq m n) (nat_eq n m) (λ t. eq-eqb n m (sym (eqb-true m n t))) (λ t. eq-eqb m n (sym (eqb-true n m t)))

-- an asset of the part's number that names another edit
abbrev objects : Part → Asset → Bool
objects p a = nat_eq a.number p.asset && not (nat_eq p.edit a.entered_by)

agrees_unless : (assets : List Asset) (p : Part) → agrees_with_all assets p ≡ not (list_any (objects p) assets)
agrees_unless [] p = refl
agrees_unless (a ∷ rest) p =
    (λ j. (not (nat_eq-comm p.asset a.number j) || nat_eq p.edit a.entered_by) && agrees_unless rest p j) ∙ by (nat_eq a.number p.asset) (nat_eq p.edit a.entered_by) (list_any (objects p) rest)
  where
    by : (b c d : Bool) → ((not b || c) && not d) ≡ not ((b && not c) || d)
    by true true d = refl
    by true false d = refl
    by false c d = refl

twice : (b : Bool) → not (not b) ≡ b
twice true = refl
twice false = refl

pub some_agrees : (assets : List Asset) (p : Part) (a : Asset) → ((test : Asset → Bool) → list_any (λ x. nat_eq x.number p.asset && test x) assets ≡ option_map_or test (Some a) false) → nat_eq p.edit a.entered_by ≡ agrees_with_all assets p
some_agrees assets p a h = sym (agrees_unless assets p ∙ ap not (h (λ x. not (nat_eq p.edit x.entered_by))) ∙ twice (nat_eq p.edit a.entered_by))

pub none_agrees : (assets : List Asset) (p : Part) → ((test : Asset → Bool) → list_any (λ x. nat_eq x.number p.asset && test x) assets ≡ option_map_or test None false) → true ≡ agrees_with_all assets p
none_agrees assets p h = sym (agrees_unless assets p ∙ ap not (h (λ x. not (nat_eq p.edit x.entered_by))))

-- ---- numbers in order, searched

pub number_at : (xs : List ℕ) (n at : ℕ) → at < length xs → ((d : ℕ) → nat_cmp (get_or xs at d) n ≡ Equal) → true ≡ has_number xs n
number_at xs n at within is = sym (any_of (λ m. nat_eq m n) (get_or xs at 0) xs (member_at xs at 0 within) (eq-eqb (get_or xs at 0) n (same_number (get_or xs at 0) n (is 0))))

pub number_nowhere : (xs : List ℕ) (n i : ℕ) → IsSorted nat_cmp xs → IsBinarySearchResult (λ y. nat_cmp y n) xs (Err i) → false ≡ has_number xs n
number_nowhere xs n i sorted is = sym (false_from_ne_true (has_number xs n) (λ h.
    let f = any_found (λ m. nat_eq m n) xs h in
    let place = place_in f.0 xs f.1 in
    let tie : nat_cmp (get_or xs place.0 0) n ≡ Equal = number_ties (get_or xs place.0 0) n (place.2 0 ∙ eqb-true f.0 n f.2) in
    by place.0 place.1 tie (is (searchable_from_sorted nat_cmp_total (λ (m : ℕ). m) xs n sorted)) (cases_lt place.0 i)))
  where
    by : (m : ℕ) → m < length xs → nat_cmp (get_or xs m 0) n ≡ Equal → IsPartitionPoint (λ y. nat_cmp y n ≡ Less) (λ y. nat_cmp y n ≡ Greater) xs i → (m < i) ⊎ (i ≤ m) → ⊥
    by m in' e point (inl less) = let p : Less ≡ Equal = sym (point.0 m 0 (omega arith) less) ∙ e in absurd cc
    by m in' e point (inr more) = let p : Greater ≡ Equal = sym (point.1 m 0 more in') ∙ e in absurd cc

-- ---- all of them

some_part : (n : ℕ) (entered : List Part) → list_any (λ p. nat_eq p.asset n) entered ≡ has_number (map (λ p. p.asset) entered) n
some_part n [] = refl
some_part n (p ∷ rest) = ap (λ b. nat_eq p.asset n || b) (some_part n rest)

or_turn : (p q a : Bool) → (p || (q || a)) ≡ (q || (p || a))
or_turn true true a = refl
or_turn true false a = refl
or_turn false true a = refl
or_turn false false a = refl

-- a number is among numbers in whatever order
pub has-permutation : (n : ℕ) (xs ys : List ℕ) → IsPermutation xs ys → has_number xs n ≡ has_number ys n
has-permutation n = along_permutation (λ xs ys. has_number xs n ≡ has_number ys n) (λ xs. refl) (λ z xs ys h. ap (λ b. nat_eq z n || b) h)
    (λ x y xs. or_turn (nat_eq x n) (nat_eq y n) (has_number xs n)) (λ xs ys zs h k. h ∙ k)

module _ (entered : List Part) (assets : List Asset) (numbers : List ℕ) (same : IsPermutation (map (λ (p : Part). p.asset) entered) numbers) where
  is_it : (a : Asset) → is_origin entered a ≡ (is_named numbers a && list_all (agrees a) entered)
  is_it a = ap (λ b. b && list_all (agrees a) entered) (some_part a.number entered ∙ has-permutation a.number (map (λ (p : Part). p.asset) entered) numbers same)

  pub origins_answer : (list_all (is_named numbers) assets && list_all (agrees_with_all assets) entered) ≡ are_origins entered assets
  origins_answer = both_ways (list_all (is_named numbers) assets && list_all (agrees_with_all assets) entered) (are_origins entered assets)
      (λ t. let both = and_parts (list_all (is_named numbers) assets) (list_all (agrees_with_all assets) entered) t in
      all_of (is_origin entered) assets (λ a m. is_it a ∙ and_from (is_named numbers a) (list_all (agrees a) entered) (all_at (is_named numbers) a assets both.0 m)
      (all_of (agrees a) entered (λ p n. all_at (λ b. agrees b p) a assets (all_at (agrees_with_all assets) p entered both.1 n) m))))
      (λ t. let one : (a : Asset) → In a assets → (is_named numbers a ≡ true) × (list_all (agrees a) entered ≡ true) = λ a m. and_parts (is_named numbers a) (list_all (agrees a) entered) (sym (is_it a) ∙ all_at (is_origin entered) a assets t m) in
      and_from (list_all (is_named numbers) assets) (list_all (agrees_with_all assets) entered) (all_of (is_named numbers) assets (λ a m. (one a m).0))
      (all_of (agrees_with_all assets) entered (λ p n. all_of (λ a. agrees a p) assets (λ a m. all_at (agrees a) p entered (one a m).1 n))))
