-- How many assets have one of the numbers of a list: as many as the list has different numbers.
use Rattle.std.proofs.Common.{◌≡◌, ℕ, ◌+◌, ◌-◌, ◌<◌, ◌≤◌, Bool, true, false, not, inl, List, [], ◌∷◌, ◌++◌, length, map, take, get_or, length-take-le, get_or-take, refl, sym, ap, subst, ◌∙◌, arith, take_all}
use Rattle.std.specs.Prelude.{◌||◌, nat_eq, IsPermutation, count_by}
use Rattle.std.specs.List.{list_all, list_any}
use Rattle.std.specs.List.Sorted.{IsSorted}
use Rattle.std.specs.Cmp.{nat_cmp_total, both_ways as same_truth}
use Rattle.std.specs.Ordering.{nat_cmp, is_lt}
use Rattle.std.proofs.lemmas.Bool.{both_ways, eq-eqb, eqb-true, false≢true, false_from_ne_true, ltb-true}
use Rattle.std.proofs.lemmas.List.{take_more}
use Rattle.std.proofs.lemmas.List.Folds.{list_any-append, list_all-map}
use Rattle.std.proofs.lemmas.List.Sorted.{sorted_far, ranks_by, list_any-IsPermutation, All-permutation}
use Rattle.std.proofs.lemmas.List.Sums.{AllPass-from_list_all, list_all-from_AllPass}
use Rattle.std.proofs.lemmas.Map.Keys.{ge_from_not_lt}
use Rattle.lrs_measure.specs.Lists.{In, each_two}
use Rattle.lrs_measure.proofs.Counts.{at_most_one, none_passes, some_counted}
use Rattle.lrs_measure.proofs.Members.{any_found, any_of, list_any-map, In-append_right}
use Rattle.lrs_measure.proofs.Places.{place_in, passes_at}
use Rattle.lrs_events.specs.declared.class.Asset.{Asset}
use Rattle.lrs_machine.specs.Sound.{asset_before}
use Rattle.lrs_report_lists.specs.declared.length_lists.entries.LengthEntry.{LengthEntry}
use Rattle.lrs_report_lists.specs.Length.Parts.{holders, is_held_by, is_number_of, numbered}
use Rattle.lrs_report_lists.proofs.Length.Counts.{counted-or}
use Rattle.lrs_report_lists.proofs.Length.Tests.{or_nothing}

-- ---- the assets of numbers

module _ (assets : List Asset) (order : each_two asset_before assets ≡ true) where
  -- of one number there is one asset
  one_numbered : (n : ℕ) → is_number_of assets n ≡ true → count_by (λ a. nat_eq n a.number) assets ≡ 1
  one_numbered n h =
      let found = any_found (λ a. nat_eq a.number n) assets h in
      let same : n ≡ found.0.number = sym (eqb-true found.0.number n found.2) in
      let least = some_counted (λ a. nat_eq n a.number) assets (any_of (λ a. nat_eq n a.number) found.0 assets found.1 (eq-eqb n found.0.number same)) in
      let most = at_most_one (λ a. nat_eq n a.number) asset_before assets order
      (λ x y m k l p q. let less = ltb-true x.number y.number l in let a = eqb-true n x.number p in let b = eqb-true n y.number q in omega (arith, less, a, b)) in
      omega (arith, least, most)

  abbrev has_some : List ℕ → Asset → Bool
  has_some numbers a = list_any (λ n. nat_eq n a.number) numbers

  one_more : (numbers : List ℕ) (n : ℕ) (a : Asset) → has_some (numbers ++ n ∷ []) a ≡ (has_some numbers a || nat_eq n a.number)
  one_more numbers n a = list_any-append (λ m. nat_eq m a.number) numbers (n ∷ []) ∙ ap (λ b. has_some numbers a || b) (or_nothing (nat_eq n a.number))

  -- a number that is the asset's is among those in which it is found
  among : (numbers : List ℕ) (n : ℕ) (a : Asset) → n ≡ a.number → has_some numbers a ≡ list_any (λ m. nat_eq m n) numbers
  among numbers n a same = ap (λ k. list_any (λ m. nat_eq m k) numbers) (sym same)

  -- a number that is there already
  pub numbered_again : (numbers : List ℕ) (n : ℕ) → list_any (λ m. nat_eq m n) numbers ≡ true → numbered (numbers ++ n ∷ []) assets ≡ numbered numbers assets
  numbered_again numbers n h = λ i. count_by (λ a. (one_more numbers n a ∙ by a (nat_eq n a.number) refl) i) assets
    where
      by : (a : Asset) (b : Bool) → nat_eq n a.number ≡ b → (has_some numbers a || b) ≡ has_some numbers a
      by a true e = ap (λ c. c || true) (among numbers n a (eqb-true n a.number e) ∙ h) ∙ sym (among numbers n a (eqb-true n a.number e) ∙ h)
      by a false e = or_nothing (has_some numbers a)

  -- a number that is not
  pub numbered_more : (numbers : List ℕ) (n : ℕ) → is_number_of assets n ≡ true → list_any (λ m. nat_eq m n) numbers ≡ false → numbered (numbers ++ n ∷ []) assets ≡ numbered numbers assets + 1
  numbered_more numbers n known h =
      (λ i. count_by (λ a. one_more numbers n a i) assets)
      ∙ counted-or (has_some numbers) (λ a. nat_eq n a.number) assets apart
      ∙ ap (λ k. numbered numbers assets + k) (one_numbered n known)
    where
      apart : (a : Asset) → has_some numbers a ≡ true → nat_eq n a.number ≡ false
      apart a m = false_from_ne_true (nat_eq n a.number) (λ e. both_ways (list_any (λ k. nat_eq k n) numbers) h (sym (among numbers n a (eqb-true n a.number e)) ∙ m))

-- ---- numbers in their order

-- a number stands before the place of its like just where it stands next to it
pub like_before : (numbers : List ℕ) (i : ℕ) (d : ℕ) → IsSorted nat_cmp numbers → i + 1 < length numbers
    → nat_eq (get_or numbers i d) (get_or numbers (i + 1) d) ≡ list_any (λ m. nat_eq m (get_or numbers (i + 1) d)) (take (i + 1) numbers)
like_before numbers i d up within = same_truth (nat_eq here next) (list_any (λ m. nat_eq m next) (take (i + 1) numbers)) there back
  where
    here : ℕ
    here = get_or numbers i d

    next : ℕ
    next = get_or numbers (i + 1) d

    low : (j k : ℕ) → j ≤ k → k < length numbers → get_or numbers j d ≤ get_or numbers k d
    low j k le l = ge_from_not_lt (get_or numbers k d) (get_or numbers j d) (sorted_far (λ x y. is_lt (nat_cmp x y)) (ranks_by nat_cmp_total (λ (n : ℕ). n)) numbers up j k d le l)

    there : nat_eq here next ≡ true → list_any (λ m. nat_eq m next) (take (i + 1) numbers) ≡ true
    there e = any_of (λ m. nat_eq m next) here (take (i + 1) numbers) (subst (In here) (sym (take_more numbers i d (omega (arith, within)))) (In-append_right here (take i numbers) (here ∷ []) (inl refl))) e

    back : list_any (λ m. nat_eq m next) (take (i + 1) numbers) ≡ true → nat_eq here next ≡ true
    back h =
        let found = any_found (λ m. nat_eq m next) (take (i + 1) numbers) h in
        let place = place_in found.0 (take (i + 1) numbers) found.1 in
        let len = length-take-le (i + 1) numbers (omega (arith, within)) in
        let before : place.0 < i + 1 = omega (arith, place.1, len) in
        let at : get_or numbers place.0 d ≡ found.0 = sym (get_or-take (i + 1) numbers place.0 d before) ∙ place.2 d in
        let a = low place.0 i (omega (arith, before)) (omega (arith, within)) in
        let b = low i (i + 1) (omega arith) within in
        let same = eqb-true found.0 next found.2 in
        eq-eqb here next (omega (arith, at, a, b, same))

pub like_next : (numbers : List ℕ) (i : ℕ) (d : ℕ) → IsSorted nat_cmp numbers → 0 < i → i < length numbers
    → not (nat_eq (get_or numbers (i - 1) d) (get_or numbers i d)) ≡ not (list_any (λ m. nat_eq m (get_or numbers i d)) (take i numbers))
like_next numbers i d up some within =
    let e : i - 1 + 1 ≡ i = omega (arith, some) in
    subst (λ (k : ℕ). not (nat_eq (get_or numbers (i - 1) d) (get_or numbers k d)) ≡ not (list_any (λ m. nat_eq m (get_or numbers k d)) (take k numbers))) e
    (ap not (like_before numbers (i - 1) d up (omega (arith, some, within))))

-- ---- the loop

-- so many assets have some of the first i numbers
abbrev pub Counted : List ℕ → ℕ → ℕ → Type 0
Counted numbers i count = (assets : List Asset) → each_two asset_before assets ≡ true → list_all (is_number_of assets) numbers ≡ true → count ≡ numbered (take i numbers) assets

pub counted_new : (numbers : List ℕ) (i count : ℕ) (d : ℕ) → i < length numbers → list_any (λ m. nat_eq m (get_or numbers i d)) (take i numbers) ≡ false → Counted numbers i count → Counted numbers (i + 1) (count + 1)
counted_new numbers i count d l new before = λ assets order known.
    ap (λ k. k + 1) (before assets order known)
    ∙ sym (ap (λ ns. numbered ns assets) (take_more numbers i d l) ∙ numbered_more assets order (take i numbers) (get_or numbers i d) (passes_at (is_number_of assets) numbers i d known l) new)

pub counted_old : (numbers : List ℕ) (i count : ℕ) (d : ℕ) → i < length numbers → list_any (λ m. nat_eq m (get_or numbers i d)) (take i numbers) ≡ true → Counted numbers i count → Counted numbers (i + 1) count
counted_old numbers i count d l old before = λ assets order known.
    before assets order known
    ∙ sym (ap (λ ns. numbered ns assets) (take_more numbers i d l) ∙ numbered_again assets order (take i numbers) (get_or numbers i d) old)

pub counted_none : (numbers : List ℕ) → Counted numbers 0 0
counted_none numbers = λ assets order known. sym (none_passes (λ a. false) assets (λ a m h. false≢true h))

pub counted_all : (numbers : List ℕ) (i count : ℕ) → length numbers ≤ i → Counted numbers i count → Counted numbers (length numbers) count
counted_all numbers i count past h = λ assets order known. h assets order known ∙ ap (λ ns. numbered ns assets) (take_all i numbers past ∙ sym (take_all (length numbers) numbers (omega arith)))

-- ---- numbers of stretches

-- the numbers of stretches in another order count the assets that hold them
pub holders_are : (entries : List LengthEntry) (numbers sorted : List ℕ) (count : ℕ) → numbers ≡ map (λ e. e.asset) entries → IsPermutation numbers sorted
    → ((assets : List Asset) → each_two asset_before assets ≡ true → list_all (is_number_of assets) sorted ≡ true → count ≡ numbered sorted assets)
    → (assets : List Asset) → each_two asset_before assets ≡ true → list_all (is_held_by assets) entries ≡ true → count ≡ holders entries assets
holders_are entries numbers sorted count is same counts assets order held =
    let known : list_all (is_number_of assets) numbers ≡ true = ap (list_all (is_number_of assets)) is ∙ list_all-map (is_number_of assets) (λ e. e.asset) entries ∙ held in
    let all = list_all-from_AllPass (is_number_of assets) sorted (All-permutation (λ n. is_number_of assets n ≡ true) numbers sorted same (AllPass-from_list_all (is_number_of assets) numbers known)) in
    counts assets order all ∙ (λ i. count_by (λ a. at a i) assets)
  where
    at : (a : Asset) → list_any (λ n. nat_eq n a.number) sorted ≡ list_any (λ e. nat_eq e.asset a.number) entries
    at a = sym (list_any-IsPermutation (λ n. nat_eq n a.number) numbers sorted same) ∙ ap (list_any (λ n. nat_eq n a.number)) is ∙ list_any-map (λ n. nat_eq n a.number) (λ e. e.asset) entries
