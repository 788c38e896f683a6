-- Where a binary search finds the class of an asset, and the place of an exclusive class.
use Rattle.std.proofs.Common.{◌≡◌, ℕ, ◌+◌, ◌<◌, ◌≤◌, zero, suc, Bool, true, false, cond, List, [], ◌∷◌, length, get_or, refl, sym, ap, subst, ◌∙◌, arith, Result, Ok, Err, Option, Some, None, slice_get, Ordering, Less, Equal, Greater, ◌⊎◌, inl, inr}
use Rattle.std.specs.Prelude.{◌&&◌, ◌||◌, nat_eq, nat_lt}
use Rattle.std.specs.List.{AllByRecursion, list_any, count_by}
use Rattle.std.specs.List.Sorted.{IsPartitionPoint, IsBinarySearchResult, IsSearchInRange}
use Rattle.std.specs.Ordering.{nat_cmp, is_lt, is_eq, ordering_reverse}
use Rattle.std.specs.Cmp.{IsTotalOrder, nat_cmp_total, nat_eq_equiv, unsigned_ties}
use Rattle.std.specs.Cmp.Lexicographic.{nat_list_cmp_total, texts_ties}
use Rattle.std.proofs.lemmas.Bool.{false≢true, and_parts, and_from, and_right, cases_lt, cases_Bool, cases_order, eq-eqb, eqb-true, eqb-false, ne_eqb, false_from_ne_true}
use Rattle.std.proofs.lemmas.List.Sorted.{searchable_from_sorted}
use Rattle.lrs_measure.specs.Lists.{each_two}
use Rattle.lrs_measure.specs.Texts.{Name, name_cmp, same_name}
use Rattle.lrs_measure.proofs.Members.{any_found, any_of}
use Rattle.lrs_measure.proofs.Places.{two_pass, place_in, member_at}
use Rattle.lrs_events.specs.declared.class.Class.{Class}
use Rattle.lrs_events.specs.declared.class.Asset.{Asset}
use Rattle.lrs_machine.specs.Segments.{is_exclusive}
use Rattle.lrs_machine.specs.Sound.{class_before}
use Rattle.lrs_image_sound.specs.Exclusive.{excludes, is_exclusive_at}

-- ---- rows in the order of their keys, searched

module _ {X : Type 0} where
  slice_get_within : (xs : List X) (k : ℕ) (d : X) → k < length xs → slice_get xs k ≡ Some (get_or xs k d)
  slice_get_within [] k d h = absurd (omega (arith, h))
  slice_get_within (x ∷ xs) zero d h = refl
  slice_get_within (x ∷ xs) (suc k) d h = slice_get_within xs k d (omega (arith, h))

  slice_get_past : (xs : List X) (k : ℕ) → length xs ≤ k → slice_get xs k ≡ None
  slice_get_past [] k h = refl
  slice_get_past (x ∷ xs) zero h = absurd (omega (arith, h))
  slice_get_past (x ∷ xs) (suc k) h = slice_get_past xs k (omega (arith, h))

module _ {K Row : Type 0} {R : K → K → Ordering} (total : IsTotalOrder R) (key : Row → K) where
  abbrev before : Row → Row → Bool
  before a b = is_lt (R (key a) (key b))

  turned : (r s : Ordering) → r ≡ ordering_reverse s → is_lt s ≡ true → is_lt r ≡ false
  turned r Less e h = ap is_lt e
  turned r Equal e h = absurd (false≢true h)
  turned r Greater e h = absurd (false≢true h)

  rises : (rows : List Row) → each_two before rows ≡ true → (k : ℕ) (d : Row) → 0 ≤ k → k + 1 < length rows
      → is_lt (R (key (get_or rows (k + 1) d)) (key (get_or rows k d))) ≡ false
  rises rows h k d from to = turned _ _ (total.antisymm _ _) (two_pass before rows k (k + 1) d h (omega arith) to)

  -- what is found is the row of its key
  abbrev Found : List Row → K → Result ℕ ℕ → Type 0
  Found rows k (Ok i) = (m : ℕ) (d : Row) → m < length rows → R (key (get_or rows m d)) k ≡ Equal → m ≡ i
  Found rows k (Err i) = (m : ℕ) (d : Row) → m < length rows → R (key (get_or rows m d)) k ≡ Equal → ⊥

  not_less : (o : Ordering) → is_lt o ≡ true → o ≡ Equal → ⊥
  not_less Less h e = absurd cc
  not_less Equal h e = false≢true h
  not_less Greater h e = false≢true h

  one_row : (rows : List Row) (k : K) (i m : ℕ) (d : Row) → each_two before rows ≡ true → i < length rows → m < length rows → R (key (get_or rows i d)) k ≡ Equal → R (key (get_or rows m d)) k ≡ Equal → m ≡ i
  one_row rows k i m d h within in' e f = by (cases_order m i)
    where
      tied : R (key (get_or rows m d)) (key (get_or rows i d)) ≡ Equal
      tied = total.congr (key (get_or rows m d)) k (key (get_or rows i d)) f ∙ Rattle.std.proofs.lemmas.Cmp.tied_back total (key (get_or rows i d)) k e

      by : (m ≡ i) ⊎ ((m < i) ⊎ (i < m)) → m ≡ i
      by (inl same) = same
      by (inr (inl less)) = absurd (not_less _ (two_pass before rows m i d h less within) tied)
      by (inr (inr more)) = absurd (not_less _ (two_pass before rows i m d h more in') (Rattle.std.proofs.lemmas.Cmp.tied_back total (key (get_or rows m d)) (key (get_or rows i d)) tied))

  pub found : (rows : List Row) (k : K) (r : Result ℕ ℕ) → each_two before rows ≡ true → IsSearchInRange r (length rows) → IsBinarySearchResult (λ y. R (key y) k) rows r → Found rows k r
  found rows k (Ok i) h within at = λ m d in' e. one_row rows k i m d h within in' (at d) e
  found rows k (Err i) h within at = λ m d in' e. by m d in' e (at (searchable_from_sorted total key rows k (rises rows h))) (cases_lt m i)
    where
      by : (m : ℕ) (d : Row) → m < length rows → R (key (get_or rows m d)) k ≡ Equal → IsPartitionPoint (λ y. R (key y) k ≡ Less) (λ y. R (key y) k ≡ Greater) rows i → (m < i) ⊎ (i ≤ m) → ⊥
      by m d in' e point (inl less) = let p : Less ≡ Equal = sym (point.0 m d (omega arith) less) ∙ e in absurd cc
      by m d in' e point (inr more) = let p : Greater ≡ Equal = sym (point.1 m d more in') ∙ e in absurd cc

-- ---- the class of an asset

pub same_number : (m n : ℕ) → nat_cmp m n ≡ Equal → m ≡ n
same_number m n h = eqb-true m n (unsigned_ties m n ∙ ap is_eq h)

pub number_ties : (m n : ℕ) → m ≡ n → nat_cmp m n ≡ Equal
number_ties m n e = subst (λ k. nat_cmp m k ≡ Equal) e (Rattle.std.proofs.lemmas.Cmp.tied_itself nat_cmp_total m)

numbers_agree : (m n : ℕ) → nat_lt m n ≡ is_lt (nat_cmp m n)
numbers_agree m n = by (nat_lt m n) (nat_eq m n)
  where
    by : (b c : Bool) → b ≡ is_lt (cond b Less (cond c Equal Greater))
    by true c = refl
    by false true = refl
    by false false = refl

same_test : (x y : Bool) → (x ≡ true → y ≡ true) → (y ≡ true → x ≡ true) → x ≡ y
same_test true y f g = sym (f refl)
same_test false true f g = g refl
same_test false false f g = refl

module _ {Row : Type 0} (number : Row → ℕ) (test : Row → Bool) where
  abbrev is_it : ℕ → Row → Bool
  is_it n a = nat_eq (number a) n && test a

  abbrev rise : Row → Row → Bool
  rise a b = nat_lt (number a) (number b)

  row_at : (rows : List Row) (n : ℕ) (r : Result ℕ ℕ) → each_two rise rows ≡ true → IsSearchInRange r (length rows) → IsBinarySearchResult (λ y. nat_cmp (number y) n) rows r
      → Found nat_cmp_total number rows n r
  row_at rows n r order within at =
      found nat_cmp_total number rows n r (ap (λ t. each_two t rows) (λ j a b. sym (numbers_agree (number a) (number b)) j) ∙ order) within at

  pub row_found : (rows : List Row) (n at : ℕ) (d : Row) → each_two rise rows ≡ true → IsSearchInRange (let r : Result ℕ ℕ = Ok at in r) (length rows) → IsBinarySearchResult (λ y. nat_cmp (number y) n) rows (Ok at)
      → list_any (is_it n) rows ≡ test (get_or rows at d)
  row_found rows n at d order within is = same_test (list_any (is_it n) rows) (test (get_or rows at d)) there back
    where
      there : list_any (is_it n) rows ≡ true → test (get_or rows at d) ≡ true
      there h =
          let f = any_found (is_it n) rows h in
          let a = f.0 in
          let both = and_parts (nat_eq (number a) n) (test a) f.2 in
          let place = place_in a rows f.1 in
          let here : get_or rows place.0 d ≡ a = place.2 d in
          let tie : nat_cmp (number (get_or rows place.0 d)) n ≡ Equal = number_ties (number (get_or rows place.0 d)) n (ap number here ∙ eqb-true (number a) n both.0) in
          let one : place.0 ≡ at = row_at rows n (Ok at) order within is place.0 d place.1 tie in
          subst (λ z. test z ≡ true) (sym here ∙ ap (λ k. get_or rows k d) one) both.1

      back : test (get_or rows at d) ≡ true → list_any (is_it n) rows ≡ true
      back h =
          any_of (is_it n) (get_or rows at d) rows (member_at rows at d within)
          (and_from (nat_eq (number (get_or rows at d)) n) (test (get_or rows at d)) (eq-eqb (number (get_or rows at d)) n (same_number (number (get_or rows at d)) n (is d))) h)

  pub row_missing : (rows : List Row) (n i : ℕ) → each_two rise rows ≡ true → IsSearchInRange (let r : Result ℕ ℕ = Err i in r) (length rows) → IsBinarySearchResult (λ y. nat_cmp (number y) n) rows (Err i)
      → list_any (is_it n) rows ≡ false
  row_missing rows n i order within is = false_from_ne_true (list_any (is_it n) rows) (λ h.
      let f = any_found (is_it n) rows h in
      let a = f.0 in
      let both = and_parts (nat_eq (number a) n) (test a) f.2 in
      let place = place_in a rows f.1 in
      let tie : nat_cmp (number (get_or rows place.0 a)) n ≡ Equal = number_ties (number (get_or rows place.0 a)) n (ap number (place.2 a) ∙ eqb-true (number a) n both.0) in
      row_at rows n (Err i) order within is place.0 a place.1 tie)

-- a row of the number, whatever else is asked of it
pub row_known : {Row : Type 0} (number : Row → ℕ) (rows : List Row) (n : ℕ) → list_any (λ a. nat_eq (number a) n && true) rows ≡ list_any (λ a. nat_eq (number a) n) rows
row_known number [] n = refl
row_known number (a ∷ rest) n = (λ j. and_true (nat_eq (number a) n) j || row_known number rest n j)
  where
    and_true : (b : Bool) → (b && true) ≡ b
    and_true true = refl
    and_true false = refl

-- ---- a class by its name

names_tie : (a b : Name) → name_cmp a b ≡ Equal → same_name b a ≡ true
names_tie a b h = texts_ties b a ∙ ap is_eq (Rattle.std.proofs.lemmas.Cmp.tied_back nat_list_cmp_total a b h)

tie_names : (a b : Name) → same_name b a ≡ true → name_cmp a b ≡ Equal
tie_names a b h = Rattle.std.proofs.lemmas.Cmp.tied_back nat_list_cmp_total b a ((Rattle.std.specs.Cmp.Equal-is (name_cmp b a)).0 (sym (texts_ties b a) ∙ h))

abbrev Search : List Class → Name → Result ℕ ℕ → Type 0
Search rows n r = IsBinarySearchResult (λ y. name_cmp y.name n) rows r

name_found : (rows : List Class) (n : Name) (r : Result ℕ ℕ) → each_two class_before rows ≡ true → IsSearchInRange r (length rows) → Search rows n r → Found nat_list_cmp_total (λ (c : Class). c.name) rows n r
name_found rows n r order within at = found nat_list_cmp_total (λ (c : Class). c.name) rows n r order within at

pub class_at : (rows : List Class) (n : Name) (at : ℕ) → IsSearchInRange (let r : Result ℕ ℕ = Ok at in r) (length rows) → Search rows n (Ok at) → list_any (λ c. same_name c.name n) rows ≡ true
class_at [] n at within is = absurd (omega (arith, within))
class_at (d ∷ rest) n at within is =
    any_of (λ c. same_name c.name n) (get_or (d ∷ rest) at d) (d ∷ rest) (member_at (d ∷ rest) at d within)
    (texts_ties (get_or (d ∷ rest) at d).name n ∙ ap is_eq (is d))

pub class_nowhere : (rows : List Class) (n : Name) (i : ℕ) → each_two class_before rows ≡ true → IsSearchInRange (let r : Result ℕ ℕ = Err i in r) (length rows) → Search rows n (Err i) → list_any (λ c. same_name c.name n) rows ≡ false
class_nowhere rows n i order within is = false_from_ne_true (list_any (λ c. same_name c.name n) rows) (λ h.
    let f = any_found (λ c. same_name c.name n) rows h in
    let c = f.0 in
    let place = place_in c rows f.1 in
    let tie : name_cmp c.name n ≡ Equal = (Rattle.std.specs.Cmp.Equal-is (name_cmp c.name n)).0 (sym (texts_ties c.name n) ∙ f.2) in
    name_found rows n (Err i) order within is place.0 c place.1 (ap (λ z. name_cmp z.name n) (place.2 c) ∙ tie))

-- ---- the place of an exclusive class

pub place_found : (rows : List Class) (n : Name) (at : ℕ) (d : Class) → each_two class_before rows ≡ true → IsSearchInRange (let r : Result ℕ ℕ = Ok at in r) (length rows) → Search rows n (Ok at)
    → (k : ℕ) → is_exclusive_at (slice_get rows k) n ≡ (is_exclusive (get_or rows at d).kind && nat_eq at k)
place_found rows n at d order within is k = by (cases_lt k (length rows)) (cases_Bool (nat_eq at k))
  where
    low : at < length rows
    low = within

    kind : Bool
    kind = is_exclusive (get_or rows at d).kind

    here : k < length rows → is_exclusive_at (slice_get rows k) n ≡ (is_exclusive (get_or rows k d).kind && same_name n (get_or rows k d).name)
    here lt = ap (λ o. is_exclusive_at o n) (slice_get_within rows k d lt)

    by : (k < length rows) ⊎ (length rows ≤ k) → (nat_eq at k ≡ true) ⊎ (nat_eq at k ≡ false) → is_exclusive_at (slice_get rows k) n ≡ (is_exclusive (get_or rows at d).kind && nat_eq at k)
    by (inl lt) (inl e) =
        let same : at ≡ k = eqb-true at k e in
        let named : same_name n (get_or rows k d).name ≡ true = names_tie (get_or rows k d).name n (subst (λ m. name_cmp (get_or rows m d).name n ≡ Equal) same (is d)) in
        here lt ∙ (λ i. is_exclusive (get_or rows (sym same i) d).kind && named i) ∙ sym (ap (λ b. is_exclusive (get_or rows at d).kind && b) e)
    by (inl lt) (inr f) =
        let other : same_name n (get_or rows k d).name ≡ false = false_from_ne_true (same_name n (get_or rows k d).name) (λ t.
        let one : k ≡ at = name_found rows n (Ok at) order within is k d lt (tie_names (get_or rows k d).name n t) in
        eqb-false at k f (sym one)) in
        here lt ∙ and_right (is_exclusive (get_or rows k d).kind) (same_name n (get_or rows k d).name) other ∙ sym (and_right (is_exclusive (get_or rows at d).kind) (nat_eq at k) f)
    by (inr ge) e =
        ap (λ o. is_exclusive_at o n) (slice_get_past rows k ge)
        ∙ sym (and_right (is_exclusive (get_or rows at d).kind) (nat_eq at k) (ne_eqb at k (λ s. let l = low in omega (arith, s, ge, l))))

pub place_missing : (rows : List Class) (n : Name) (i : ℕ) → each_two class_before rows ≡ true → IsSearchInRange (let r : Result ℕ ℕ = Err i in r) (length rows) → Search rows n (Err i)
    → (k : ℕ) → is_exclusive_at (slice_get rows k) n ≡ false
place_missing rows n i order within is k = by (slice_get rows k) refl
  where
    by : (o : Option Class) → slice_get rows k ≡ o → is_exclusive_at (slice_get rows k) n ≡ false
    by None e = ap (λ o. is_exclusive_at o n) e
    by (Some c) e = ap (λ o. is_exclusive_at o n) e ∙ and_right (is_exclusive c.kind) (same_name n c.name) (false_from_ne_true (same_name n c.name) (λ t. clash (cases_lt k (length rows)) t))
      where
        clash : (k < length rows) ⊎ (length rows ≤ k) → same_name n c.name ≡ true → ⊥
        clash (inl lt) t =
            let s : Some (get_or rows k c) ≡ Some c = sym (slice_get_within rows k c lt) ∙ e in
            let same : get_or rows k c ≡ c = cc in
            name_found rows n (Err i) order within is k c lt (tie_names (get_or rows k c).name n (ap (λ z. same_name n z.name) same ∙ t))
        clash (inr ge) t = let s : None ≡ Some c = sym (slice_get_past rows k ge) ∙ e in absurd cc

-- ---- both

pub class_excludes : (assets : List Asset) (o : Option Class) (n : ℕ) (name : Name) → ((class : Name) → list_any (λ a. nat_eq a.number n && same_name a.class class) assets ≡ same_name name class)
    → excludes assets o n ≡ is_exclusive_at o name
class_excludes assets None n name h = refl
class_excludes assets (Some c) n name h = ap (λ b. is_exclusive c.kind && b) (h c.name)

pub none_excludes : (assets : List Asset) (o : Option Class) (n : ℕ) → ((class : Name) → list_any (λ a. nat_eq a.number n && same_name a.class class) assets ≡ false) → excludes assets o n ≡ false
none_excludes assets None n h = refl
none_excludes assets (Some c) n h = and_right (is_exclusive c.kind) (list_any (λ a. nat_eq a.number n && same_name a.class c.name) assets) (h c.name)
