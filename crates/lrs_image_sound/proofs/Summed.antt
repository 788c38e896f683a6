-- Sums of the places of each asset, over parts in the order of their assets.
use Rattle.std.proofs.Common.{◌≡◌, ℕ, ◌+◌, ◌-◌, ◌<◌, ◌≤◌, Bool, true, false, cond, ◌⊎◌, inl, inr, List, [], ◌∷◌, take, drop, length, get_or, refl, sym, ap, subst, ◌∙◌, arith, ◌↔◌, IsPermutation, Less, is_lt}
use Rattle.std.specs.Prelude.{nat_eq}
use Rattle.std.specs.Bool.{OnTrue, OnFalse}
use Rattle.std.proofs.lemmas.List.Sorted.{sum_by-IsPermutation}
use Rattle.std.specs.Ordering.{nat_cmp, bool_cmp, ordering_then}
use Rattle.std.proofs.lemmas.Bool.{true≢false, cases_lt, cases_eq, cases_Bool, eq-eqb, ne_eqb, OnTrue_at, OnFalse_at}
use Rattle.std.proofs.lemmas.Bool.Decides.{nat_tests}
use Rattle.std.proofs.lemmas.List.{take_more, get_or_default, take-append-drop}
use Rattle.std.proofs.lemmas.List.Sums.{sum_by-cons, sum_by-append}
use Rattle.lrs_events.specs.declared.part.Part.{Part}
use Rattle.lrs_machine.specs.Sound.{pairs_of}
use Rattle.lrs_image_sound.specs.SweptParts.{is_right, IsInOrder}

abbrev size_for : ℕ → Part → ℕ
size_for a p = cond (nat_eq p.asset a) (p.to - p.from) 0

mine : (a : ℕ) (p : Part) → p.asset ≡ a → size_for a p ≡ p.to - p.from
mine a p e = ap (λ b. cond b (p.to - p.from) 0) (eq-eqb p.asset a e)

other : (a : ℕ) (p : Part) → (p.asset ≡ a → ⊥) → size_for a p ≡ 0
other a p e = ap (λ b. cond b (p.to - p.from) 0) (ne_eqb p.asset a e)

pairs_more : (a : ℕ) (xs : List Part) (i : ℕ) (d : Part) → i < length xs → pairs_of a (take (i + 1) xs) ≡ pairs_of a (take i xs) + size_for a (get_or xs i d)
pairs_more a xs i d lt =
    let e = ap (pairs_of a) (take_more xs i d lt) in
    let f = sum_by-append (size_for a) (take i xs) (get_or xs i d ∷ []) in
    let g = sum_by-cons (size_for a) (get_or xs i d) [] in
    omega (arith, e, f, g)

less_is_less : (m n : ℕ) → m < n → nat_cmp m n ≡ Less
less_is_less m n h = grind (arith, nat_tests)

assets_rise : (x y : Part) → IsInOrder x y → x.asset ≤ y.asset
assets_rise x y h = by (cases_lt y.asset x.asset)
  where
    by : (y.asset < x.asset) ⊎ (x.asset ≤ y.asset) → x.asset ≤ y.asset
    by (inl less) = absurd (true≢false (subst (λ o. is_lt (ordering_then (ordering_then (ordering_then o (nat_cmp y.link x.link)) (bool_cmp (is_right y.side) (is_right x.side))) (nat_cmp y.from x.from)) ≡ false) (less_is_less y.asset x.asset less) h))
    by (inr le) = le

-- what is summed of the first i parts
pub record IsSummed (xs : List Part) (most i last sum : ℕ) : Type 0 where
  pub is : sum ≡ pairs_of last (take i xs)
  pub within : (a : ℕ) → pairs_of a (take i xs) ≤ most
  pub above : (a : ℕ) → last < a → pairs_of a (take i xs) ≡ 0
  pub first : i ≡ 0 → last ≡ 0
  pub behind : (d : Part) → 0 < i → last ≡ (get_or xs (i - 1) d).asset

pub none_summed : (xs : List Part) (most : ℕ) → IsSummed xs most 0 0 0
none_summed xs most = record { is = refl; within = λ a. omega arith; above = λ a h. refl; first = λ e. refl; behind = λ d h. absurd (omega (arith, h)) }

module _ (xs : List Part) (most i last sum before : ℕ) (d : Part) (lt : i < length xs)
    (order : (k : ℕ) (d : Part) → k + 1 < length xs → IsInOrder (get_or xs k d) (get_or xs (k + 1) d)) (s : IsSummed xs most i last sum)
    (same : (get_or xs i d).asset ≡ last → before ≡ sum) (new : ((get_or xs i d).asset ≡ last → ⊥) → before ≡ 0) where
  abbrev x : Part
  x = get_or xs i d

  abbrev size : ℕ
  size = x.to - x.from

  rises : last ≤ x.asset
  rises = by (cases_eq i 0)
    where
      by : (i ≡ 0) ⊎ (i ≡ 0 → ⊥) → last ≤ x.asset
      by (inl e) = let z = s.first e in omega (arith, z)
      by (inr n) =
          let j : i - 1 + 1 ≡ i = omega (arith, n) in
          let b = s.behind d (omega (arith, n)) in
          let o = assets_rise (get_or xs (i - 1) d) (get_or xs (i - 1 + 1) d) (order (i - 1) d (omega (arith, j, lt))) in
          let e : (get_or xs (i - 1 + 1) d).asset ≡ x.asset = ap (λ k. (get_or xs k d).asset) j in
          omega (arith, b, o, e)

  so_far : before ≡ pairs_of x.asset (take i xs)
  so_far = by (cases_eq x.asset last)
    where
      by : (x.asset ≡ last) ⊎ (x.asset ≡ last → ⊥) → before ≡ pairs_of x.asset (take i xs)
      by (inl e) = same e ∙ s.is ∙ ap (λ a. pairs_of a (take i xs)) (sym e)
      by (inr n) = let up = rises in new n ∙ sym (s.above x.asset (omega (arith, up, n)))

  here : pairs_of x.asset (take (i + 1) xs) ≡ before + size
  here = let m = pairs_more x.asset xs i d lt in let o = mine x.asset x refl in let f = so_far in omega (arith, m, o, f)

  elsewhere : (a : ℕ) → (x.asset ≡ a → ⊥) → pairs_of a (take (i + 1) xs) ≡ pairs_of a (take i xs)
  elsewhere a n = let m = pairs_more a xs i d lt in let o = other a x n in omega (arith, m, o)

  pub summed_more : before + size ≤ most → IsSummed xs most (i + 1) x.asset (before + size)
  summed_more h = record {
    is = sym here;
    within = λ a. by a (cases_eq x.asset a);
    above = λ a less. let up = rises in elsewhere a (λ e. omega (arith, e, less)) ∙ s.above a (omega (arith, up, less));
    first = λ e. absurd (omega (arith, e));
    behind = λ e p. ap (λ p. p.asset) (get_or_default xs i d e lt) ∙ ap (λ k. (get_or xs k e).asset) (let j : i ≡ i + 1 - 1 = omega arith in j);
  }
    where
      by : (a : ℕ) → (x.asset ≡ a) ⊎ (x.asset ≡ a → ⊥) → pairs_of a (take (i + 1) xs) ≤ most
      by a (inl e) = subst (λ b. pairs_of b (take (i + 1) xs) ≤ most) e (let k = here in omega (arith, k, h))
      by a (inr n) = let k = elsewhere a n in let w = s.within a in omega (arith, k, w)

  pub beyond : most < before + size → (a : ℕ) × (most < pairs_of a xs)
  beyond h =
      let k = here in
      let f = sum_by-append (size_for x.asset) (take (i + 1) xs) (drop (i + 1) xs) in
      let g = ap (pairs_of x.asset) (take-append-drop (i + 1) xs) in
      (x.asset, omega (arith, k, f, g, h))

  pub carried_within : before ≤ most
  carried_within = let f = so_far in let w = s.within x.asset in omega (arith, f, w)

-- what the sums of a sort say of all
pub sums_answer : (xs ys : List Part) (most : ℕ) (b : Bool) → IsPermutation xs ys → OnTrue b ((a : ℕ) → pairs_of a ys ≤ most) → OnFalse b ((a : ℕ) × (most < pairs_of a ys)) → (b ≡ true) ↔ ((a : ℕ) → pairs_of a xs ≤ most)
sums_answer xs ys most b same all some = (there, back)
  where
    alike : (a : ℕ) → pairs_of a ys ≡ pairs_of a xs
    alike a = sum_by-IsPermutation (size_for a) xs ys same

    there : b ≡ true → (a : ℕ) → pairs_of a xs ≤ most
    there e a = let h = OnTrue_at e all a in let k = alike a in omega (arith, h, k)

    back : ((a : ℕ) → pairs_of a xs ≤ most) → b ≡ true
    back h = by (cases_Bool b)
      where
        by : (b ≡ true) ⊎ (b ≡ false) → b ≡ true
        by (inl e) = e
        by (inr f) = let w = OnFalse_at f some in let k = alike w.0 in let l = h w.0 in let m = w.1 in absurd (omega (arith, k, l, m))
