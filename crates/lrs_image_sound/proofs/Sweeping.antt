-- Parts in the order of their lines: two that share a pair bring two neighbours that do.
use Rattle.std.proofs.Common.{◌≡◌, ◌⊎◌, inl, inr, ℕ, zero, suc, ◌+◌, ◌-◌, ◌<◌, ◌≤◌, Bool, true, false, not, cond, ◌&&◌, ◌||◌, List, [], ◌∷◌, length, get_or, refl, sym, ap, ap₂, subst, ◌∙◌, arith, ⊎_elim, Ordering, Less, Equal, Greater, is_lt, true≢false, IsPermutation}
use Rattle.std.specs.Prelude.{nat_eq, nat_le}
use Rattle.std.specs.List.{AllByRecursion, list_all}
use Rattle.std.specs.Bool.{OnTrue, OnFalse}
use Rattle.std.specs.Cmp.{IsTotalOrder, nat_cmp_total, bool_cmp_total, on_total, then_total}
use Rattle.std.specs.Ordering.{nat_cmp, bool_cmp, on, then_cmp, ordering_then, ordering_reverse}
use Rattle.std.proofs.lemmas.Bool.{cases_lt, and_parts, and_from, le-leb, leb-true, eq-eqb, eqb-true, OnTrue_at, OnFalse_at, or_left, or_right}
use Rattle.std.proofs.lemmas.Cmp.{alike_right, tied_back, tied_itself}
use Rattle.std.proofs.lemmas.Bool.Decides.{nat_tests}
use Rattle.std.proofs.lemmas.List.{get_or_default}
use Rattle.std.proofs.lemmas.List.Elements.{All-from_recursion, recursion_from_All}
use Rattle.std.proofs.lemmas.List.Sorted.{All-permutation}
use Rattle.lrs_image_sound.proofs.Along.{IsAscending, along_permutation}
use Rattle.lrs_measure.specs.Lists.{each_two}
use Rattle.lrs_events.specs.declared.part.Part.{Part}
use Rattle.lrs_events.specs.declared.side.LinkSide.{LinkSide}
use Rattle.lrs_events.specs.declared.side.LinkSide.TheVariants.{Left, Right}
use Rattle.lrs_events.specs.Places.{same_link_side}
use Rattle.lrs_machine.specs.Sound.{share_nothing}
use Rattle.lrs_image_sound.specs.SweptParts.{is_right, IsFilled, IsInOrder}

-- ---- a test of each two does not hang on their order

module _ {X : Type 0} (test : X → X → Bool) (comm : (x y : X) → test x y ≡ test y x) where
  abbrev Alike : List X → List X → Type 0
  Alike xs ys = (each_two test xs ≡ each_two test ys) × ((x : X) → list_all (test x) xs ≡ list_all (test x) ys)

  shuffle : (p q a b e : Bool) → p ≡ q → ((p && a) && (b && e)) ≡ ((q && b) && (a && e))
  shuffle true true true true e h = refl
  shuffle true true true false e h = refl
  shuffle true true false true e h = refl
  shuffle true true false false e h = refl
  shuffle true false a b e h = absurd (true≢false h)
  shuffle false true a b e h = absurd (true≢false (sym h))
  shuffle false false a b e h = refl

  and_turn : (p q a : Bool) → (p && (q && a)) ≡ (q && (p && a))
  and_turn true q a = refl
  and_turn false true a = refl
  and_turn false false a = refl

  pub each_two-permutation : (xs ys : List X) → IsPermutation xs ys → Alike xs ys
  each_two-permutation = along_permutation Alike
      (λ xs. (refl, λ x. refl))
      (λ z xs ys h. (ap₂ (λ a b. a && b) (h.1 z) h.0, λ x. ap (λ b. test x z && b) (h.1 x)))
      (λ x y xs. (shuffle (test x y) (test y x) (list_all (test x) xs) (list_all (test y) xs) (each_two test xs) (comm x y), λ z. and_turn (test z x) (test z y) (list_all (test z) xs)))
      (λ xs ys zs h k. (h.0 ∙ k.0, λ x. h.1 x ∙ k.1 x))

  all_at : (p : X → Bool) (xs : List X) (k : ℕ) (d : X) → list_all p xs ≡ true → k < length xs → p (get_or xs k d) ≡ true
  all_at p [] k d h b = absurd (omega arith)
  all_at p (x ∷ xs) zero d h b = (and_parts _ _ h).0
  all_at p (x ∷ xs) (suc k) d h b = all_at p xs k d (and_parts _ _ h).1 (omega arith)

  each_two_at : (xs : List X) (k : ℕ) (d : X) → each_two test xs ≡ true → k + 1 < length xs → test (get_or xs k d) (get_or xs (k + 1) d) ≡ true
  each_two_at [] k d h b = absurd (omega arith)
  each_two_at (x ∷ xs) zero d h b = all_at (test x) xs 0 d (and_parts _ _ h).0 (omega arith)
  each_two_at (x ∷ xs) (suc k) d h b = rw Rattle.std.proofs.Common.add-one (rw Rattle.std.proofs.Common.add-one at (each_two_at xs k d (and_parts _ _ h).1 (omega arith)))

  pub each_two_fails : (xs : List X) (k : ℕ) (d : X) → k + 1 < length xs → test (get_or xs k d) (get_or xs (k + 1) d) ≡ false → each_two test xs ≡ false
  each_two_fails xs k d b e = by_test (each_two test xs) refl
    where
      by_test : (t : Bool) → each_two test xs ≡ t → each_two test xs ≡ false
      by_test true f = absurd (true≢false (sym (each_two_at xs k d f b) ∙ e))
      by_test false f = f

-- ---- two parts

abbrev same_line : Part → Part → Bool
same_line x y = nat_eq x.asset y.asset && nat_eq x.link y.link && same_link_side x.side y.side

same_test : (x y : Bool) → (x ≡ true → y ≡ true) → (y ≡ true → x ≡ true) → x ≡ y
same_test true y f g = sym (f refl)
same_test false true f g = g refl
same_test false false f g = refl

nat_eq-comm : (m n : ℕ) → nat_eq m n ≡ nat_eq n m
nat_eq-comm m n = same_test _ _ (λ t. eq-eqb _ _ (sym (eqb-true _ _ t))) (λ t. eq-eqb _ _ (sym (eqb-true _ _ t)))

side-comm : (s t : LinkSide) → same_link_side s t ≡ same_link_side t s
side-comm Left Left = refl
side-comm Left Right = refl
side-comm Right Left = refl
side-comm Right Right = refl

or_swap : (l a b : Bool) → (not l || a || b) ≡ (not l || b || a)
or_swap true true true = refl
or_swap true true false = refl
or_swap true false true = refl
or_swap true false false = refl
or_swap false a b = refl

same_line-comm : (x y : Part) → same_line x y ≡ same_line y x
same_line-comm x y = ap₂ (λ a b. a && b) (ap₂ (λ a b. a && b) (nat_eq-comm x.asset y.asset) (nat_eq-comm x.link y.link)) (side-comm x.side y.side)

pub share_nothing-comm : (x y : Part) → share_nothing x y ≡ share_nothing y x
share_nothing-comm x y = ap (λ l. not l || nat_le x.to y.from || nat_le y.to x.from) (same_line-comm x y) ∙ or_swap (same_line y x) (nat_le x.to y.from) (nat_le y.to x.from)

-- ---- the order of lines

abbrev line_cmp : Part → Part → Ordering
line_cmp = then_cmp (then_cmp (on (λ (p : Part). p.asset) nat_cmp) (on (λ (p : Part). p.link) nat_cmp)) (on (λ (p : Part). is_right p.side) bool_cmp)

line_total : IsTotalOrder line_cmp
line_total = then_total (then_total (on_total (λ (p : Part). p.asset) nat_cmp_total) (on_total (λ (p : Part). p.link) nat_cmp_total)) (on_total (λ (p : Part). is_right p.side) bool_cmp_total)

nat_tie : (m n : ℕ) → m ≡ n → nat_cmp m n ≡ Equal
nat_tie m n e = subst (λ k. nat_cmp m k ≡ Equal) e (tied_itself nat_cmp_total m)

side_tie : (s t : LinkSide) → same_link_side s t ≡ true → bool_cmp (is_right s) (is_right t) ≡ Equal
side_tie Left Left h = refl
side_tie Left Right h = absurd (true≢false (sym h))
side_tie Right Left h = absurd (true≢false (sym h))
side_tie Right Right h = refl

tie_side : (s t : LinkSide) → bool_cmp (is_right s) (is_right t) ≡ Equal → same_link_side s t ≡ true
tie_side Left Left h = refl
tie_side Left Right h = absurd cc
tie_side Right Left h = absurd cc
tie_side Right Right h = refl

both_tie : (a b : Ordering) → ordering_then a b ≡ Equal → (a ≡ Equal) × (b ≡ Equal)
both_tie Less b h = absurd cc
both_tie Equal b h = (refl, h)
both_tie Greater b h = absurd cc

then_tie : (a b : Ordering) → a ≡ Equal → b ≡ Equal → ordering_then a b ≡ Equal
then_tie a b e f = ap (λ o. ordering_then o b) e ∙ f

tie_nat : (m n : ℕ) → nat_cmp m n ≡ Equal → m ≡ n
tie_nat m n h = grind (arith, nat_tests)

line_is : (x y : Part) → same_line x y ≡ true → line_cmp x y ≡ Equal
line_is x y h =
    let t = and_parts (nat_eq x.asset y.asset && nat_eq x.link y.link) (same_link_side x.side y.side) h in
    let u = and_parts (nat_eq x.asset y.asset) (nat_eq x.link y.link) t.0 in
    then_tie _ _ (then_tie _ _ (nat_tie _ _ (eqb-true _ _ u.0)) (nat_tie _ _ (eqb-true _ _ u.1))) (side_tie x.side y.side t.1)

line_of : (x y : Part) → line_cmp x y ≡ Equal → same_line x y ≡ true
line_of x y h =
    let t = both_tie _ _ h in
    let u = both_tie _ _ t.0 in
    and_from _ _ (and_from _ _ (eq-eqb _ _ (tie_nat x.asset y.asset u.0)) (eq-eqb _ _ (tie_nat x.link y.link u.1))) (tie_side x.side y.side t.1)

-- the first lies on an earlier line, or ends before the second begins
abbrev Ahead : Part → Part → Type 0
Ahead x y = (line_cmp x y ≡ Less) ⊎ ((line_cmp x y ≡ Equal) × (x.to ≤ y.from))

ahead-trans : (x y z : Part) → IsFilled y → Ahead x y → Ahead y z → Ahead x z
ahead-trans x y z f (inl a) (inl b) = inl (line_total.trans x y z a b)
ahead-trans x y z f (inl a) (inr b) = inl (sym (alike_right line_total y z x b.0) ∙ a)
ahead-trans x y z f (inr a) (inl b) = inl (line_total.congr x y z a.0 ∙ b)
ahead-trans x y z f (inr a) (inr b) = let full : y.from < y.to = f in inr (line_total.congr x y z a.0 ∙ b.0, omega (arith, a.1, b.1, full))

ahead_shares : (x y : Part) → Ahead x y → share_nothing x y ≡ true
ahead_shares x y (inl a) = by_line (same_line x y) refl
  where
    less_not_equal : Less ≡ Equal → ⊥
    less_not_equal e = absurd cc

    by_line : (b : Bool) → same_line x y ≡ b → (not (same_line x y) || nat_le x.to y.from || nat_le y.to x.from) ≡ true
    by_line true e = absurd (less_not_equal (sym a ∙ line_is x y e))
    by_line false e = rw e refl
ahead_shares x y (inr a) = or_left _ _ (or_right _ _ (le-leb _ _ a.1))

ahead_from_order : (x y : Part) → IsFilled x → IsFilled y → IsInOrder x y → share_nothing x y ≡ true → Ahead x y
ahead_from_order x y fx fy order shares = by_cases (line_cmp x y) refl
  where
    at_most : (m n : ℕ) → is_lt (nat_cmp m n) ≡ false → n ≤ m
    at_most m n h = grind (arith, nat_tests)

    by_ends : (b : Bool) → nat_le x.to y.from ≡ b → line_cmp x y ≡ Equal → Ahead x y
    by_ends true f e = inr (e, leb-true _ _ f)
    by_ends false f e =
        let full : y.from < y.to = fy in
        let tied : line_cmp y x ≡ Equal = tied_back line_total x y e in
        let low : x.from ≤ y.from = at_most y.from x.from (subst (λ o. is_lt (ordering_then o (nat_cmp y.from x.from)) ≡ false) tied order) in
        let other : nat_le y.to x.from ≡ true = subst (λ b. (b || nat_le y.to x.from) ≡ true) f (subst (λ b. (not b || nat_le x.to y.from || nat_le y.to x.from) ≡ true) (line_of x y e) shares) in
        let above : y.to ≤ x.from = leb-true _ _ other in
        absurd (omega (arith, full, low, above))

    by_cases : (o : Ordering) → line_cmp x y ≡ o → Ahead x y
    by_cases Less e = inl e
    by_cases Equal e = by_ends (nat_le x.to y.from) refl e
    by_cases Greater e =
        let less : line_cmp y x ≡ Less = line_total.antisymm y x ∙ ap ordering_reverse e in
        absurd (true≢false (subst (λ o. is_lt (ordering_then o (nat_cmp y.from x.from)) ≡ false) less order))

-- ---- all of them

ahead_all : (x y : Part) (ys : List Part) → IsFilled y → Ahead x y → AllByRecursion (Ahead y) ys → AllByRecursion (Ahead x) ys
ahead_all x y [] f a all = tt
ahead_all x y (z ∷ zs) f a all = (ahead-trans x y z f a all.0, ahead_all x y zs f a all.1)

all_ahead : (xs : List Part) → AllByRecursion IsFilled xs → ((k : ℕ) (d : Part) → k + 1 < length xs → IsInOrder (get_or xs k d) (get_or xs (k + 1) d))
    → ((k : ℕ) (d : Part) → k + 1 < length xs → share_nothing (get_or xs k d) (get_or xs (k + 1) d) ≡ true) → IsAscending Ahead xs
all_ahead [] f order shares = tt
all_ahead (x ∷ []) f order shares = (tt, tt)
all_ahead (x ∷ y ∷ ys) f order shares =
    let more = all_ahead (y ∷ ys) f.1 (λ k d h. rw Rattle.std.proofs.Common.add-one (rw Rattle.std.proofs.Common.add-one at (order (suc k) d (omega (arith, h)))))
    (λ k d h. rw Rattle.std.proofs.Common.add-one (rw Rattle.std.proofs.Common.add-one at (shares (suc k) d (omega (arith, h))))) in
    let first = ahead_from_order x y f.0 f.1.0 (order 0 x (omega arith)) (shares 0 x (omega arith)) in
    ((first, ahead_all x y ys f.1.0 first more.0), more)

all_share : (x : Part) (ys : List Part) → AllByRecursion (Ahead x) ys → list_all (share_nothing x) ys ≡ true
all_share x [] all = refl
all_share x (y ∷ ys) all = and_from _ _ (ahead_shares x y all.0) (all_share x ys all.1)

each_share : (xs : List Part) → IsAscending Ahead xs → each_two share_nothing xs ≡ true
each_share [] up = refl
each_share (x ∷ xs) up = and_from _ _ (all_share x xs up.0) (each_share xs up.1)

-- what the neighbours of a sort say of all
pub sweep_answer : (xs ys : List Part) (b : Bool) → AllByRecursion IsFilled xs → IsPermutation xs ys → ((k : ℕ) (d : Part) → k + 1 < length ys → IsInOrder (get_or ys k d) (get_or ys (k + 1) d))
    → OnTrue b ((k : ℕ) (d : Part) → k + 1 < length ys → share_nothing (get_or ys k d) (get_or ys (k + 1) d) ≡ true)
    → OnFalse b ((k : ℕ) × (k + 1 < length ys) × ((d : Part) → share_nothing (get_or ys k d) (get_or ys (k + 1) d) ≡ false))
    → b ≡ each_two share_nothing xs
sweep_answer xs ys b filled same order all some = go b refl
  where
    alike : each_two share_nothing xs ≡ each_two share_nothing ys
    alike = (each_two-permutation share_nothing share_nothing-comm xs ys same).0

    full : AllByRecursion IsFilled ys
    full = recursion_from_All IsFilled ys (All-permutation IsFilled xs ys same (All-from_recursion IsFilled xs filled))

    go : (c : Bool) → b ≡ c → b ≡ each_two share_nothing xs
    go true e = e ∙ sym (alike ∙ each_share ys (all_ahead ys full order (OnTrue_at e all)))
    go false e =
        let m = OnFalse_at e some in
        let d : Part = record { edit = 0; asset = 0; link = 0; from = 0; to = 0; side = Left } in
        e ∙ sym (alike ∙ each_two_fails share_nothing share_nothing-comm ys m.0 d m.1 (m.2 d))

-- ---- what a loop over neighbours finds

module _ {X : Type 0} (test : X → X → Bool) where
  pub found : (xs : List X) (i : ℕ) (e : X) → 1 ≤ i → i < length xs → test (get_or xs (i - 1) e) (get_or xs i e) ≡ false
      → (k : ℕ) × (k + 1 < length xs) × ((d : X) → test (get_or xs k d) (get_or xs (k + 1) d) ≡ false)
  found xs i e h lt t =
      let s : i - 1 + 1 ≡ i = omega arith in (
        i - 1,
        omega arith,
        λ d. ap (λ p. test p (get_or xs (i - 1 + 1) d)) (get_or_default xs (i - 1) d e (omega arith))
            ∙ ap (λ k. test (get_or xs (i - 1) e) (get_or xs k d)) s ∙ ap (test (get_or xs (i - 1) e)) (get_or_default xs i d e lt) ∙ t,
      )

  pub more : (xs : List X) (i : ℕ) (e : X) → 1 ≤ i → i < length xs → ((k : ℕ) (d : X) → k + 1 < i → k + 1 < length xs → test (get_or xs k d) (get_or xs (k + 1) d) ≡ true)
      → test (get_or xs (i - 1) e) (get_or xs i e) ≡ true → (k : ℕ) (d : X) → k + 1 < i + 1 → k + 1 < length xs → test (get_or xs k d) (get_or xs (k + 1) d) ≡ true
  more xs i e h lt before here k d less in' = ⊎_elim
      (λ (earlier : k + 1 < i). before k d earlier in')
      (λ (ge : i ≤ k + 1).
      let a : k ≡ i - 1 = omega arith in
      let b : k + 1 ≡ i = omega arith in
      ap (λ p. test p (get_or xs (k + 1) d)) (get_or_default xs k d e (omega arith) ∙ ap (λ j. get_or xs j e) a)
      ∙ ap (λ j. test (get_or xs (i - 1) e) (get_or xs j d)) b ∙ ap (test (get_or xs (i - 1) e)) (get_or_default xs i d e lt) ∙ here)
      (cases_lt (k + 1) i)
