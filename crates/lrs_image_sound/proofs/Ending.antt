-- Parts have each pair as often as others exactly where what begins in the first or ends in the second is what begins in the second or ends in the first.
use Rattle.std.proofs.Common.{◌≡◌, ℕ, zero, suc, ◌+◌, ◌<◌, ◌≤◌, Bool, true, false, cond, ◌⊎◌, inl, inr, List, [], ◌∷◌, ◌++◌, map, length, get_or, refl, sym, ap, ap₂, subst, ◌∙◌, arith, Ordering, Less, Equal, Greater, is_lt, is_gt, IsPermutation}
use Rattle.std.specs.Prelude.{◌&&◌, not, nat_eq, nat_le, nat_lt}
use Rattle.std.specs.List.{AllByRecursion, count_by}
use Rattle.std.specs.Bool.{Decides}
use Rattle.std.proofs.Math.Bool.{beq}
use Rattle.std.specs.Cmp.{booleans_Decides, IsTotalOrder, nat_cmp_total, bool_cmp_total, on_total, then_total}
use Rattle.std.specs.Ordering.{nat_cmp, bool_cmp, on, then_cmp, ordering_then, ordering_reverse}
use Rattle.std.proofs.lemmas.Bool.{false≢true, and_parts, and_from, cases_Bool, eqb-true, eq-eqb, leb-true, le-leb, lt-leb, lt-ltb, le-ltb, cases_lt}
use Rattle.std.proofs.lemmas.Bool.Decides.{nat_tests}
use Rattle.std.proofs.lemmas.Cmp.{upto, tied_itself}
use Rattle.std.proofs.lemmas.List.Sorted.{sum_by-IsPermutation}
use Rattle.lrs_measure.specs.Lists.{same_bool}
use Rattle.lrs_measure.proofs.Counts.{count_cons, count_yes, count_no, count_append}
use Rattle.lrs_events.specs.declared.part.Part.{Part}
use Rattle.lrs_events.specs.declared.side.LinkSide.{LinkSide}
use Rattle.lrs_events.specs.declared.side.LinkSide.TheVariants.{Left, Right}
use Rattle.lrs_events.specs.Places.{Place, same_link_side}
use Rattle.lrs_image_sound.specs.declared.ends.End.{End}
use Rattle.lrs_image_sound.specs.SweptParts.{is_right, IsFilled}
use Rattle.lrs_events.specs.Parts.{has_for, times_had}
use Rattle.lrs_image_sound.specs.Pairs.{AreHadAlike}
use Rattle.lrs_image_sound.specs.Ends.{start_of, end_of, IsRising}
use Rattle.lrs_image_sound.proofs.Along.{IsAscending, all_weaker}

-- ---- an end at or before another, on its line

abbrev reached : End → End → Bool
reached q t = nat_eq t.asset q.asset && nat_eq t.link q.link && same_bool t.right q.right && nat_le t.mm q.mm

abbrev side_of : Bool → LinkSide
side_of false = Left
side_of true = Right

abbrev place_of : End → Place
place_of q = record { link = q.link; mm = q.mm; side = side_of q.right }

abbrev end_at : ℕ → Place → End
end_at a p = record { asset = a; link = p.link; right = is_right p.side; mm = p.mm }

side_back : (s : LinkSide) → side_of (is_right s) ≡ s
side_back Left = refl
side_back Right = refl

same_side_test : (s : LinkSide) (b : Bool) → same_bool (is_right s) b ≡ same_link_side s (side_of b)
same_side_test Left true = refl
same_side_test Left false = refl
same_side_test Right true = refl
same_side_test Right false = refl

-- begun is had, or ended
abbrev Tallies : Bool → Bool → Bool → Bool → Bool → Type 0
Tallies a l s low past = cond (((a && l) && s) && low) 1 0 ≡ cond (a && (((l && low) && not past) && s)) 1 0 + cond (((a && l) && s) && past) 1 0

tallies : (a l s low past : Bool) → (past ≡ true → low ≡ true) → Tallies a l s low past
tallies false l s low past h = refl
tallies true false s low past h = refl
tallies true true false true true h = refl
tallies true true false true false h = refl
tallies true true false false true h = refl
tallies true true false false false h = refl
tallies true true true true true h = refl
tallies true true true true false h = refl
tallies true true true false true h = absurd (false≢true (h refl))
tallies true true true false false h = refl

before_end : (m n : ℕ) → nat_lt m n ≡ not (nat_le n m)
before_end m n = by (cases_lt m n)
  where
    by : (m < n) ⊎ (n ≤ m) → nat_lt m n ≡ not (nat_le n m)
    by (inl h) = lt-ltb m n h ∙ sym (ap not (lt-leb n m h))
    by (inr h) = le-ltb m n h ∙ sym (ap not (le-leb n m h))

one_tallied : (q : End) (x : Part) → IsFilled x → cond (reached q (start_of x)) 1 0 ≡ cond (has_for q.asset (place_of q) x) 1 0 + cond (reached q (end_of x)) 1 0
one_tallied q x f =
    let full : x.from < x.to = f in
    let a = nat_eq x.asset q.asset in
    let l = nat_eq x.link q.link in
    let s = same_bool (is_right x.side) q.right in
    let h : Tallies a l s (nat_le x.from q.mm) (nat_le x.to q.mm) = tallies a l s (nat_le x.from q.mm) (nat_le x.to q.mm) (λ e. let k = leb-true x.to q.mm e in le-leb x.from q.mm (omega (arith, k, full))) in
    h ∙ (λ i. cond (a && (((l && nat_le x.from q.mm) && sym (before_end q.mm x.to) i) && same_side_test x.side q.right i)) 1 0 + cond (reached q (end_of x)) 1 0)

all_tallied : (q : End) (xs : List Part) → AllByRecursion IsFilled xs → count_by (reached q) (map start_of xs) ≡ times_had q.asset (place_of q) xs + count_by (reached q) (map end_of xs)
all_tallied q [] f = refl
all_tallied q (x ∷ xs) f =
    let one = one_tallied q x f.0 in
    let more = all_tallied q xs f.1 in
    let a = count_cons (reached q) (start_of x) (map start_of xs) in
    let b = count_cons (reached q) (end_of x) (map end_of xs) in
    let c = count_cons (has_for q.asset (place_of q)) x xs in
    omega (arith, one, more, a, b, c)

-- as often had, as often reached
abbrev reach : End → List Part → List Part → ℕ
reach q xs ys = count_by (reached q) (map start_of xs ++ map end_of ys)

reach_is : (q : End) (xs ys : List Part) → AllByRecursion IsFilled xs → reach q xs ys ≡ times_had q.asset (place_of q) xs + count_by (reached q) (map end_of xs) + count_by (reached q) (map end_of ys)
reach_is q xs ys f = let a = count_append (reached q) (map start_of xs) (map end_of ys) in let b = all_tallied q xs f in omega (arith, a, b)

reached_alike : (xs ys : List Part) → AllByRecursion IsFilled xs → AllByRecursion IsFilled ys → AreHadAlike xs ys → (q : End) → reach q xs ys ≡ reach q ys xs
reached_alike xs ys f g same q =
    let a = reach_is q xs ys f in
    let b = reach_is q ys xs g in
    let c = same q.asset (place_of q) in
    omega (arith, a, b, c)

had_alike : (xs ys : List Part) → AllByRecursion IsFilled xs → AllByRecursion IsFilled ys → ((q : End) → reach q xs ys ≡ reach q ys xs) → AreHadAlike xs ys
had_alike xs ys f g same a p =
    let q = end_at a p in
    let c = reach_is q xs ys f in
    let d = reach_is q ys xs g in
    let e = same q in
    let here : times_had a (place_of q) xs ≡ times_had a (place_of q) ys = omega (arith, c, d, e) in
    subst (λ s. times_had a (record { link = p.link; mm = p.mm; side = s }) xs ≡ times_had a (record { link = p.link; mm = p.mm; side = s }) ys) (side_back p.side) here

-- ---- the order of ends

abbrev line_cmp : End → End → Ordering
line_cmp = then_cmp (then_cmp (on (λ (e : End). e.asset) nat_cmp) (on (λ (e : End). e.link) nat_cmp)) (on (λ (e : End). e.right) bool_cmp)

abbrev end_cmp : End → End → Ordering
end_cmp = then_cmp line_cmp (on (λ (e : End). e.mm) nat_cmp)

end_total : IsTotalOrder end_cmp
end_total = then_total (then_total (then_total (on_total (λ (e : End). e.asset) nat_cmp_total) (on_total (λ (e : End). e.link) nat_cmp_total)) (on_total (λ (e : End). e.right) bool_cmp_total)) (on_total (λ (e : End). e.mm) nat_cmp_total)

abbrev AtMost : End → End → Type 0
AtMost a b = is_gt (end_cmp a b) ≡ false

both_tie : (a b : Ordering) → ordering_then a b ≡ Equal → (a ≡ Equal) × (b ≡ Equal)
both_tie Less b h = absurd cc
both_tie Equal b h = (refl, h)
both_tie Greater b h = absurd cc

then_tie : (a b : Ordering) → a ≡ Equal → b ≡ Equal → ordering_then a b ≡ Equal
then_tie a b e f = ap (λ o. ordering_then o b) e ∙ f

tie_nat : (m n : ℕ) → nat_cmp m n ≡ Equal → m ≡ n
tie_nat m n h = grind (arith, nat_tests)

nat_tie : (m n : ℕ) → m ≡ n → nat_cmp m n ≡ Equal
nat_tie m n e = subst (λ k. nat_cmp m k ≡ Equal) e (tied_itself nat_cmp_total m)

tie_bool : (a b : Bool) → bool_cmp a b ≡ Equal → a ≡ b
tie_bool true true h = refl
tie_bool true false h = absurd cc
tie_bool false true h = absurd cc
tie_bool false false h = refl

bool_tie : (a b : Bool) → same_bool a b ≡ true → bool_cmp a b ≡ Equal
bool_tie true true h = refl
bool_tie true false h = absurd (false≢true h)
bool_tie false true h = absurd (false≢true h)
bool_tie false false h = refl

same_refl : (a : Bool) → same_bool a a ≡ true
same_refl true = refl
same_refl false = refl

reached_itself : (q : End) → reached q q ≡ true
reached_itself q =
    and_from (nat_eq q.asset q.asset && nat_eq q.link q.link && same_bool q.right q.right) (nat_le q.mm q.mm)
    (and_from (nat_eq q.asset q.asset && nat_eq q.link q.link) (same_bool q.right q.right) (and_from (nat_eq q.asset q.asset) (nat_eq q.link q.link) (eq-eqb q.asset q.asset refl) (eq-eqb q.link q.link refl)) (same_refl q.right))
    (le-leb q.mm q.mm (omega arith))

not_above : (m n : ℕ) → m ≤ n → is_gt (nat_cmp m n) ≡ false
not_above m n h = grind (arith, nat_tests)

reached_at_most : (q t : End) → reached q t ≡ true → AtMost t q
reached_at_most q t h =
    let r = and_parts (nat_eq t.asset q.asset && nat_eq t.link q.link && same_bool t.right q.right) (nat_le t.mm q.mm) h in
    let s = and_parts (nat_eq t.asset q.asset && nat_eq t.link q.link) (same_bool t.right q.right) r.0 in
    let u = and_parts (nat_eq t.asset q.asset) (nat_eq t.link q.link) s.0 in
    let line : line_cmp t q ≡ Equal = then_tie _ _ (then_tie _ _ (nat_tie t.asset q.asset (eqb-true t.asset q.asset u.0)) (nat_tie t.link q.link (eqb-true t.link q.link u.1))) (bool_tie t.right q.right s.1) in
    ap (λ o. is_gt (ordering_then o (nat_cmp t.mm q.mm))) line ∙ not_above t.mm q.mm (leb-true t.mm q.mm r.1)

one_end : (a b : End) → end_cmp a b ≡ Equal → a ≡ b
one_end a b e =
    let r = both_tie _ _ e in
    let s = both_tie _ _ r.0 in
    let t = both_tie _ _ s.0 in
    let asset = tie_nat a.asset b.asset t.0 in
    let link = tie_nat a.link b.link t.1 in
    let right = tie_bool a.right b.right s.1 in
    let mm = tie_nat a.mm b.mm r.1 in
    λ i. record { asset = asset i; link = link i; right = right i; mm = mm i }

same_end : (a b : End) → AtMost a b → AtMost b a → a ≡ b
same_end a b h k = by (end_cmp a b) refl
  where
    by : (o : Ordering) → end_cmp a b ≡ o → a ≡ b
    by Less e = absurd (false≢true (sym k ∙ ap is_gt (end_total.antisymm b a ∙ ap ordering_reverse e)))
    by Equal e = one_end a b e
    by Greater e = absurd (false≢true (sym h ∙ ap is_gt e))

-- ---- sorted ends are those that are reached

turned : (o : Ordering) → is_lt o ≡ false → is_gt (ordering_reverse o) ≡ false
turned Less h = h
turned Equal h = refl
turned Greater h = refl

abbrev Rise : List End → Type 0
Rise xs = (k : ℕ) (d : End) → k + 1 < length xs → IsRising (get_or xs k d) (get_or xs (k + 1) d)

rising : (x y : End) → IsRising x y → AtMost x y
rising x y h = ap is_gt (end_total.antisymm x y) ∙ turned (end_cmp y x) h

ascending : (xs : List End) → Rise xs → IsAscending AtMost xs
ascending [] rise = tt
ascending (x ∷ []) rise = (tt, tt)
ascending (x ∷ y ∷ ys) rise =
    let more = ascending (y ∷ ys) (λ k d h. rw Rattle.std.proofs.Common.add-one (rw Rattle.std.proofs.Common.add-one at (rise (suc k) d (omega (arith, h))))) in
    let first = rising x y (rise 0 x (omega arith)) in
    ((first, all_weaker (AtMost y) (AtMost x) (λ z. upto end_total x y z first) ys more.0), more)

first_at_most : (q z : End) (ts : List End) → AllByRecursion (AtMost z) ts → 1 ≤ count_by (reached q) ts → AtMost z q
first_at_most q z [] all h = absurd (omega (arith, h))
first_at_most q z (t ∷ ts) all h = by (cases_Bool (reached q t)) (first_at_most q z ts all.1)
  where
    by : (reached q t ≡ true) ⊎ (reached q t ≡ false) → (1 ≤ count_by (reached q) ts → AtMost z q) → AtMost z q
    by (inl e) later = upto end_total z t q all.0 (reached_at_most q t e)
    by (inr e) later = let c = count_no (reached q) t ts e in later (omega (arith, c, h))

at_least_one : (x : End) (xs : List End) → 1 ≤ count_by (reached x) (x ∷ xs)
at_least_one x xs = let c = count_yes (reached x) x xs (reached_itself x) in omega (arith, c)

head_first : (q y : End) (ys : List End) → IsAscending AtMost (y ∷ ys) → 1 ≤ count_by (reached q) (y ∷ ys) → AtMost y q
head_first q y ys up h = first_at_most q y (y ∷ ys) (ap is_gt (tied_itself end_total y), up.0) h

same_ends : (xs ys : List End) → IsAscending AtMost xs → IsAscending AtMost ys → ((q : End) → count_by (reached q) xs ≡ count_by (reached q) ys) → xs ≡ ys
same_ends [] [] up vp same = refl
same_ends [] (y ∷ ys) up vp same = let e = same y in let c = at_least_one y ys in absurd (omega (arith, e, c))
same_ends (x ∷ xs) [] up vp same = let e = same x in let c = at_least_one x xs in absurd (omega (arith, e, c))
same_ends (x ∷ xs) (y ∷ ys) up vp same =
    let a = same x in
    let b = at_least_one x xs in
    let c = same y in
    let d = at_least_one y ys in
    let first = head_first x y ys vp (omega (arith, a, b)) in
    let second = head_first y x xs up (omega (arith, c, d)) in
    let one : x ≡ y = same_end x y second first in
    ap₂ ◌∷◌ one (same_ends xs ys up.1 vp.1 (λ q.
    let e = count_cons (reached q) x xs ∙ ap (λ z. cond (reached q z) 1 0 + count_by (reached q) xs) one in
    let f = count_cons (reached q) y ys in
    let g = same q in
    omega (arith, e, f, g)))

-- ---- what the comparison of the sorted ends says

module _ (xs ys : List Part) (f : AllByRecursion IsFilled xs) (g : AllByRecursion IsFilled ys) (there back : List End)
    (there_is : IsPermutation (map start_of xs ++ map end_of ys) there) (back_is : IsPermutation (map start_of ys ++ map end_of xs) back) where
  there_reached : (q : End) → count_by (reached q) there ≡ reach q xs ys
  there_reached q = sum_by-IsPermutation (λ t. cond (reached q t) 1 0) (map start_of xs ++ map end_of ys) there there_is

  back_reached : (q : End) → count_by (reached q) back ≡ reach q ys xs
  back_reached q = sum_by-IsPermutation (λ t. cond (reached q t) 1 0) (map start_of ys ++ map end_of xs) back back_is

  pub alike_from_same : there ≡ back → AreHadAlike xs ys
  alike_from_same e = had_alike xs ys f g (λ q. sym (there_reached q) ∙ ap (count_by (reached q)) e ∙ back_reached q)

  pub same_from_alike : Rise there → Rise back → AreHadAlike xs ys → there ≡ back
  same_from_alike up vp h = same_ends there back (ascending there up) (ascending back vp) (λ q. there_reached q ∙ reached_alike xs ys f g h q ∙ sym (back_reached q))

-- ---- two ends are equal where their fields are

abbrev ends_eq : End → End → Bool
ends_eq a b = nat_eq a.asset b.asset && (nat_eq a.link b.link && (beq a.right b.right && nat_eq a.mm b.mm))

pub end_eq : (a b : End) → Decides (ends_eq a b) (a ≡ b)
end_eq a b = (there, back)
  where
    there : ends_eq a b ≡ true → a ≡ b
    there h =
        let r = and_parts (nat_eq a.asset b.asset) (nat_eq a.link b.link && (beq a.right b.right && nat_eq a.mm b.mm)) h in
        let s = and_parts (nat_eq a.link b.link) (beq a.right b.right && nat_eq a.mm b.mm) r.1 in
        let t = and_parts (beq a.right b.right) (nat_eq a.mm b.mm) s.1 in
        let asset = eqb-true a.asset b.asset r.0 in
        let link = eqb-true a.link b.link s.0 in
        let right = (booleans_Decides a.right b.right).0 t.0 in
        let mm = eqb-true a.mm b.mm t.1 in
        λ i. record { asset = asset i; link = link i; right = right i; mm = mm i }

    back : a ≡ b → ends_eq a b ≡ true
    back e =
        and_from (nat_eq a.asset b.asset) (nat_eq a.link b.link && (beq a.right b.right && nat_eq a.mm b.mm)) (eq-eqb a.asset b.asset (ap (λ z. z.asset) e))
        (and_from (nat_eq a.link b.link) (beq a.right b.right && nat_eq a.mm b.mm) (eq-eqb a.link b.link (ap (λ z. z.link) e))
        (and_from (beq a.right b.right) (nat_eq a.mm b.mm) ((booleans_Decides a.right b.right).1 (ap (λ z. z.right) e)) (eq-eqb a.mm b.mm (ap (λ z. z.mm) e))))
