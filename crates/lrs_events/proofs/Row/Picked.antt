-- What rows hold on a course is what they pick of it, by chainage and side.
use Rattle.std.proofs.Common.{◌≡◌, ℕ, ◌+◌, ◌-◌, ◌<◌, ◌≤◌, zero, suc, Bool, true, false, ◌⊎◌, inl, inr, List, [], ◌∷◌, ◌++◌, map, take, drop, length, refl, sym, ap, ◌∙◌, arith}
use Rattle.std.specs.Prelude.{◌||◌, ◌&&◌, not, nat_lt, nat_le, nat_eq, slice_range}
use Rattle.std.specs.List.{range_with_len, list_any, list_all}
use Rattle.std.proofs.lemmas.Bool.{both_ways, not-true, and_parts, and_from, lt-ltb, le-ltb, le-leb, lt-leb, eqb-true, eq-eqb, cases_lt, cases_Bool}
use Rattle.lrs_element.specs.declared.link.Ground.{Ground}
use Rattle.lrs_element.specs.Course.{is_at}
use Rattle.lrs_events.specs.declared.side.Side.{Side}
use Rattle.lrs_events.specs.declared.side.Side.TheVariants.{L, R, B}
use Rattle.lrs_events.specs.declared.side.LinkSide.{LinkSide}
use Rattle.lrs_events.specs.declared.side.LinkSide.TheVariants.{Left, Right}
use Rattle.lrs_events.specs.declared.span.Span.{Span}
use Rattle.lrs_events.specs.Canonical.{side_of, side_held}
use Rattle.lrs_events.specs.Members.{Picks, has_side, between, stands_for}
use Rattle.lrs_events.specs.Places.{Place, same_place, same_link_side, along_link, beside, places_at, places_on, is_among}
use Rattle.lrs_events.specs.Spans.{holds_by_span}
use Rattle.lrs_events.specs.Row.CourseMembers.{is_once, is_held, is_picked, HoldsByPlaces}

-- ---- Bool

or_step : (a b q t u : Bool) → (((a || b) && q) || (t || u)) ≡ (((a && q) || t) || ((b && q) || u))
or_step true true true true u = refl
or_step true true true false u = refl
or_step true true false true u = refl
or_step true true false false u = refl
or_step true false true true u = refl
or_step true false true false u = refl
or_step true false false true u = refl
or_step true false false false u = refl
or_step false true true true u = refl
or_step false true true false u = refl
or_step false true false true u = refl
or_step false true false false u = refl
or_step false false true true u = refl
or_step false false true false u = refl
or_step false false false true u = refl
or_step false false false false u = refl

-- ---- what a test picks of a course

pub picked-none : (m : Picks) (j : ℕ) (c : List Ground) (p : Place) → ((k : ℕ) (s : LinkSide) → j ≤ k → m k s ≡ false) → is_picked m j c p ≡ false
picked-none m j [] p none = refl
picked-none m j (g ∷ gs) p none =
    (λ i. (none j Left (omega arith) i && same_place p (beside g Left)) || ((none j Right (omega arith) i && same_place p (beside g Right)) || is_picked m (j + 1) gs p))
    ∙ picked-none m (j + 1) gs p (λ k s h. none k s (omega arith))

pub picked-same : (m n : Picks) (j : ℕ) (c : List Ground) (p : Place) → ((k : ℕ) (s : LinkSide) → j ≤ k → m k s ≡ n k s) → is_picked m j c p ≡ is_picked n j c p
picked-same m n j [] p same = refl
picked-same m n j (g ∷ gs) p same =
    let rest = picked-same m n (j + 1) gs p (λ k s low. same k s (omega arith)) in
    let left = same j Left (omega arith) in
    let right = same j Right (omega arith) in
    λ i. (left i && same_place p (beside g Left)) || ((right i && same_place p (beside g Right)) || rest i)

pub picked-or : (m n : Picks) (j : ℕ) (c : List Ground) (p : Place) → is_picked (λ k s. m k s || n k s) j c p ≡ (is_picked m j c p || is_picked n j c p)
picked-or m n j [] p = refl
picked-or m n j (g ∷ gs) p =
    ap (λ t. ((m j Left || n j Left) && same_place p (beside g Left)) || (((m j Right || n j Right) && same_place p (beside g Right)) || t)) (picked-or m n (j + 1) gs p)
    ∙ ap (λ t. ((m j Left || n j Left) && same_place p (beside g Left)) || t) (or_step (m j Right) (n j Right) (same_place p (beside g Right)) (is_picked m (j + 1) gs p) (is_picked n (j + 1) gs p))
    ∙ or_step (m j Left) (n j Left) (same_place p (beside g Left)) ((m j Right && same_place p (beside g Right)) || is_picked m (j + 1) gs p) ((n j Right && same_place p (beside g Right)) || is_picked n (j + 1) gs p)

pub picked-and : (b : Bool) (m : Picks) (j : ℕ) (c : List Ground) (p : Place) → is_picked (λ k s. b && m k s) j c p ≡ (b && is_picked m j c p)
picked-and true m j c p = refl
picked-and false m j c p = picked-none (λ k s. false) j c p (λ k s h. refl)

-- ---- the places of a stretch

side_places : (side : Side) (g : Ground) (rest : List Place) (p : Place)
    → list_any (same_place p) (places_at side g ++ rest) ≡ ((has_side side Left && same_place p (beside g Left)) || ((has_side side Right && same_place p (beside g Right)) || list_any (same_place p) rest))
side_places L g rest p = refl
side_places R g rest p = refl
side_places B g rest p = refl

pub nothing_between : (from to : ℕ) (side : Side) (k : ℕ) (s : LinkSide) → to ≤ from → between from to side k s ≡ false
nothing_between from to side k s h = by (cases_lt k from)
  where
    and_no : (a b : Bool) → ((a && false) && b) ≡ false
    and_no true b = refl
    and_no false b = refl

    by : (k < from) ⊎ (from ≤ k) → between from to side k s ≡ false
    by (inl e) = ap (λ b. (b && nat_lt k to) && has_side side s) (lt-leb from k e)
    by (inr e) = ap (λ b. (nat_le from k && b) && has_side side s) (le-ltb k to (omega arith)) ∙ and_no (nat_le from k) (has_side side s)

-- a stretch of a course whose first entry has chainage j
in_stretch : (side : Side) (c : List Ground) (j k n : ℕ) (p : Place) → is_among (places_on side (take n (drop k c))) p ≡ is_picked (between (j + k) ((j + k) + n) side) j c p
in_stretch side [] j zero zero p = refl
in_stretch side [] j zero (suc n) p = refl
in_stretch side [] j (suc k) zero p = refl
in_stretch side [] j (suc k) (suc n) p = refl
in_stretch side (g ∷ gs) j (suc k) n p =
    let early : (s : LinkSide) → between (j + suc k) ((j + suc k) + n) side j s ≡ false = λ s. ap (λ b. (b && nat_lt j ((j + suc k) + n)) && has_side side s) (lt-leb (j + suc k) j (omega arith)) in
    in_stretch side gs (j + 1) k n p
    ∙ ap (λ t. is_picked (between t (t + n) side) (j + 1) gs p) (omega arith)
    ∙ sym (λ i. (early Left i && same_place p (beside g Left)) || ((early Right i && same_place p (beside g Right)) || is_picked (between (j + suc k) ((j + suc k) + n) side) (j + 1) gs p))
in_stretch side (g ∷ gs) j zero zero p =
    sym (picked-none (between (j + zero) ((j + zero) + zero) side) j (g ∷ gs) p (λ k s h. nothing_between (j + zero) ((j + zero) + zero) side k s (omega arith)))
in_stretch side (g ∷ gs) j zero (suc n) p =
    let to = (j + zero) + suc n in
    let now : (s : LinkSide) → between (j + zero) to side j s ≡ has_side side s = λ s. ap (λ b. (b && nat_lt j to) && has_side side s) (le-leb (j + zero) j (omega arith)) ∙ ap (λ b. b && has_side side s) (lt-ltb j to (omega arith)) in
    side_places side g (places_on side (take n gs)) p
    ∙ ap (λ t. (has_side side Left && same_place p (beside g Left)) || ((has_side side Right && same_place p (beside g Right)) || t))
    (in_stretch side gs (j + 1) zero n p
    ∙ picked-same (between ((j + 1) + zero) (((j + 1) + zero) + n) side) (between (j + zero) to side) (j + 1) gs p
    (λ k s low. (λ i. (both k low i && ends k i) && has_side side s)))
    ∙ sym (λ i. (now Left i && same_place p (beside g Left)) || ((now Right i && same_place p (beside g Right)) || is_picked (between (j + zero) to side) (j + 1) gs p))
  where
    both : (k : ℕ) → j + 1 ≤ k → nat_le ((j + 1) + zero) k ≡ nat_le (j + zero) k
    both k low = le-leb ((j + 1) + zero) k (omega arith) ∙ sym (le-leb (j + zero) k (omega arith))

    ends : (k : ℕ) → nat_lt k (((j + 1) + zero) + n) ≡ nat_lt k ((j + zero) + suc n)
    ends k = ap (nat_lt k) (omega arith)

none_after : (side : Side) (c : List Ground) (from to : ℕ) (p : Place) → to ≤ from → is_among (places_on side (slice_range c from to)) p ≡ is_picked (between from to side) 0 c p
none_after side c from to p h =
    ap (λ n. is_among (places_on side (take n (drop from c))) p) empty ∙ sym (picked-none (between from to side) 0 c p (λ k s l. nothing_between from to side k s h))
  where
    empty : to - from ≡ 0
    empty = omega arith

-- ---- what rows hold

pub row_holds : (c : List Ground) (r : Span) (asset : ℕ) (p : Place) → holds_by_span c r asset p ≡ is_picked (stands_for r asset) 0 c p
row_holds c r asset p =
    ap (λ b. nat_eq r.asset asset && b) (by (cases_lt r.to r.from))
    ∙ sym (picked-and (nat_eq r.asset asset) (between r.from r.to r.side) 0 c p)
  where
    by : (r.to < r.from) ⊎ (r.from ≤ r.to) → is_among (places_on r.side (slice_range c r.from r.to)) p ≡ is_picked (between r.from r.to r.side) 0 c p
    by (inl h) = none_after r.side c r.from r.to p (omega arith)
    by (inr h) = in_stretch r.side c 0 r.from (r.to - r.from) p ∙ (λ i. is_picked (between (start i) (end i) r.side) 0 c p)
      where
        start : 0 + r.from ≡ r.from
        start = omega arith

        end : (0 + r.from) + (r.to - r.from) ≡ r.to
        end = omega arith

pub rows_hold : HoldsByPlaces
rows_hold c [] asset p = sym (picked-none (is_held [] asset) 0 c p (λ k s h. refl))
rows_hold c (r ∷ rs) asset p =
    (λ i. row_holds c r asset p i || rows_hold c rs asset p i) ∙ sym (picked-or (stands_for r asset) (is_held rs asset) 0 c p)

-- ---- where no millimetre comes twice

abbrev one_of : Bool → Bool → LinkSide → Bool
one_of a b Left = a
one_of a b Right = b

its_own : (m : Picks) (j : ℕ) (s : LinkSide) → one_of (m j Left) (m j Right) s ≡ m j s
its_own m j Left = refl
its_own m j Right = refl

on_side : (a b f : Bool) (s : LinkSide) → ((a && same_link_side (along_link f s) (along_link f Left)) || ((b && same_link_side (along_link f s) (along_link f Right)) || false)) ≡ one_of a b s
on_side true true true Left = refl
on_side true false true Left = refl
on_side false true true Left = refl
on_side false false true Left = refl
on_side true true true Right = refl
on_side true false true Right = refl
on_side false true true Right = refl
on_side false false true Right = refl
on_side true true false Left = refl
on_side true false false Left = refl
on_side false true false Left = refl
on_side false false false Left = refl
on_side true true false Right = refl
on_side true false false Right = refl
on_side false true false Right = refl
on_side false false false Right = refl

-- the place is beside the millimetre
abbrev is_beside : Place → Ground → Bool
is_beside p g = nat_eq p.link g.link && nat_eq p.mm g.mm

and_false : (a : Bool) → (a && false) ≡ false
and_false true = refl
and_false false = refl

not_beside : (m : Picks) (j : ℕ) (g : Ground) (gs : List Ground) (p : Place) → is_beside p g ≡ false → is_picked m j (g ∷ gs) p ≡ is_picked m (j + 1) gs p
not_beside m j g gs p h =
    (λ i. (m j Left && (h i && same_link_side p.side (along_link g.forward Left))) || ((m j Right && (h i && same_link_side p.side (along_link g.forward Right))) || is_picked m (j + 1) gs p))
    ∙ (λ i. and_false (m j Left) i || (and_false (m j Right) i || is_picked m (j + 1) gs p))

same_number : (a b : ℕ) → nat_eq a b ≡ true → nat_eq b a ≡ true
same_number a b h = eq-eqb b a (sym (eqb-true a b h))

-- a place beside one millimetre is beside none of the others
no_more : (g : Ground) (s : LinkSide) (gs : List Ground) → list_all (λ h. not (is_at (g.link, g.mm) h)) gs ≡ true → (m : Picks) (j : ℕ) → is_picked m j gs (beside g s) ≡ false
no_more g s [] h m j = refl
no_more g s (k ∷ ks) h m j =
    let both = and_parts (not (is_at (g.link, g.mm) k)) (list_all (λ l. not (is_at (g.link, g.mm) l)) ks) h in
    not_beside m j k ks (beside g s) (off (cases_Bool (is_beside (beside g s) k)) (not-true (is_at (g.link, g.mm) k) both.0)) ∙ no_more g s ks both.1 m (j + 1)
  where
    off : (is_beside (beside g s) k ≡ true) ⊎ (is_beside (beside g s) k ≡ false) → is_at (g.link, g.mm) k ≡ false → is_beside (beside g s) k ≡ false
    off (inl e) f =
        let b = and_parts (nat_eq g.link k.link) (nat_eq g.mm k.mm) e in
        absurd (both_ways (is_at (g.link, g.mm) k) f (and_from (nat_eq k.link g.link) (nat_eq k.mm g.mm) (same_number g.link k.link b.0) (same_number g.mm k.mm b.1)))
    off (inr e) f = e

-- the first millimetre of a course
picked_first : (m : Picks) (j : ℕ) (g : Ground) (gs : List Ground) (s : LinkSide) → list_all (λ h. not (is_at (g.link, g.mm) h)) gs ≡ true → is_picked m j (g ∷ gs) (beside g s) ≡ m j s
picked_first m j g gs s h =
    let link = eq-eqb g.link g.link refl in
    let mm = eq-eqb g.mm g.mm refl in
    let rest = no_more g s gs h m (j + 1) in
    (λ i. (m j Left && ((link i && mm i) && same_link_side (along_link g.forward s) (along_link g.forward Left))) || ((m j Right && ((link i && mm i) && same_link_side (along_link g.forward s) (along_link g.forward Right))) || rest i))
    ∙ on_side (m j Left) (m j Right) g.forward s ∙ its_own m j s

-- the others
sides_behind : (m : Picks) (j : ℕ) (g : Ground) (gs hs : List Ground) → list_all (λ h. not (is_at (g.link, g.mm) h)) hs ≡ true
    → map (side_held (is_picked m j (g ∷ gs))) hs ≡ map (side_held (is_picked m (j + 1) gs)) hs
sides_behind m j g gs [] h = refl
sides_behind m j g gs (k ∷ ks) h =
    let both = and_parts (not (is_at (g.link, g.mm) k)) (list_all (λ l. not (is_at (g.link, g.mm) l)) ks) h in
    let off = not-true (is_at (g.link, g.mm) k) both.0 in
    let left = not_beside m j g gs (beside k Left) off in
    let right = not_beside m j g gs (beside k Right) off in
    let rest = sides_behind m j g gs ks both.1 in
    λ i. side_of (left i) (right i) ∷ rest i

-- the sides of a course on which its places are picked
pub sides_picked : (m : Picks) (j : ℕ) (c : List Ground) → is_once c ≡ true → map (side_held (is_picked m j c)) c ≡ map (λ k. side_of (m k Left) (m k Right)) (range_with_len j (length c))
sides_picked m j [] h = refl
sides_picked m j (g ∷ gs) h =
    let both = and_parts (list_all (λ k. not (is_at (g.link, g.mm) k)) gs) (is_once gs) h in
    let left = picked_first m j g gs Left both.0 in
    let right = picked_first m j g gs Right both.0 in
    let rest = sides_behind m j g gs gs both.0 ∙ sides_picked m (j + 1) gs both.1 in
    λ i. side_of (left i) (right i) ∷ rest i
