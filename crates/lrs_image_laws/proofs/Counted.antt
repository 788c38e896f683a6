-- How many places parts have.
use Rattle.std.proofs.Common.{◌≡◌, ℕ, zero, suc, ◌+◌, ◌-◌, ◌<◌, ◌≤◌, min, max, Bool, true, false, cond, ◌⊎◌, inl, inr, List, [], ◌∷◌, refl, sym, ap, ◌∙◌, arith}
use Rattle.std.specs.Prelude.{◌||◌, ◌&&◌, nat_eq, nat_le, nat_lt, if◌then◌else◌}
use Rattle.std.specs.List.{list_any, list_all, count_by, range_with_len}
use Rattle.std.proofs.lemmas.Bool.{false≢true, and_parts, or_cases, cases_Bool, cases_lt, eqb-true, eqb-false, ne_eqb, leb-true, ltb-true, le-leb, lt-leb, lt-ltb, le-ltb}
use Rattle.std.proofs.lemmas.List.Sums.{sum_by-cons}
use Rattle.lrs_measure.specs.Lists.{In, each_two}
use Rattle.lrs_measure.proofs.Members.{any_found, all_at}
use Rattle.lrs_measure.proofs.Counts.{count_cons, count-none, count_append}
use Rattle.lrs_element.specs.declared.link.Link.{Link}
use Rattle.lrs_events.specs.declared.part.Part.{Part}
use Rattle.lrs_events.specs.Places.{Place, places_of_link}
use Rattle.lrs_events.specs.Parts.{has_place}
use Rattle.lrs_machine.specs.Sound.{link_before, share_nothing, pairs_of, places_of, has_asset_place}
use Rattle.lrs_machine.proofs.Pairs.{place_had, apart}
use Rattle.lrs_machine.proofs.Counting.{by_millimetre}

-- ---- counts

either_step : (a b : Bool) (m n k : ℕ) → (a ≡ true → b ≡ true → ⊥) → k ≡ m + n → cond (a || b) 1 0 + k ≡ (cond a 1 0 + m) + (cond b 1 0 + n)
either_step true true m n k apart e = absurd (apart refl refl)
either_step true false m n k apart e = omega (arith, e)
either_step false true m n k apart e = omega (arith, e)
either_step false false m n k apart e = omega (arith, e)

both_step : (a b : Bool) (m n k : ℕ) → k ≤ m + n → cond (a || b) 1 0 + k ≤ (cond a 1 0 + m) + (cond b 1 0 + n)
both_step true true m n k e = omega (arith, e)
both_step true false m n k e = omega (arith, e)
both_step false true m n k e = omega (arith, e)
both_step false false m n k e = omega (arith, e)

more_step : (a b : Bool) (m n : ℕ) → (a ≡ true → b ≡ true) → m ≤ n → cond a 1 0 + m ≤ cond b 1 0 + n
more_step true true m n w e = omega (arith, e)
more_step true false m n w e = absurd (false≢true (w refl))
more_step false true m n w e = omega (arith, e)
more_step false false m n w e = omega (arith, e)

module _ {X : Type 0} where
  count-either : (p q : X → Bool) (xs : List X) → ((x : X) → p x ≡ true → q x ≡ true → ⊥) → count_by (λ x. p x || q x) xs ≡ count_by p xs + count_by q xs
  count-either p q [] apart = refl
  count-either p q (x ∷ xs) apart =
      let a = count_cons (λ y. p y || q y) x xs in let b = count_cons p x xs in let c = count_cons q x xs in
      let d = either_step (p x) (q x) (count_by p xs) (count_by q xs) (count_by (λ y. p y || q y) xs) (apart x) (count-either p q xs apart) in
      omega (arith, a, b, c, d)

  count-both : (p q : X → Bool) (xs : List X) → count_by (λ x. p x || q x) xs ≤ count_by p xs + count_by q xs
  count-both p q [] = omega arith
  count-both p q (x ∷ xs) =
      let a = count_cons (λ y. p y || q y) x xs in let b = count_cons p x xs in let c = count_cons q x xs in
      let d = both_step (p x) (q x) (count_by p xs) (count_by q xs) (count_by (λ y. p y || q y) xs) (count-both p q xs) in
      omega (arith, a, b, c, d)

  count-more : (p q : X → Bool) (xs : List X) → ((x : X) → p x ≡ true → q x ≡ true) → count_by p xs ≤ count_by q xs
  count-more p q [] w = omega arith
  count-more p q (x ∷ xs) w =
      let a = count_cons p x xs in let b = count_cons q x xs in
      let d = more_step (p x) (q x) (count_by p xs) (count_by q xs) (w x) (count-more p q xs w) in
      omega (arith, a, b, d)

-- ---- the places of one part

-- the part is not empty, and within its link
abbrev pub is_on_its_link : List Link → Part → Bool
is_on_its_link links p = nat_lt p.from p.to && list_any (λ l. nat_eq l.number p.link && nat_le p.to l.length) links

-- whether a part on a link has the millimetre
abbrev over_mm : Part → ℕ → ℕ → Bool
over_mm x n k = (nat_eq x.link n && nat_le x.from k) && nat_lt k x.to

-- the millimetres of the part, on a link
by_link : (x : Part) (n len : ℕ) → count_by (has_place x) (places_of_link n len) ≡ count_by (over_mm x n) (range_with_len 0 len)
by_link x n len = by_millimetre (has_place x) (over_mm x n) x.side n (λ k side. refl) (range_with_len 0 len)

elsewhere_on : (x : Part) (n len : ℕ) → nat_eq x.link n ≡ false → count_by (has_place x) (places_of_link n len) ≡ 0
elsewhere_on x n len h = by_link x n len ∙ ap (λ b. count_by (λ k. (b && nat_le x.from k) && nat_lt k x.to) (range_with_len 0 len)) h ∙ count-none (range_with_len 0 len)

within_mm : (lo hi s : ℕ) (m r : ℕ) → m ≡ min hi (s + 1 + r) - max lo (s + 1) → cond (nat_le lo s && nat_lt s hi) 1 0 + m ≡ min hi (s + (suc r)) - max lo s
within_mm lo hi s m r e = by (cases_lt s lo) (cases_lt s hi)
  where
    by : (s < lo) ⊎ (lo ≤ s) → (s < hi) ⊎ (hi ≤ s) → cond (nat_le lo s && nat_lt s hi) 1 0 + m ≡ min hi (s + (suc r)) - max lo s
    by (inl a) b = ap (λ t. cond (t && nat_lt s hi) 1 0 + m) (lt-leb lo s a) ∙ omega (arith, a, e)
    by (inr a) (inl b) = (λ i. cond (le-leb lo s a i && lt-ltb s hi b i) 1 0 + m) ∙ omega (arith, a, b, e)
    by (inr a) (inr b) = (λ i. cond (le-leb lo s a i && le-ltb s hi b i) 1 0 + m) ∙ omega (arith, a, b, e)

in_range : (x : Part) (n s len : ℕ) → nat_eq x.link n ≡ true → count_by (over_mm x n) (range_with_len s len) ≡ min x.to (s + len) - max x.from s
in_range x n s zero h = omega arith
in_range x n s (suc len) h =
    let rest = range_with_len (s + 1) len in
    count_cons (over_mm x n) s rest
    ∙ ap (λ b. cond ((b && nat_le x.from s) && nat_lt s x.to) 1 0 + count_by (over_mm x n) rest) h
    ∙ within_mm x.from x.to s (count_by (over_mm x n) rest) len (in_range x n (s + 1) len h)

on_link : (x : Part) (n len : ℕ) → nat_eq x.link n ≡ true → count_by (has_place x) (places_of_link n len) ≡ min x.to (0 + len) - max x.from 0
on_link x n len h = by_link x n len ∙ in_range x n 0 len h

nowhere : (x : Part) (links : List Link) → ((k : Link) → In k links → nat_eq x.link k.number ≡ false) → count_by (has_place x) (places_of links) ≡ 0
nowhere x [] w = refl
nowhere x (k ∷ ks) w =
    let a = count_append (has_place x) (places_of_link k.number k.length) (places_of ks) in
    let b = elsewhere_on x k.number k.length (w k (inl refl)) in
    let c = nowhere x ks (λ l m. w l (inr m)) in
    omega (arith, a, b, c)

abbrev holds_part : Part → Link → Bool
holds_part x l = nat_eq l.number x.link && nat_le x.to l.length

pub one_part : (x : Part) (links : List Link) → each_two link_before links ≡ true → list_any (holds_part x) links ≡ true → count_by (has_place x) (places_of links) ≡ x.to - x.from
one_part x [] order h = absurd (false≢true h)
one_part x (k ∷ ks) order h = by (cases_Bool (nat_eq x.link k.number)) (one_part x ks both.1)
  where
    both : (list_all (link_before k) ks ≡ true) × (each_two link_before ks ≡ true)
    both = and_parts (list_all (link_before k) ks) (each_two link_before ks) order

    all : count_by (has_place x) (places_of (k ∷ ks)) ≡ count_by (has_place x) (places_of_link k.number k.length) + count_by (has_place x) (places_of ks)
    all = count_append (has_place x) (places_of_link k.number k.length) (places_of ks)

    by : (nat_eq x.link k.number ≡ true) ⊎ (nat_eq x.link k.number ≡ false) → (list_any (holds_part x) ks ≡ true → count_by (has_place x) (places_of ks) ≡ x.to - x.from)
        → count_by (has_place x) (places_of (k ∷ ks)) ≡ x.to - x.from
    by (inl e) rest =
        let is = eqb-true x.link k.number e in
        let here = on_link x k.number k.length e in
        let none = nowhere x ks (λ l m. let less = ltb-true k.number l.number (all_at (link_before k) l ks both.0 m) in ne_eqb x.link l.number (λ same. omega (arith, less, same, is))) in
        fits here none (or_cases (holds_part x k) (list_any (holds_part x) ks) h)
      where
        fits : count_by (has_place x) (places_of_link k.number k.length) ≡ min x.to (0 + k.length) - max x.from 0 → count_by (has_place x) (places_of ks) ≡ 0
            → (holds_part x k ≡ true) ⊎ (list_any (holds_part x) ks ≡ true) → count_by (has_place x) (places_of (k ∷ ks)) ≡ x.to - x.from
        fits here none (inl g) = let high = leb-true x.to k.length (and_parts (nat_eq k.number x.link) (nat_le x.to k.length) g).1 in omega (arith, all, here, none, high)
        fits here none (inr g) =
            let found = any_found (holds_part x) ks g in
            let l = found.0 in
            let less = ltb-true k.number l.number (all_at (link_before k) l ks both.0 found.1) in
            let same = eqb-true l.number x.link (and_parts (nat_eq l.number x.link) (nat_le x.to l.length) found.2).0 in
            let is = eqb-true x.link k.number e in
            absurd (omega (arith, less, same, is))
    by (inr e) rest =
        let none = elsewhere_on x k.number k.length e in
        let later = rest (elsewhere (or_cases (holds_part x k) (list_any (holds_part x) ks) h)) in
        omega (arith, all, none, later)
      where
        elsewhere : (holds_part x k ≡ true) ⊎ (list_any (holds_part x) ks ≡ true) → list_any (holds_part x) ks ≡ true
        elsewhere (inl g) =
            let same = eqb-true k.number x.link (and_parts (nat_eq k.number x.link) (nat_le x.to k.length) g).0 in
            absurd (eqb-false x.link k.number e (sym same))
        elsewhere (inr g) = g

-- ---- the places of parts

abbrev of_asset : ℕ → Part → Place → Bool
of_asset a x p = nat_eq x.asset a && has_place x p

abbrev size_for : ℕ → Part → ℕ
size_for a x = if nat_eq x.asset a then x.to - x.from else 0

one_of : (links : List Link) (a : ℕ) (x : Part) → each_two link_before links ≡ true → is_on_its_link links x ≡ true → count_by (of_asset a x) (places_of links) ≡ size_for a x
one_of links a x order on = by (nat_eq x.asset a)
  where
    by : (b : Bool) → count_by (λ p. b && has_place x p) (places_of links) ≡ cond b (x.to - x.from) 0
    by true = one_part x links order (and_parts (nat_lt x.from x.to) (list_any (holds_part x) links) on).1
    by false = count-none (places_of links)

-- parts that share nothing have no place of an asset in common
apart_places : (a : ℕ) (x : Part) (xs : List Part) (p : Place) → list_all (share_nothing x) xs ≡ true → of_asset a x p ≡ true → has_asset_place xs a p ≡ true → ⊥
apart_places a x xs p h k m =
    let found = any_found (λ y. of_asset a y p) xs m in
    apart x found.0 a p (all_at (share_nothing x) found.0 xs h found.1) (place_had x a p k) (place_had found.0 a p found.2)

pub pairs_counted : (links : List Link) (a : ℕ) (xs : List Part) → each_two link_before links ≡ true → list_all (is_on_its_link links) xs ≡ true → each_two share_nothing xs ≡ true
    → count_by (has_asset_place xs a) (places_of links) ≡ pairs_of a xs
pairs_counted links a [] order on apart = count-none (places_of links)
pairs_counted links a (x ∷ xs) order on apart =
    let inside = and_parts (is_on_its_link links x) (list_all (is_on_its_link links) xs) on in
    let free = and_parts (list_all (share_nothing x) xs) (each_two share_nothing xs) apart in
    let all = count-either (of_asset a x) (has_asset_place xs a) (places_of links) (λ p. apart_places a x xs p free.0) in
    let one = one_of links a x order inside.0 in
    let rest = pairs_counted links a xs order inside.1 free.1 in
    all ∙ (λ i. one i + rest i) ∙ sym (sum_by-cons (size_for a) x xs)

pairs_at_least : (links : List Link) (a : ℕ) (xs : List Part) → each_two link_before links ≡ true → list_all (is_on_its_link links) xs ≡ true → count_by (has_asset_place xs a) (places_of links) ≤ pairs_of a xs
pairs_at_least links a [] order on = let e = count-none (places_of links) in omega (arith, e)
pairs_at_least links a (x ∷ xs) order on =
    let inside = and_parts (is_on_its_link links x) (list_all (is_on_its_link links) xs) on in
    let all = count-both (of_asset a x) (has_asset_place xs a) (places_of links) in
    let one = one_of links a x order inside.0 in
    let rest = pairs_at_least links a xs order inside.1 in
    let sum = sum_by-cons (size_for a) x xs in
    omega (arith, all, one, rest, sum)

pub fewer : (links : List Link) (a : ℕ) (some all : List Part) → each_two link_before links ≡ true → list_all (is_on_its_link links) some ≡ true → each_two share_nothing some ≡ true
    → list_all (is_on_its_link links) all ≡ true → ((p : Place) → has_asset_place some a p ≡ true → has_asset_place all a p ≡ true) → pairs_of a some ≤ pairs_of a all
fewer links a some all order inside apart within covered =
    let s = pairs_counted links a some order inside apart in
    let t = pairs_at_least links a all order within in
    let u = count-more (has_asset_place some a) (has_asset_place all a) (places_of links) covered in
    omega (arith, s, t, u)
