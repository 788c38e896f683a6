-- On a course that has no millimetre twice the rows of a route have each place once.
use Rattle.std.proofs.Common.{◌≡◌, ℕ, zero, suc, ◌+◌, ◌-◌, ◌<◌, ◌≤◌, Bool, true, false, ◌⊎◌, inl, inr, List, [], ◌∷◌, take, drop, length, get_or, refl, sym, ap, ◌∙◌, arith, length-take}
use Rattle.std.specs.Prelude.{◌||◌, ◌&&◌, nat_lt, nat_eq, slice_range}
use Rattle.std.specs.List.{list_any, list_all, count_by}
use Rattle.std.proofs.lemmas.Bool.{false≢true, both_ways, not-true, and_parts, and_from, cases_Bool, cases_order, eqb-true, eq-eqb}
use Rattle.std.proofs.lemmas.List.{get_or-take, get_or-drop, length-drop}
use Rattle.lrs_measure.specs.Lists.{In, each_two}
use Rattle.lrs_measure.proofs.Members.{any_found, all_at, flat_map_found}
use Rattle.lrs_measure.proofs.Places.{place_in, two_pass}
use Rattle.lrs_measure.proofs.Counts.{count_cons, count_append, count_no, at_most_one}
use Rattle.lrs_element.specs.declared.link.Ground.{Ground}
use Rattle.lrs_element.specs.Course.{is_at}
use Rattle.lrs_events.specs.declared.span.Span.{Span}
use Rattle.lrs_events.specs.declared.side.Side.{Side}
use Rattle.lrs_events.specs.declared.side.Side.TheVariants.{L, R, B}
use Rattle.lrs_events.specs.declared.side.LinkSide.{LinkSide}
use Rattle.lrs_events.specs.declared.side.LinkSide.TheVariants.{Left, Right}
use Rattle.lrs_events.specs.Places.{Place, same_place, same_link_side, along_link, beside, places_at, places_on, differs}
use Rattle.lrs_events.specs.Spans.{holds_by_span, holds_by_spans, are_apart, are_rows, is_row, span_before}
use Rattle.lrs_events.specs.Ledger.Ledger.{times_in_row, times_in_rows}
use Rattle.lrs_events.proofs.Ledger.Counts.{any_counted, any_summed, sum_same}
use Rattle.lrs_events.proofs.Ledger.Counted.{pick}
use Rattle.lrs_events.proofs.Ledger.Ordered.{apart}

-- ---- where a row has a place

pub in_slice : (g : Ground) (xs : List Ground) (from to : ℕ) → In g (slice_range xs from to) → (j : ℕ) × (from ≤ j) × (j < to) × (j < length xs) × ((d : Ground) → get_or xs j d ≡ g)
in_slice g xs from to m =
    let place = place_in g (slice_range xs from to) m in
    let k = place.0 in
    let short = length-take (to - from) (drop from xs) in
    let rest = length-drop from xs in
    let within = place.1 in
    let low : k < to - from = omega (arith, short, rest, within) in
    (from + k, omega arith, omega (arith, low), omega (arith, short, rest, within), λ d. sym (get_or-drop from xs k d) ∙ sym (get_or-take (to - from) (drop from xs) k d low) ∙ place.2 d)

record Spot (course : List Ground) (r : Span) (a : ℕ) (p : Place) : Type 0 where
  pub of_asset : r.asset ≡ a
  pub at : ℕ
  pub low : r.from ≤ at
  pub high : at < r.to
  pub within : at < length course
  pub on_link : (d : Ground) → (get_or course at d).link ≡ p.link
  pub on_mm : (d : Ground) → (get_or course at d).mm ≡ p.mm

pub beside_ground : (s : Side) (g : Ground) (q : Place) → In q (places_at s g) → (q.link ≡ g.link) × (q.mm ≡ g.mm)
beside_ground L g q (inl e) = (ap (λ r. r.link) e, ap (λ r. r.mm) e)
beside_ground L g q (inr m) = absurd m
beside_ground R g q (inl e) = (ap (λ r. r.link) e, ap (λ r. r.mm) e)
beside_ground R g q (inr m) = absurd m
beside_ground B g q (inl e) = (ap (λ r. r.link) e, ap (λ r. r.mm) e)
beside_ground B g q (inr (inl e)) = (ap (λ r. r.link) e, ap (λ r. r.mm) e)
beside_ground B g q (inr (inr m)) = absurd m

spot : (course : List Ground) (r : Span) (a : ℕ) (p : Place) → holds_by_span course r a p ≡ true → Spot course r a p
spot course r a p h =
    let parts = and_parts _ _ h in
    let place = any_found (same_place p) _ parts.1 in
    let same = and_parts _ _ place.2 in
    let both = and_parts _ _ same.0 in
    let ground = flat_map_found (places_at r.side) place.0 (slice_range course r.from r.to) place.1 in
    let is = beside_ground r.side ground.0 place.0 ground.2 in
    let spot = in_slice ground.0 course r.from r.to ground.1 in
    record {
      of_asset = eqb-true _ _ parts.0;
      at = spot.0;
      low = spot.1;
      high = spot.2;
      within = spot.3;
      on_link = λ d. ap (λ g. g.link) (spot.4 d) ∙ sym (eqb-true _ _ both.0 ∙ is.0);
      on_mm = λ d. ap (λ g. g.mm) (spot.4 d) ∙ sym (eqb-true _ _ both.1 ∙ is.1);
    }

-- a place is at one chainage of a course at most
pub not_twice : (course : List Ground) (p : Place) (i j : ℕ) (d : Ground) → each_two differs course ≡ true → i < j → j < length course
    → (get_or course i d).link ≡ p.link → (get_or course i d).mm ≡ p.mm → (get_or course j d).link ≡ p.link → (get_or course j d).mm ≡ p.mm → ⊥
not_twice course p i j d once less within a b e f =
    let g = get_or course i d in
    let h = get_or course j d in
    both_ways (is_at (g.link, g.mm) h) (not-true (is_at (g.link, g.mm) h) (two_pass differs course i j d once less within))
    (and_from (nat_eq h.link g.link) (nat_eq h.mm g.mm) (eq-eqb h.link g.link (e ∙ sym a)) (eq-eqb h.mm g.mm (f ∙ sym b)))

one_spot : (course : List Ground) (r s : Span) (a : ℕ) (p : Place) → each_two differs course ≡ true → (x : Spot course r a p) → (y : Spot course s a p) → x.at ≡ y.at
one_spot course r s a p once x y = by (cases_order x.at y.at)
  where
    d : Ground
    d = record { link = 0; mm = 0; forward = true }

    by : (x.at ≡ y.at) ⊎ ((x.at < y.at) ⊎ (y.at < x.at)) → x.at ≡ y.at
    by (inl e) = e
    by (inr (inl less)) = absurd (not_twice course p x.at y.at d once less y.within (x.on_link d) (x.on_mm d) (y.on_link d) (y.on_mm d))
    by (inr (inr more)) = absurd (not_twice course p y.at x.at d once more x.within (y.on_link d) (y.on_mm d) (x.on_link d) (x.on_mm d))

-- one row of an asset has a place
one_row : (course : List Ground) (rows : List Span) (a : ℕ) (p : Place) → each_two differs course ≡ true → each_two are_apart rows ≡ true → count_by (λ r. holds_by_span course r a p) rows ≤ 1
one_row course rows a p once off = at_most_one (λ r. holds_by_span course r a p) are_apart rows off (λ r s m n test h k.
    let x = spot course r a p h in
    let y = spot course s a p k in
    let e = one_spot course r s a p once x y in
    clash x.low x.high y.low y.high e (apart r s test (x.of_asset ∙ sym y.of_asset)).off)
  where
    clash : {i j k l m n : ℕ} → i ≤ k → k < j → m ≤ l → l < n → k ≡ l → (j ≤ m) ⊎ (n ≤ i) → ⊥
    clash a b c d e (inl f) = omega (arith, a, b, c, d, e, f)
    clash a b c d e (inr f) = omega (arith, a, b, c, d, e, f)

-- ---- and it has it once

same_sides : (s t : LinkSide) (p : LinkSide) → same_link_side p s ≡ true → same_link_side p t ≡ true → s ≡ t
same_sides Left Left p h k = refl
same_sides Right Right p h k = refl
same_sides Left Right Left h k = absurd (false≢true k)
same_sides Left Right Right h k = absurd (false≢true h)
same_sides Right Left Left h k = absurd (false≢true h)
same_sides Right Left Right h k = absurd (false≢true k)

sides_differ : (f : Bool) → along_link f Left ≡ along_link f Right → ⊥
sides_differ true e = absurd cc
sides_differ false e = absurd cc

-- a millimetre has a place once
here_once : (side : Side) (g : Ground) (p : Place) → count_by (same_place p) (places_at side g) ≤ 1
here_once L g p = one (same_place p (beside g Left)) (count_cons (same_place p) (beside g Left) [])
  where
    one : {n : ℕ} (b : Bool) → n ≡ pick b 1 0 + 0 → n ≤ 1
    one true e = omega (arith, e)
    one false e = omega (arith, e)
here_once R g p = one (same_place p (beside g Right)) (count_cons (same_place p) (beside g Right) [])
  where
    one : {n : ℕ} (b : Bool) → n ≡ pick b 1 0 + 0 → n ≤ 1
    one true e = omega (arith, e)
    one false e = omega (arith, e)
here_once B g p =
    two (same_place p (beside g Left)) (same_place p (beside g Right)) apart_sides
    (count_cons (same_place p) (beside g Left) (beside g Right ∷ [])) (count_cons (same_place p) (beside g Right) [])
  where
    apart_sides : same_place p (beside g Left) ≡ true → same_place p (beside g Right) ≡ true → ⊥
    apart_sides h k =
        sides_differ g.forward (same_sides (along_link g.forward Left) (along_link g.forward Right) p.side
        (and_parts (nat_eq p.link g.link && nat_eq p.mm g.mm) (same_link_side p.side (along_link g.forward Left)) h).1
        (and_parts (nat_eq p.link g.link && nat_eq p.mm g.mm) (same_link_side p.side (along_link g.forward Right)) k).1)

    two : {n m : ℕ} (b c : Bool) → (b ≡ true → c ≡ true → ⊥) → n ≡ pick b 1 0 + m → m ≡ pick c 1 0 + 0 → n ≤ 1
    two true true w e f = absurd (w refl refl)
    two true false w e f = omega (arith, e, f)
    two false true w e f = omega (arith, e, f)
    two false false w e f = omega (arith, e, f)

some_counted : {X : Type 0} (p : X → Bool) (xs : List X) → (count_by p xs ≡ 0) ⊎ (list_any p xs ≡ true)
some_counted p [] = inl refl
some_counted p (x ∷ xs) = by (cases_Bool (p x)) (some_counted p xs)
  where
    by : (p x ≡ true) ⊎ (p x ≡ false) → (count_by p xs ≡ 0) ⊎ (list_any p xs ≡ true) → (count_by p (x ∷ xs) ≡ 0) ⊎ (list_any p (x ∷ xs) ≡ true)
    by (inl h) o = inr (ap (λ b. b || list_any p xs) h)
    by (inr h) (inl e) = inl (count_no p x xs h ∙ e)
    by (inr h) (inr e) = inr (ap (λ b. b || list_any p xs) h ∙ e)

-- a course has it once
ground_once : (side : Side) (gs : List Ground) (p : Place) → each_two differs gs ≡ true → count_by (same_place p) (places_on side gs) ≤ 1
ground_once side [] p h = omega arith
ground_once side (g ∷ gs) p h = by (some_counted (same_place p) (places_at side g)) (some_counted (same_place p) (places_on side gs)) (ground_once side gs p both.1)
  where
    both : (list_all (differs g) gs ≡ true) × (each_two differs gs ≡ true)
    both = and_parts (list_all (differs g) gs) (each_two differs gs) h

    sum : count_by (same_place p) (places_on side (g ∷ gs)) ≡ count_by (same_place p) (places_at side g) + count_by (same_place p) (places_on side gs)
    sum = count_append (same_place p) (places_at side g) (places_on side gs)

    clash : list_any (same_place p) (places_at side g) ≡ true → list_any (same_place p) (places_on side gs) ≡ true → ⊥
    clash k l =
        let x = any_found (same_place p) (places_at side g) k in
        let y = any_found (same_place p) (places_on side gs) l in
        let there = flat_map_found (places_at side) y.0 gs y.1 in
        let hg = beside_ground side g x.0 x.1 in
        let hh = beside_ground side there.0 y.0 there.2 in
        let px = and_parts (nat_eq p.link x.0.link) (nat_eq p.mm x.0.mm) (and_parts (nat_eq p.link x.0.link && nat_eq p.mm x.0.mm) (same_link_side p.side x.0.side) x.2).0 in
        let py = and_parts (nat_eq p.link y.0.link) (nat_eq p.mm y.0.mm) (and_parts (nat_eq p.link y.0.link && nat_eq p.mm y.0.mm) (same_link_side p.side y.0.side) y.2).0 in
        let o = there.0 in
        both_ways (is_at (g.link, g.mm) o) (not-true (is_at (g.link, g.mm) o) (all_at (differs g) o gs both.0 there.1))
        (and_from (nat_eq o.link g.link) (nat_eq o.mm g.mm)
        (eq-eqb o.link g.link (sym hh.0 ∙ sym (eqb-true p.link y.0.link py.0) ∙ eqb-true p.link x.0.link px.0 ∙ hg.0))
        (eq-eqb o.mm g.mm (sym hh.1 ∙ sym (eqb-true p.mm y.0.mm py.1) ∙ eqb-true p.mm x.0.mm px.1 ∙ hg.1)))

    by : (count_by (same_place p) (places_at side g) ≡ 0) ⊎ (list_any (same_place p) (places_at side g) ≡ true) → (count_by (same_place p) (places_on side gs) ≡ 0) ⊎ (list_any (same_place p) (places_on side gs) ≡ true)
        → count_by (same_place p) (places_on side gs) ≤ 1 → count_by (same_place p) (places_on side (g ∷ gs)) ≤ 1
    by (inl e) o rest = omega (arith, sum, e, rest)
    by (inr k) (inl e) rest = let m = here_once side g p in omega (arith, sum, e, m)
    by (inr k) (inr l) rest = absurd (clash k l)

each_two-drop : (n : ℕ) (gs : List Ground) → each_two differs gs ≡ true → each_two differs (drop n gs) ≡ true
each_two-drop zero gs h = h
each_two-drop (suc n) [] h = refl
each_two-drop (suc n) (g ∷ gs) h = each_two-drop n gs (and_parts (list_all (differs g) gs) (each_two differs gs) h).1

all-take : (test : Ground → Bool) (n : ℕ) (gs : List Ground) → list_all test gs ≡ true → list_all test (take n gs) ≡ true
all-take test zero gs h = refl
all-take test (suc n) [] h = refl
all-take test (suc n) (g ∷ gs) h = let both = and_parts (test g) (list_all test gs) h in and_from (test g) (list_all test (take n gs)) both.0 (all-take test n gs both.1)

each_two-take : (n : ℕ) (gs : List Ground) → each_two differs gs ≡ true → each_two differs (take n gs) ≡ true
each_two-take zero gs h = refl
each_two-take (suc n) [] h = refl
each_two-take (suc n) (g ∷ gs) h =
    let both = and_parts (list_all (differs g) gs) (each_two differs gs) h in
    and_from (list_all (differs g) (take n gs)) (each_two differs (take n gs)) (all-take (differs g) n gs both.0) (each_two-take n gs both.1)

-- ---- rows

-- a row has a place where it has it at all
pub is_had : (course : List Ground) (a : ℕ) (p : Place) (r : Span) → holds_by_span course r a p ≡ nat_lt 0 (times_in_row course a p r)
is_had course a p r = ap (λ b. nat_eq r.asset a && b) (any_counted (same_place p) (places_on r.side (slice_range course r.from r.to))) ∙ shape (nat_eq r.asset a) (count_by (same_place p) (places_on r.side (slice_range course r.from r.to)))
  where
    shape : (b : Bool) (n : ℕ) → (b && nat_lt 0 n) ≡ nat_lt 0 (pick b n 0)
    shape true n = refl
    shape false n = refl

pub are_had : (course : List Ground) (rows : List Span) (a : ℕ) (p : Place) → holds_by_spans course rows a p ≡ nat_lt 0 (times_in_rows course rows a p)
are_had course rows a p = any_summed (λ r. holds_by_span course r a p) (times_in_row course a p) rows (is_had course a p)

row_once : (course : List Ground) (a : ℕ) (p : Place) → each_two differs course ≡ true → (r : Span) → times_in_row course a p r ≤ 1
row_once course a p once r = by (nat_eq r.asset a)
  where
    by : (b : Bool) → pick b (count_by (same_place p) (places_on r.side (slice_range course r.from r.to))) 0 ≤ 1
    by true = ground_once r.side (slice_range course r.from r.to) p (each_two-take (r.to - r.from) (drop r.from course) (each_two-drop r.from course once))
    by false = omega arith

as_test : (n : ℕ) → n ≤ 1 → n ≡ pick (nat_lt 0 n) 1 0
as_test zero h = refl
as_test (suc zero) h = refl
as_test (suc (suc n)) h = absurd (omega (arith, h))

pub rows_once : (course : List Ground) (rows : List Span) (a : ℕ) (p : Place) → each_two differs course ≡ true → are_rows rows ≡ true → times_in_rows course rows a p ≤ 1
rows_once course rows a p once h =
    let e = sum_same (times_in_row course a p) (λ r. pick (holds_by_span course r a p) 1 0) rows
    (λ r. as_test (times_in_row course a p r) (row_once course a p once r) ∙ ap (λ b. pick b 1 0) (sym (is_had course a p r))) in
    let one = one_row course rows a p once (and_parts (list_all is_row rows && each_two span_before rows) (each_two are_apart rows) h).1 in
    omega (arith, e, one)
