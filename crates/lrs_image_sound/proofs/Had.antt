-- Two parts share nothing exactly where no pair is had twice.
use Rattle.std.proofs.Common.{◌≡◌, ℕ, ◌<◌, ◌≤◌, max, Bool, true, false, ◌⊎◌, inl, inr, List, [], ◌∷◌, refl, sym, ap, ◌∙◌, arith}
use Rattle.std.specs.Prelude.{◌||◌, ◌&&◌, not, nat_eq, nat_le, nat_lt}
use Rattle.std.specs.List.{AllByRecursion, list_all}
use Rattle.std.proofs.lemmas.Bool.{false≢true, both_ways, not-false, not-true, and_parts, and_from, or_cases, or_parts, cases_Bool, eqb-true, eq-eqb, leb-true, leb-false, le-leb, lt-ltb}
use Rattle.lrs_measure.specs.Lists.{each_two}
use Rattle.lrs_measure.proofs.Counts.{count_cons, count_yes, count_no}
use Rattle.lrs_events.specs.declared.part.Part.{Part}
use Rattle.lrs_events.specs.declared.side.LinkSide.{LinkSide}
use Rattle.lrs_events.specs.declared.side.LinkSide.TheVariants.{Left, Right}
use Rattle.lrs_events.specs.Places.{Place, same_link_side}
use Rattle.lrs_events.specs.Parts.{has_place}
use Rattle.lrs_machine.specs.Sound.{share_nothing}
use Rattle.lrs_machine.proofs.Pairs.{place_had}
use Rattle.lrs_image_sound.specs.SweptParts.{IsFilled}
use Rattle.lrs_events.specs.Parts.{has_for, times_had, IsHadOnce}

pub same_refl : (s : LinkSide) → same_link_side s s ≡ true
same_refl Left = refl
same_refl Right = refl

pub sides_same : (s t : LinkSide) → same_link_side s t ≡ true → s ≡ t
sides_same Left Left h = refl
sides_same Left Right h = absurd (false≢true h)
sides_same Right Left h = absurd (false≢true h)
sides_same Right Right h = refl

pub has_it : (x : Part) (a : ℕ) (p : Place) → x.asset ≡ a → x.link ≡ p.link → x.side ≡ p.side → x.from ≤ p.mm → p.mm < x.to → has_for a p x ≡ true
has_it x a p f g h low high =
    and_from (nat_eq x.asset a) (has_place x p) (eq-eqb x.asset a f)
    (and_from ((nat_eq x.link p.link && nat_le x.from p.mm) && nat_lt p.mm x.to) (same_link_side x.side p.side)
    (and_from (nat_eq x.link p.link && nat_le x.from p.mm) (nat_lt p.mm x.to) (and_from (nat_eq x.link p.link) (nat_le x.from p.mm) (eq-eqb x.link p.link g) (le-leb x.from p.mm low)) (lt-ltb p.mm x.to high))
    (ap (same_link_side x.side) (sym h) ∙ same_refl x.side))

-- ---- two parts

abbrev alike : Part → Part → Bool
alike x y = nat_eq x.asset y.asset && nat_eq x.link y.link && same_link_side x.side y.side

pub clash : (x y : Part) (a : ℕ) (p : Place) → share_nothing x y ≡ true → has_for a p x ≡ true → has_for a p y ≡ true → ⊥
clash x y a p test k l =
    let hx = place_had x a p k in
    let hy = place_had y a p l in
    let same : alike x y ≡ true =
    and_from (nat_eq x.asset y.asset && nat_eq x.link y.link) (same_link_side x.side y.side)
    (and_from (nat_eq x.asset y.asset) (nat_eq x.link y.link) (eq-eqb x.asset y.asset (hx.of_asset ∙ sym hy.of_asset)) (eq-eqb x.link y.link (hx.on_link ∙ sym hy.on_link)))
    (ap (same_link_side x.side) (sym (hx.on_side ∙ sym hy.on_side)) ∙ same_refl x.side) in
    by hx.low hx.high hy.low hy.high same (or_cases (not (alike x y) || nat_le x.to y.from) (nat_le y.to x.from) test)
  where
    first : x.from ≤ p.mm → p.mm < x.to → y.from ≤ p.mm → p.mm < y.to → alike x y ≡ true → (not (alike x y) ≡ true) ⊎ (nat_le x.to y.from ≡ true) → ⊥
    first a b c d same (inl o) = both_ways (alike x y) (not-true (alike x y) o) same
    first a b c d same (inr o) = let e = leb-true x.to y.from o in omega (arith, a, b, c, d, e)

    by : x.from ≤ p.mm → p.mm < x.to → y.from ≤ p.mm → p.mm < y.to → alike x y ≡ true → ((not (alike x y) || nat_le x.to y.from) ≡ true) ⊎ (nat_le y.to x.from ≡ true) → ⊥
    by a b c d same (inl o) = first a b c d same (or_cases (not (alike x y)) (nat_le x.to y.from) o)
    by a b c d same (inr o) = let e = leb-true y.to x.from o in omega (arith, a, b, c, d, e)

-- two parts have a pair in common
pub record Overlap (x y : Part) : Type 0 where
  pub asset : ℕ
  pub place : Place
  pub of_one : has_for asset place x ≡ true
  pub of_other : has_for asset place y ≡ true

pub overlapping : (x y : Part) → IsFilled x → IsFilled y → share_nothing x y ≡ false → Overlap x y
overlapping x y fx fy h =
    let outer = or_parts (not (alike x y) || nat_le x.to y.from) (nat_le y.to x.from) h in
    let inner = or_parts (not (alike x y)) (nat_le x.to y.from) outer.0 in
    let same = and_parts (nat_eq x.asset y.asset && nat_eq x.link y.link) (same_link_side x.side y.side) (not-false (alike x y) inner.0) in
    let first = and_parts (nat_eq x.asset y.asset) (nat_eq x.link y.link) same.0 in
    let yx : y.from < x.to = leb-false x.to y.from inner.1 in
    let xy : x.from < y.to = leb-false y.to x.from outer.1 in
    let xx : x.from < x.to = fx in
    let yy : y.from < y.to = fy in
    let p : Place = record { link = x.link; mm = max x.from y.from; side = x.side } in
    record {
      asset = x.asset;
      place = p;
      of_one = has_it x x.asset p refl refl refl (omega arith) (omega arith);
      of_other = has_it y x.asset p (sym (eqb-true x.asset y.asset first.0)) (sym (eqb-true x.link y.link first.1)) (sym (sides_same x.side y.side same.1)) (omega arith) (omega arith);
    }

-- ---- all of them

none_else : (x : Part) (ys : List Part) (a : ℕ) (p : Place) → list_all (share_nothing x) ys ≡ true → has_for a p x ≡ true → times_had a p ys ≡ 0
none_else x [] a p h k = refl
none_else x (y ∷ ys) a p h k = by (cases_Bool (has_for a p y)) (none_else x ys a p both.1 k)
  where
    both : (share_nothing x y ≡ true) × (list_all (share_nothing x) ys ≡ true)
    both = and_parts (share_nothing x y) (list_all (share_nothing x) ys) h

    by : (has_for a p y ≡ true) ⊎ (has_for a p y ≡ false) → times_had a p ys ≡ 0 → times_had a p (y ∷ ys) ≡ 0
    by (inl l) rest = absurd (clash x y a p both.0 k l)
    by (inr l) rest = count_no (has_for a p) y ys l ∙ rest

pub once_from_apart : (xs : List Part) → each_two share_nothing xs ≡ true → IsHadOnce xs
once_from_apart [] h a p = omega arith
once_from_apart (x ∷ xs) h a p = by (cases_Bool (has_for a p x)) (once_from_apart xs both.1 a p)
  where
    both : (list_all (share_nothing x) xs ≡ true) × (each_two share_nothing xs ≡ true)
    both = and_parts (list_all (share_nothing x) xs) (each_two share_nothing xs) h

    by : (has_for a p x ≡ true) ⊎ (has_for a p x ≡ false) → times_had a p xs ≤ 1 → times_had a p (x ∷ xs) ≤ 1
    by (inl k) rest = let e = count_yes (has_for a p) x xs k in let n = none_else x xs a p both.0 k in omega (arith, e, n)
    by (inr k) rest = let e = count_no (has_for a p) x xs k in omega (arith, e, rest)

all_apart : (x : Part) (ys : List Part) → IsFilled x → AllByRecursion IsFilled ys → IsHadOnce (x ∷ ys) → list_all (share_nothing x) ys ≡ true
all_apart x [] fx fs once = refl
all_apart x (y ∷ ys) fx fs once = and_from (share_nothing x y) (list_all (share_nothing x) ys) (by (cases_Bool (share_nothing x y))) (all_apart x ys fx fs.1 fewer)
  where
    fewer : IsHadOnce (x ∷ ys)
    fewer a p =
        let e = count_cons (has_for a p) x (y ∷ ys) in
        let f = count_cons (has_for a p) y ys in
        let g = count_cons (has_for a p) x ys in
        let o = once a p in
        omega (arith, e, f, g, o)

    by : (share_nothing x y ≡ true) ⊎ (share_nothing x y ≡ false) → share_nothing x y ≡ true
    by (inl h) = h
    by (inr h) =
        let o = overlapping x y fx fs.0 h in
        let e = count_yes (has_for o.asset o.place) x (y ∷ ys) o.of_one in
        let f = count_yes (has_for o.asset o.place) y ys o.of_other in
        let g = once o.asset o.place in
        absurd (omega (arith, e, f, g))

pub apart_from_once : (xs : List Part) → AllByRecursion IsFilled xs → IsHadOnce xs → each_two share_nothing xs ≡ true
apart_from_once [] fs once = refl
apart_from_once (x ∷ xs) fs once =
    and_from (list_all (share_nothing x) xs) (each_two share_nothing xs) (all_apart x xs fs.0 fs.1 once)
    (apart_from_once xs fs.1 (λ a p. let e = count_cons (has_for a p) x xs in let o = once a p in omega (arith, e, o)))
