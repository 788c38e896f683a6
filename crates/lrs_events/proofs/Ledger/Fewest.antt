-- No other parts that have the same pairs, each on one piece of the course, are fewer.
use Rattle.std.proofs.Common.{◌≡◌, ℕ, zero, suc, ◌+◌, ◌-◌, ◌<◌, ◌≤◌, Bool, true, false, cond, ◌⊎◌, inl, inr, List, [], ◌∷◌, length, get_or, refl, sym, ap, subst, ◌∙◌, arith, length-append}
use Rattle.std.specs.Prelude.{◌&&◌, nat_eq, nat_le, nat_lt, sum_by, slice_range}
use Rattle.std.specs.List.{list_any, list_all, count_by}
use Rattle.std.proofs.lemmas.Bool.{false≢true, and_parts, and_from, cases_Bool, cases_order, eqb-true, eq-eqb, leb-true, ltb-true, le-leb, lt-ltb}
use Rattle.std.proofs.lemmas.List.{get_or_append_left, get_or-append_right}
use Rattle.std.proofs.lemmas.List.Sums.{sum_by-cons}
use Rattle.lrs_measure.specs.Lists.{In, each_two, same_bool}
use Rattle.lrs_measure.proofs.Members.{any_found, any_of, all_at, flat_map_found}
use Rattle.lrs_measure.proofs.Places.{place_in}
use Rattle.lrs_measure.proofs.Counts.{count_yes, count_no, count_cons}
use Rattle.lrs_element.specs.declared.link.Piece.{Piece}
use Rattle.lrs_element.specs.declared.link.Ground.{Ground}
use Rattle.lrs_element.specs.Course.{expand, course_of, continues}
use Rattle.lrs_element.specs.Pieces.{piece_len, ground_of}
use Rattle.lrs_element.proofs.Expanding.{length-expand, get_or-expand}
use Rattle.lrs_events.specs.declared.part.Part.{Part}
use Rattle.lrs_events.specs.declared.span.Span.{Span}
use Rattle.lrs_events.specs.declared.side.Side.{Side}
use Rattle.lrs_events.specs.declared.side.Side.TheVariants.{L, R, B}
use Rattle.lrs_events.specs.declared.side.LinkSide.{LinkSide}
use Rattle.lrs_events.specs.declared.side.LinkSide.TheVariants.{Left, Right}
use Rattle.lrs_events.specs.Members.{has_side, stands_for}
use Rattle.lrs_events.specs.Places.{Place, same_place, same_link_side, along_link, beside, places_at, differs}
use Rattle.lrs_events.specs.Parts.{has_for, has_place, times_had, IsHadOnce}
use Rattle.lrs_events.specs.Spans.{holds_by_span, holds_by_spans}
use Rattle.lrs_events.specs.Ledger.Ledger.{lies_in, are_on, one_has, AreWhole}
use Rattle.lrs_events.proofs.Ledger.Counts.{any_counted, sum_two}
use Rattle.lrs_events.proofs.Ledger.Once.{in_slice, not_twice}
use Rattle.lrs_events.proofs.Ledger.Keys.{two_counted, all_at_place}

-- ---- counts, and counts the other way round

none_placed : {X : Type 0} (p : X → Bool) (xs : List X) → ((j : ℕ) (d : X) → j < length xs → p (get_or xs j d) ≡ true → ⊥) → count_by p xs ≡ 0
none_placed p [] w = refl
none_placed p (x ∷ xs) w = count_no p x xs (no (p x) (w zero x (omega arith))) ∙ none_placed p xs (λ j d lt. w (suc j) d (omega (arith, lt)))
  where
    no : (b : Bool) → (b ≡ true → ⊥) → b ≡ false
    no true k = absurd (k refl)
    no false k = refl

at_most_once : {X : Type 0} (p : X → Bool) (xs : List X) → ((i j : ℕ) (d : X) → i < j → j < length xs → p (get_or xs i d) ≡ true → p (get_or xs j d) ≡ true → ⊥) → count_by p xs ≤ 1
at_most_once p [] h = omega arith
at_most_once p (x ∷ xs) h = by (cases_Bool (p x)) (at_most_once p xs (λ i j d less lt. h (suc i) (suc j) d (omega (arith, less)) (omega (arith, lt))))
  where
    by : (p x ≡ true) ⊎ (p x ≡ false) → count_by p xs ≤ 1 → count_by p (x ∷ xs) ≤ 1
    by (inl k) rest =
        let e = count_yes p x xs k in
        let n = none_placed p xs (λ j d lt. h zero (suc j) d (omega arith) (omega (arith, lt)) k) in
        omega (arith, e, n)
    by (inr k) rest = let e = count_no p x xs k in omega (arith, e, rest)

sum_none : {Y : Type 0} (ys : List Y) → sum_by (λ y. let z : ℕ = 0 in z) ys ≡ 0
sum_none [] = refl
sum_none (y ∷ ys) = let e = sum_by-cons (λ y. let z : ℕ = 0 in z) y ys in let r = sum_none ys in omega (arith, e, r)

module _ {X Y : Type 0} where
  -- counted from either side
  counted_both_ways : (test : X → Y → Bool) (xs : List X) (ys : List Y) → sum_by (λ x. count_by (test x) ys) xs ≡ sum_by (λ y. count_by (λ x. test x y) xs) ys
  counted_both_ways test [] ys = sym (sum_none ys)
  counted_both_ways test (x ∷ xs) ys =
      sum_by-cons (λ x. count_by (test x) ys) x xs
      ∙ ap (λ n. count_by (test x) ys + n) (counted_both_ways test xs ys)
      ∙ sym (sum_two (λ y. let n : ℕ = cond (test x y) 1 0 in n) (λ y. count_by (λ x. test x y) xs) ys)
      ∙ (λ i. sum_by (λ y. sym (count_cons (λ x. test x y) x xs) i) ys)

module _ {X : Type 0} where
  at_least_each : (f : X → ℕ) (xs : List X) → ((x : X) → In x xs → 1 ≤ f x) → length xs ≤ sum_by f xs
  at_least_each f [] h = omega arith
  at_least_each f (x ∷ xs) h = let e = sum_by-cons f x xs in let one = h x (inl refl) in let rest = at_least_each f xs (λ y m. h y (inr m)) in omega (arith, e, one, rest)

  at_most_each : (f : X → ℕ) (xs : List X) → ((x : X) → In x xs → f x ≤ 1) → sum_by f xs ≤ length xs
  at_most_each f [] h = omega arith
  at_most_each f (x ∷ xs) h = let e = sum_by-cons f x xs in let one = h x (inl refl) in let rest = at_most_each f xs (λ y m. h y (inr m)) in omega (arith, e, one, rest)

-- ---- where rows have a place

beside_which : (side : Side) (g : Ground) (q : Place) → In q (places_at side g) → (s : LinkSide) × (has_side side s ≡ true) × (q ≡ beside g s)
beside_which L g q (inl e) = (Left, refl, e)
beside_which L g q (inr m) = absurd m
beside_which R g q (inl e) = (Right, refl, e)
beside_which R g q (inr m) = absurd m
beside_which B g q (inl e) = (Left, refl, e)
beside_which B g q (inr (inl e)) = (Right, refl, e)
beside_which B g q (inr (inr m)) = absurd m

side_alike : (s t : LinkSide) → same_link_side s t ≡ true → s ≡ t
side_alike Left Left h = refl
side_alike Left Right h = absurd (false≢true h)
side_alike Right Left h = absurd (false≢true h)
side_alike Right Right h = refl

record IsFound (course : List Ground) (rows : List Span) (a : ℕ) (p : Place) : Type 0 where
  pub at : ℕ
  pub side : LinkSide
  pub within : at < length course
  pub on : are_on rows a at side ≡ true
  pub on_link : (d : Ground) → (get_or course at d).link ≡ p.link
  pub on_mm : (d : Ground) → (get_or course at d).mm ≡ p.mm
  pub on_side : (d : Ground) → along_link (get_or course at d).forward side ≡ p.side

find : (course : List Ground) (rows : List Span) (a : ℕ) (p : Place) → holds_by_spans course rows a p ≡ true → IsFound course rows a p
find course rows a p h =
    let row = any_found (λ r. holds_by_span course r a p) rows h in
    let r = row.0 in
    let parts = and_parts _ _ row.2 in
    let place = any_found (same_place p) _ parts.1 in
    let same = and_parts _ _ place.2 in
    let both = and_parts _ _ same.0 in
    let ground = flat_map_found (places_at r.side) place.0 (slice_range course r.from r.to) place.1 in
    let which = beside_which r.side ground.0 place.0 ground.2 in
    let spot = in_slice ground.0 course r.from r.to ground.1 in
    record {
      at = spot.0;
      side = which.0;
      within = spot.3;
      on = any_of (λ row. stands_for row a spot.0 which.0) r rows row.1
          (and_from (nat_eq r.asset a) ((nat_le r.from spot.0 && nat_lt spot.0 r.to) && has_side r.side which.0) parts.0
          (and_from (nat_le r.from spot.0 && nat_lt spot.0 r.to) (has_side r.side which.0) (and_from (nat_le r.from spot.0) (nat_lt spot.0 r.to) (le-leb r.from spot.0 spot.1) (lt-ltb spot.0 r.to spot.2)) which.1));
      on_link = λ d. ap (λ g. g.link) (spot.4 d) ∙ sym (eqb-true _ _ both.0 ∙ ap (λ q. q.link) which.2);
      on_mm = λ d. ap (λ g. g.mm) (spot.4 d) ∙ sym (eqb-true _ _ both.1 ∙ ap (λ q. q.mm) which.2);
      on_side = λ d. ap (λ g. along_link g.forward which.0) (spot.4 d) ∙ sym (side_alike p.side place.0.side same.1 ∙ ap (λ q. q.side) which.2);
    }

-- where a piece lies on its course
record LiesAt (ps : List Piece) (q : Piece) (st : ℕ) : Type 0 where
  pub within : st + piece_len q ≤ length (course_of ps)
  pub ground : (i : ℕ) (d : Ground) → i < piece_len q → get_or (course_of ps) (st + i) d ≡ ground_of q i

lies_at : (ps : List Piece) (q : Piece) → In q ps → (st : ℕ) × LiesAt ps q st
lies_at [] q m = absurd m
lies_at (p ∷ ps) q (inl e) =
    let own = length-expand q in
    let all = length-append (expand q) (course_of ps) in
    subst (λ r. (st : ℕ) × LiesAt (r ∷ ps) q st) e (
      0,
      record {
        within = omega (arith, own, all);
        ground = λ i d lt.
            ap (λ k. get_or (course_of (q ∷ ps)) k d) (let z : 0 + i ≡ i = omega arith in z)
            ∙ get_or_append_left (expand q) (course_of ps) d i (omega (arith, lt, own)) ∙ get_or-expand q i d lt;
      },
    )
lies_at (p ∷ ps) q (inr m) =
    let later = lies_at ps q m in
    let st = later.0 in
    let own = length-expand p in
    let all = length-append (expand p) (course_of ps) in
    let in' = later.1.within in (
      piece_len p + st,
      record {
        within = omega (arith, own, all, in');
        ground = λ i d lt.
            get_or-append_right (expand p) (course_of ps) (piece_len p) (piece_len p + st + i) d own (omega arith)
            ∙ ap (λ k. get_or (course_of ps) k d) (let z : piece_len p + st + i - piece_len p ≡ st + i = omega arith in z)
            ∙ later.1.ground i d lt;
      },
    )

straight_on : (f : Bool) (a b i : ℕ) → i + 1 < b - a
    → (cond f (nat_eq (cond f (a + (i + 1)) (b - 1 - (i + 1))) (cond f (a + i) (b - 1 - i) + 1)) (nat_eq (cond f (a + i) (b - 1 - i)) (cond f (a + (i + 1)) (b - 1 - (i + 1)) + 1))) ≡ true
straight_on true a b i h = eq-eqb (a + (i + 1)) (a + i + 1) (omega arith)
straight_on false a b i h = eq-eqb (b - 1 - i) (b - 1 - (i + 1) + 1) (omega (arith, h))

same_way : (b : Bool) → same_bool b b ≡ true
same_way true = refl
same_way false = refl

goes_straight_on : (q : Piece) (i : ℕ) → i + 1 < piece_len q → continues (ground_of q i) (ground_of q (i + 1)) ≡ true
goes_straight_on q i h = and_from _ _ (and_from _ _ (eq-eqb q.link q.link refl) (same_way q.forward)) (straight_on q.forward q.from q.to i h)

same_along : (f : Bool) (s t : LinkSide) → along_link f s ≡ along_link f t → s ≡ t
same_along true s t e = e
same_along false Left Left e = refl
same_along false Left Right e = absurd cc
same_along false Right Left e = absurd cc
same_along false Right Right e = refl

swapped : (a : ℕ) (p q : Place) (xs : List Part) → one_has xs a p q ≡ one_has xs a q p
swapped a p q xs = λ i. list_any (λ x. turn (has_for a p x) (has_for a q x) i) xs
  where
    turn : (b c : Bool) → (b && c) ≡ (c && b)
    turn true true = refl
    turn true false = refl
    turn false true = refl
    turn false false = refl

-- ---- neighbours on a piece are in one part

module _ (rows : List Span) (pieces : List Piece) (xs : List Part) (once : each_two differs (course_of pieces) ≡ true) (whole : AreWhole (course_of pieces) rows xs) where
  abbrev course : List Ground
  course = course_of pieces

  -- where a place of a piece is found on the course
  at_place : (q : Piece) (st i a : ℕ) (side : LinkSide) → LiesAt pieces q st → i < piece_len q → (f : IsFound course rows a (record { link = q.link; mm = (ground_of q i).mm; side = side })) → f.at ≡ st + i
  at_place q st i a side l lt f = by (cases_order f.at (st + i))
    where
      d : Ground
      d = ground_of q i

      here : get_or course (st + i) d ≡ d
      here = l.ground i d lt

      in' : st + i < length course
      in' = let w = l.within in omega (arith, w, lt)

      p : Place
      p = record { link = q.link; mm = (ground_of q i).mm; side = side }

      by : (f.at ≡ st + i) ⊎ ((f.at < st + i) ⊎ (st + i < f.at)) → f.at ≡ st + i
      by (inl e) = e
      by (inr (inl less)) = absurd (not_twice course p f.at (st + i) d once less in' (f.on_link d) (f.on_mm d) (ap (λ g. g.link) here) (ap (λ g. g.mm) here))
      by (inr (inr more)) = absurd (not_twice course p (st + i) f.at d once more f.within (ap (λ g. g.link) here) (ap (λ g. g.mm) here) (f.on_link d) (f.on_mm d))

  -- two places side by side along a piece, in the way in which it is run
  along : (q : Piece) (i a : ℕ) (side : LinkSide) → In q pieces → i + 1 < piece_len q
      → holds_by_spans course rows a (record { link = q.link; mm = (ground_of q i).mm; side = side }) ≡ true
      → holds_by_spans course rows a (record { link = q.link; mm = (ground_of q (i + 1)).mm; side = side }) ≡ true
      → one_has xs a (record { link = q.link; mm = (ground_of q i).mm; side = side }) (record { link = q.link; mm = (ground_of q (i + 1)).mm; side = side }) ≡ true
  along q i a side m lt h k =
      let at = lies_at pieces q m in
      let st = at.0 in
      let d = ground_of q i in
      let f = find course rows a (record { link = q.link; mm = (ground_of q i).mm; side = side }) h in
      let g = find course rows a (record { link = q.link; mm = (ground_of q (i + 1)).mm; side = side }) k in
      let fat = at_place q st i a side at.1 (omega (arith, lt)) f in
      let gat = at_place q st (i + 1) a side at.1 lt g in
      let one : get_or course (st + i) d ≡ ground_of q i = at.1.ground i d (omega (arith, lt)) in
      let next : get_or course (st + (i + 1)) d ≡ ground_of q (i + 1) = at.1.ground (i + 1) d lt in
      let sum : st + (i + 1) ≡ st + i + 1 = omega arith in
      let two : get_or course (st + i + 1) d ≡ ground_of q (i + 1) = ap (λ j. get_or course j d) (sym sum) ∙ next in
      let fs : along_link q.forward f.side ≡ side = ap (λ g. along_link g.forward f.side) (sym one ∙ ap (λ j. get_or course j d) (sym fat)) ∙ f.on_side d in
      let gs : along_link q.forward g.side ≡ side = ap (λ h. along_link h.forward g.side) (sym next ∙ ap (λ j. get_or course j d) (sym gat)) ∙ g.on_side d in
      let same : g.side ≡ f.side = same_along q.forward g.side f.side (gs ∙ sym fs) in
      let w = at.1.within in
      let both = whole.whole a (st + i) f.side d (omega (arith, w, lt)) ((λ j. continues (one j) (two j)) ∙ goes_straight_on q i lt)
      (ap (λ j. are_on rows a j f.side) (sym fat) ∙ f.on)
      ((λ j. are_on rows a ((sym sum ∙ sym gat) j) (sym same j)) ∙ g.on) in
      (λ j. one_has xs a (record { link = q.link; mm = (ground_of q i).mm; side = sym fs j }) (record { link = q.link; mm = (ground_of q (i + 1)).mm; side = sym fs j }))
      ∙ (λ j. one_has xs a (beside (sym one j) f.side) (beside (sym two j) f.side))
      ∙ both

  -- ... and in the way in which the link runs
  neighbours : (q : Piece) (n a : ℕ) (side : LinkSide) → In q pieces → q.from ≤ n → n + 1 < q.to
      → holds_by_spans course rows a (record { link = q.link; mm = n; side = side }) ≡ true → holds_by_spans course rows a (record { link = q.link; mm = n + 1; side = side }) ≡ true
      → one_has xs a (record { link = q.link; mm = n; side = side }) (record { link = q.link; mm = n + 1; side = side }) ≡ true
  neighbours q n a side m low high h k = by (cases_Bool q.forward)
    where
      abbrev_place : ℕ → Place
      abbrev_place mm = record { link = q.link; mm = mm; side = side }

      by : (q.forward ≡ true) ⊎ (q.forward ≡ false) → one_has xs a (abbrev_place n) (abbrev_place (n + 1)) ≡ true
      by (inl e) =
          let one : (ground_of q (n - q.from)).mm ≡ n = ap (λ f. let z : ℕ = cond f (q.from + (n - q.from)) (q.to - 1 - (n - q.from)) in z) e ∙ omega (arith, low) in
          let two : (ground_of q (n - q.from + 1)).mm ≡ n + 1 = ap (λ f. let z : ℕ = cond f (q.from + (n - q.from + 1)) (q.to - 1 - (n - q.from + 1)) in z) e ∙ omega (arith, low) in
          (λ j. one_has xs a (abbrev_place (sym one j)) (abbrev_place (sym two j)))
          ∙ along q (n - q.from) a side m (omega (arith, low, high)) (ap (λ z. holds_by_spans course rows a (abbrev_place z)) one ∙ h) (ap (λ z. holds_by_spans course rows a (abbrev_place z)) two ∙ k)
      by (inr e) =
          let i : ℕ = q.to - 1 - (n + 1) in
          let one : (ground_of q i).mm ≡ n + 1 = ap (λ f. let z : ℕ = cond f (q.from + i) (q.to - 1 - i) in z) e ∙ omega (arith, low, high) in
          let two : (ground_of q (i + 1)).mm ≡ n = ap (λ f. let z : ℕ = cond f (q.from + (i + 1)) (q.to - 1 - (i + 1)) in z) e ∙ omega (arith, low, high) in
          swapped a (abbrev_place n) (abbrev_place (n + 1)) xs
          ∙ (λ j. one_has xs a (abbrev_place (sym one j)) (abbrev_place (sym two j)))
          ∙ along q i a side m (omega (arith, low, high)) (ap (λ z. holds_by_spans course rows a (abbrev_place z)) one ∙ k) (ap (λ z. holds_by_spans course rows a (abbrev_place z)) two ∙ h)

-- ---- one part begins in each

pub record HasPlace (x : Part) (a : ℕ) (p : Place) : Type 0 where
  pub asset : x.asset ≡ a
  pub link : x.link ≡ p.link
  pub low : x.from ≤ p.mm
  pub high : p.mm < x.to
  pub side : x.side ≡ p.side

has : (x : Part) (a : ℕ) (p : Place) → has_for a p x ≡ true → HasPlace x a p
has x a p h =
    let r = and_parts (nat_eq x.asset a) (has_place x p) h in
    let s = and_parts ((nat_eq x.link p.link && nat_le x.from p.mm) && nat_lt p.mm x.to) (same_link_side x.side p.side) r.1 in
    let t = and_parts (nat_eq x.link p.link && nat_le x.from p.mm) (nat_lt p.mm x.to) s.0 in
    let u = and_parts (nat_eq x.link p.link) (nat_le x.from p.mm) t.0 in
    record { asset = eqb-true x.asset a r.0; link = eqb-true x.link p.link u.0; low = leb-true x.from p.mm u.1; high = ltb-true p.mm x.to t.1; side = side_alike x.side p.side s.1 }

side_refl : (s : LinkSide) → same_link_side s s ≡ true
side_refl Left = refl
side_refl Right = refl

from_has : (x : Part) (a : ℕ) (p : Place) → HasPlace x a p → has_for a p x ≡ true
from_has x a p h =
    and_from (nat_eq x.asset a) (has_place x p) (eq-eqb x.asset a h.asset)
    (and_from ((nat_eq x.link p.link && nat_le x.from p.mm) && nat_lt p.mm x.to) (same_link_side x.side p.side)
    (and_from (nat_eq x.link p.link && nat_le x.from p.mm) (nat_lt p.mm x.to) (and_from (nat_eq x.link p.link) (nat_le x.from p.mm) (eq-eqb x.link p.link h.link) (le-leb x.from p.mm h.low)) (lt-ltb p.mm x.to h.high))
    (ap (same_link_side x.side) (sym h.side) ∙ side_refl x.side))

abbrev begin : Part → Place
begin x = record { link = x.link; mm = x.from; side = x.side }

abbrev begins_in : Part → Part → Bool
begins_in x y = has_for x.asset (begin x) y

abbrev is_filled : Part → Bool
is_filled x = nat_lt x.from x.to

module _ (rows : List Span) (pieces : List Piece) (xs ys : List Part) (once : each_two differs (course_of pieces) ≡ true) (whole : AreWhole (course_of pieces) rows xs)
    (filled : list_all is_filled xs ≡ true) (had : IsHadOnce xs) (within : list_all (λ y. list_any (lies_in y) pieces) ys ≡ true)
    (shows : (a : ℕ) (p : Place) → list_any (has_for a p) xs ≡ holds_by_spans (course_of pieces) rows a p) (others : (a : ℕ) (p : Place) → list_any (has_for a p) ys ≡ holds_by_spans (course_of pieces) rows a p) where
  -- of two parts that begin in one other, none begins behind
  not_behind : (y x : Part) (j : ℕ) (d : Part) → In y ys → j < length xs → begins_in x y ≡ true → begins_in (get_or xs j d) y ≡ true → x.from < (get_or xs j d).from → ⊥
  not_behind y x j d m lt h k less =
      let w = get_or xs j d in
      let hx = has y x.asset (begin x) h in
      let hw = has y w.asset (begin w) k in
      let q = any_found (lies_in y) pieces (all_at (λ y. list_any (lies_in y) pieces) y ys within m) in
      let in' = and_parts (nat_eq y.link q.0.link && nat_le q.0.from y.from) (nat_le y.to q.0.to) q.2 in
      let on = and_parts (nat_eq y.link q.0.link) (nat_le q.0.from y.from) in'.0 in
      let link = eqb-true y.link q.0.link on.0 in
      let from = leb-true q.0.from y.from on.1 in
      let to = leb-true y.to q.0.to in'.1 in
      let xl = hx.low in
      let wh = hw.high in
      let k1 : w.from - 1 + 1 ≡ w.from = omega (arith, less) in
      let p0 : Place = record { link = q.0.link; mm = w.from - 1; side = w.side } in
      let p1 : Place = record { link = q.0.link; mm = w.from - 1 + 1; side = w.side } in
      let y0 : HasPlace y w.asset p0 = record { asset = hw.asset; link = link; low = omega (arith, xl, less); high = omega (arith, wh); side = hw.side } in
      let y1 : HasPlace y w.asset p1 = record { asset = hw.asset; link = link; low = omega (arith, xl, less); high = omega (arith, wh, k1); side = hw.side } in
      let held0 = sym (others w.asset p0) ∙ any_of (has_for w.asset p0) y ys m (from_has y w.asset p0 y0) in
      let held1 = sym (others w.asset p1) ∙ any_of (has_for w.asset p1) y ys m (from_has y w.asset p1 y1) in
      let both = neighbours rows pieces xs once whole q.0 (w.from - 1) w.asset w.side q.1 (omega (arith, from, xl, less)) (omega (arith, to, wh, k1)) held0 held1 in
      let z = any_found (λ x. has_for w.asset p0 x && has_for w.asset p1 x) xs both in
      let zz = and_parts (has_for w.asset p0 z.0) (has_for w.asset p1 z.0) z.2 in
      let place = place_in z.0 xs z.1 in
      let at = place.2 d in
      let z1 : has_for w.asset p1 (get_or xs place.0 d) ≡ true = ap (has_for w.asset p1) at ∙ zz.1 in
      let rises = ltb-true w.from w.to (all_at_place is_filled xs j d filled lt) in
      let w1 : has_for w.asset p1 w ≡ true = from_has w w.asset p1 (record { asset = refl; link = sym hw.link ∙ link; low = omega (arith, k1); high = omega (arith, k1, rises); side = refl }) in
      let limit = had w.asset p1 in
      let low = (has z.0 w.asset p0 zz.0).low in
      by place.0 p1 z.0 place.1 z1 w1 limit low at (cases_order place.0 j)
    where
      by : (i : ℕ) (p : Place) (z : Part) → i < length xs → has_for (get_or xs j d).asset p (get_or xs i d) ≡ true → has_for (get_or xs j d).asset p (get_or xs j d) ≡ true → times_had (get_or xs j d).asset p xs ≤ 1
          → z.from ≤ (get_or xs j d).from - 1 → get_or xs i d ≡ z → (i ≡ j) ⊎ ((i < j) ⊎ (j < i)) → ⊥
      by i p z il a b limit low at (inl e) =
          let same : (get_or xs j d).from ≡ z.from = ap (λ k. (get_or xs k d).from) (sym e) ∙ ap (λ x. x.from) at in
          omega (arith, low, same, less)
      by i p z il a b limit low at (inr (inl l)) = let two = two_counted (has_for (get_or xs j d).asset p) xs i j d l lt a b in omega (arith, two, limit)
      by i p z il a b limit low at (inr (inr l)) = let two = two_counted (has_for (get_or xs j d).asset p) xs j i d l il b a in omega (arith, two, limit)

  each_once : (y : Part) → In y ys → count_by (λ x. begins_in x y) xs ≤ 1
  each_once y m = at_most_once (λ x. begins_in x y) xs (λ i j d less lt h k. by i j d less lt h k (cases_order (get_or xs i d).from (get_or xs j d).from))
    where
      by : (i j : ℕ) (d : Part) → i < j → j < length xs → begins_in (get_or xs i d) y ≡ true → begins_in (get_or xs j d) y ≡ true
          → ((get_or xs i d).from ≡ (get_or xs j d).from) ⊎ (((get_or xs i d).from < (get_or xs j d).from) ⊎ ((get_or xs j d).from < (get_or xs i d).from)) → ⊥
      by i j d less lt h k (inr (inl l)) = not_behind y (get_or xs i d) j d m lt h k l
      by i j d less lt h k (inr (inr l)) = not_behind y (get_or xs j d) i d m (omega (arith, less, lt)) k h l
      by i j d less lt h k (inl e) =
          let x = get_or xs i d in
          let w = get_or xs j d in
          let hx = has y x.asset (begin x) h in
          let hw = has y w.asset (begin w) k in
          let xr = ltb-true x.from x.to (all_at_place is_filled xs i d filled (omega (arith, less, lt))) in
          let wr = ltb-true w.from w.to (all_at_place is_filled xs j d filled lt) in
          let two = two_counted (has_for x.asset (begin x)) xs i j d less lt
          (from_has x x.asset (begin x) (record { asset = refl; link = refl; low = omega arith; high = xr; side = refl }))
          (from_has w x.asset (begin x) (record { asset = sym hw.asset ∙ hx.asset; link = sym hw.link ∙ hx.link; low = omega (arith, e); high = omega (arith, e, wr); side = sym hw.side ∙ hx.side })) in
          let limit = had x.asset (begin x) in
          omega (arith, two, limit)

  each_begun : (x : Part) → In x xs → 1 ≤ count_by (begins_in x) ys
  each_begun x m =
      let r = ltb-true x.from x.to (all_at is_filled x xs filled m) in
      let own = from_has x x.asset (begin x) (record { asset = refl; link = refl; low = omega arith; high = r; side = refl }) in
      let there = others x.asset (begin x) ∙ sym (shows x.asset (begin x)) ∙ any_of (has_for x.asset (begin x)) x xs m own in
      ltb-true 0 (count_by (begins_in x) ys) (sym (any_counted (begins_in x) ys) ∙ there)

  pub no_fewer : length xs ≤ length ys
  no_fewer =
      let a = at_least_each (λ x. count_by (begins_in x) ys) xs each_begun in
      let b = counted_both_ways begins_in xs ys in
      let c = at_most_each (λ y. count_by (λ x. begins_in x y) xs) ys each_once in
      omega (arith, a, b, c)
