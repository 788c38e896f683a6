-- Rows that are gathered from one edge to the next.
use Rattle.std.proofs.Common.{◌≡◌, ℕ, ◌<◌, ◌≤◌, Bool, true, false, cond, not, Some, None, ◌⊎◌, inl, inr, List, [], ◌∷◌, ◌++◌, refl, sym, ap, subst, ◌∙◌, arith}
use Rattle.std.specs.Prelude.{◌||◌, ◌&&◌, nat_eq, nat_le, nat_lt}
use Rattle.std.specs.List.{list_all, list_any}
use Rattle.std.specs.Ordering.{is_lt, ordering_then}
use Rattle.std.specs.declared.cmp.Ordering.TheVariants.{Less, Equal, Greater}
use Rattle.std.proofs.lemmas.Bool.{false≢true, false_from_ne_true, and_from, and_parts, both_ways, cases_Bool, cases_lt, eq-eqb, eqb-true, le-leb, leb-true, lt-ltb, ltb-true, not-true, or_cases, or_left, or_right}
use Rattle.std.proofs.lemmas.List.Folds.{list_any-append}
use Rattle.lrs_measure.specs.Lists.{In, each_two}
use Rattle.lrs_measure.specs.Texts.{Name, name_before, name_cmp}
use Rattle.lrs_measure.proofs.EachTwo.{joined}
use Rattle.lrs_measure.proofs.Members.{In-append_cases, In-append_left, In-append_right}
use Rattle.lrs_events.specs.declared.side.LinkSide.{LinkSide}
use Rattle.lrs_events.specs.declared.side.LinkSide.TheVariants.{Left, Right}
use Rattle.lrs_events.specs.declared.side.Side.{Side}
use Rattle.lrs_events.specs.declared.side.Side.TheVariants.{L, R, B}
use Rattle.lrs_events.specs.Canonical.{side_of}
use Rattle.lrs_events.specs.Members.{has_side}
use Rattle.lrs_events.specs.Places.{Place}
use Rattle.lrs_events.specs.Spans.{same_side}
use Rattle.lrs_events.proofs.Row.Rows.{NameCases, before, behind, name_cases, name_trans, same, sides_same}
use Rattle.lrs_events.proofs.Row.Unique.{less_one}
use Rattle.lrs_difference.specs.declared.link_stretches.HeldStretch.{HeldStretch}
use Rattle.lrs_difference.specs.declared.sweep.Edge.{Edge}
use Rattle.lrs_difference.specs.Held.{holds_place}
use Rattle.lrs_difference.specs.Sweep.{AreUpTo, IsStill, LastIsGrown, NoneIsAdded, OneIsAdded, at_edge, edge_key, end_key, goes_on, grown, lie_apart, on_one_line, place_key, row_between, start_key, starts_before}

-- ---- the order of three numbers

pub data Before (a l m b k n : ℕ) : Type 0 where
  by_asset : a < b → Before a l m b k n
  by_link : a ≡ b → l < k → Before a l m b k n
  by_mm : a ≡ b → l ≡ k → m < n → Before a l m b k n

first_decides : (a b : ℕ) (xs ys : List ℕ) → name_before (a ∷ xs) (b ∷ ys) ≡ (nat_lt a b || (nat_eq a b && name_before xs ys))
first_decides a b xs ys = by (nat_lt a b) (nat_eq a b)
  where
    by : (c d : Bool) → is_lt (ordering_then (cond c Less (cond d Equal Greater)) (name_cmp xs ys)) ≡ (c || (d && name_before xs ys))
    by true d = refl
    by false true = refl
    by false false = refl

pub before_from : (a l m b k n : ℕ) → name_before (a ∷ l ∷ m ∷ []) (b ∷ k ∷ n ∷ []) ≡ true → Before a l m b k n
before_from a l m b k n h = one (or_cases (nat_lt a b) (nat_eq a b && name_before (l ∷ m ∷ []) (k ∷ n ∷ [])) (sym (first_decides a b (l ∷ m ∷ []) (k ∷ n ∷ [])) ∙ h))
  where
    three : a ≡ b → l ≡ k → (nat_lt m n ≡ true) ⊎ ((nat_eq m n && name_before [] []) ≡ true) → Before a l m b k n
    three e f (inl lt) = by_mm e f (ltb-true m n lt)
    three e f (inr g) = absurd (false≢true (and_parts (nat_eq m n) (name_before [] []) g).1)

    two : a ≡ b → (nat_lt l k ≡ true) ⊎ ((nat_eq l k && name_before (m ∷ []) (n ∷ [])) ≡ true) → Before a l m b k n
    two e (inl lt) = by_link e (ltb-true l k lt)
    two e (inr g) = let p = and_parts (nat_eq l k) (name_before (m ∷ []) (n ∷ [])) g in three e (eqb-true l k p.0) (or_cases (nat_lt m n) (nat_eq m n && name_before [] []) (sym (first_decides m n [] []) ∙ p.1))

    one : (nat_lt a b ≡ true) ⊎ ((nat_eq a b && name_before (l ∷ m ∷ []) (k ∷ n ∷ [])) ≡ true) → Before a l m b k n
    one (inl lt) = by_asset (ltb-true a b lt)
    one (inr g) = let p = and_parts (nat_eq a b) (name_before (l ∷ m ∷ []) (k ∷ n ∷ [])) g in two (eqb-true a b p.0) (or_cases (nat_lt l k) (nat_eq l k && name_before (m ∷ []) (n ∷ [])) (sym (first_decides l k (m ∷ []) (n ∷ [])) ∙ p.1))

pub before_is : (a l m b k n : ℕ) → Before a l m b k n → name_before (a ∷ l ∷ m ∷ []) (b ∷ k ∷ n ∷ []) ≡ true
before_is a l m b k n (by_asset h) = first_decides a b (l ∷ m ∷ []) (k ∷ n ∷ []) ∙ or_left _ _ (lt-ltb a b h)
before_is a l m b k n (by_link e h) =
    first_decides a b (l ∷ m ∷ []) (k ∷ n ∷ []) ∙ or_right (nat_lt a b) _ (and_from (nat_eq a b) _ (eq-eqb a b e) (first_decides l k (m ∷ []) (n ∷ []) ∙ or_left _ _ (lt-ltb l k h)))
before_is a l m b k n (by_mm e f h) =
    first_decides a b (l ∷ m ∷ []) (k ∷ n ∷ [])
    ∙ or_right (nat_lt a b) _ (and_from (nat_eq a b) _ (eq-eqb a b e)
    (first_decides l k (m ∷ []) (n ∷ []) ∙ or_right (nat_lt l k) _ (and_from (nat_eq l k) _ (eq-eqb l k f) (first_decides m n [] [] ∙ or_left _ _ (lt-ltb m n h)))))

-- behind what is not before another is not before it
pub not_later : (x y z : Name) → name_before x z ≡ false → name_before x y ≡ true → name_before y z ≡ false
not_later x y z h k = false_from_ne_true (name_before y z) (λ e. both_ways (name_before x z) h (name_trans x y z k e))

-- what is before one that does not end behind a key is before the key
pub before_end : (x y z : Name) → name_before x y ≡ true → name_before z y ≡ false → name_before x z ≡ true
before_end x y z h k = by (name_cases x z)
  where
    by : NameCases x z → name_before x z ≡ true
    by (before e) = e
    by (same e) = absurd (both_ways (name_before z y) k (subst (λ (w : Name). name_before w y ≡ true) e h))
    by (behind e) = absurd (both_ways (name_before z y) k (name_trans z x y e h))

pub both_imply : (b c : Bool) → (b ≡ true → c ≡ true) → (c ≡ true → b ≡ true) → b ≡ c
both_imply true c h k = sym (h refl)
both_imply false true h k = absurd (false≢true (k refl))
both_imply false false h k = refl

pub not_from : (b : Bool) → b ≡ false → not b ≡ true
not_from true h = sym h
not_from false h = refl

-- the places of a line from the one place up to the other are between their keys
pub within : (a l f t : ℕ) (asset : ℕ) (p : Place)
    → (nat_eq a asset && nat_eq l p.link && (nat_le f p.mm && nat_lt p.mm t)) ≡ (not (name_before (place_key asset p) (a ∷ l ∷ f ∷ [])) && name_before (place_key asset p) (a ∷ l ∷ t ∷ []))
within a l f t asset p = both_imply _ _ there back
  where
    at_start : Bool
    at_start = name_before (place_key asset p) (a ∷ l ∷ f ∷ [])

    at_end : Bool
    at_end = name_before (place_key asset p) (a ∷ l ∷ t ∷ [])

    low_no : (a ≡ asset) → (l ≡ p.link) → f ≤ p.mm → Before asset p.link p.mm a l f → ⊥
    low_no e g low (by_asset h) = omega (arith, e, h)
    low_no e g low (by_link i h) = omega (arith, g, h)
    low_no e g low (by_mm i j h) = omega (arith, low, h)

    there : (nat_eq a asset && nat_eq l p.link && (nat_le f p.mm && nat_lt p.mm t)) ≡ true → (not at_start && at_end) ≡ true
    there h =
        let one = and_parts (nat_eq a asset && nat_eq l p.link) (nat_le f p.mm && nat_lt p.mm t) h in
        let line = and_parts (nat_eq a asset) (nat_eq l p.link) one.0 in
        let mm = and_parts (nat_le f p.mm) (nat_lt p.mm t) one.1 in
        let e = eqb-true a asset line.0 in
        let g = eqb-true l p.link line.1 in
        and_from (not at_start) at_end
        (not_from at_start (false_from_ne_true at_start (λ k. low_no e g (leb-true f p.mm mm.0) (before_from asset p.link p.mm a l f k))))
        (before_is asset p.link p.mm a l t (by_mm (sym e) (sym g) (ltb-true p.mm t mm.1)))

    line_of : at_start ≡ false → Before asset p.link p.mm a l t → (nat_eq a asset && nat_eq l p.link && (nat_le f p.mm && nat_lt p.mm t)) ≡ true
    line_of n (by_asset h) = absurd (both_ways at_start n (before_is asset p.link p.mm a l f (by_asset h)))
    line_of n (by_link e h) = absurd (both_ways at_start n (before_is asset p.link p.mm a l f (by_link e h)))
    line_of n (by_mm e g h) = low (cases_lt p.mm f)
      where
        low : (p.mm < f) ⊎ (f ≤ p.mm) → (nat_eq a asset && nat_eq l p.link && (nat_le f p.mm && nat_lt p.mm t)) ≡ true
        low (inl k) = absurd (both_ways at_start n (before_is asset p.link p.mm a l f (by_mm e g k)))
        low (inr k) = and_from _ _ (and_from _ _ (eq-eqb a asset (sym e)) (eq-eqb l p.link (sym g))) (and_from _ _ (le-leb f p.mm k) (lt-ltb p.mm t h))

    back : (not at_start && at_end) ≡ true → (nat_eq a asset && nat_eq l p.link && (nat_le f p.mm && nat_lt p.mm t)) ≡ true
    back h = let both = and_parts (not at_start) at_end h in line_of (not-true at_start both.0) (before_from asset p.link p.mm a l t both.1)

regrouped : (n k b c : Bool) → (n && ((k && b) && c)) ≡ (((n && k) && b) && c)
regrouped true true b c = refl
regrouped true false b c = refl
regrouped false k b c = refl

-- what a stretch holds, by keys
pub held_by_keys : (r : HeldStretch) (asset : ℕ) (p : Place)
    → holds_place asset p r ≡ ((not (name_before (place_key asset p) (start_key r)) && name_before (place_key asset p) (end_key r)) && has_side r.stretch.side p.side)
held_by_keys r asset p =
    regrouped (nat_eq r.asset asset) (nat_eq r.stretch.link p.link) (nat_le r.stretch.from p.mm && nat_lt p.mm r.stretch.to) (has_side r.stretch.side p.side)
    ∙ ap (λ b. b && has_side r.stretch.side p.side) (within r.asset r.stretch.link r.stretch.from r.stretch.to asset p)

-- ---- Bool

shape_none : (o b c : Bool) → (b ≡ true → c ≡ true) → (b ≡ false → c ≡ true → o ≡ false) → (o && b) ≡ (o && c)
shape_none true true c h k = sym (h refl)
shape_none true false true h k = sym (k refl refl)
shape_none true false false h k = refl
shape_none false b c h k = refl

shape_one : (o s b c : Bool) → (b ≡ true → c ≡ true) → (b ≡ false → c ≡ true → o ≡ s) → ((o && b) || (((not b && c) && s) || false)) ≡ (o && c)
shape_one true s true c h k = sym (h refl)
shape_one false s true c h k = refl
shape_one true true false true h k = refl
shape_one true false false true h k = sym (k refl refl)
shape_one true s false false h k = refl
shape_one false true false true h k = sym (k refl refl)
shape_one false false false true h k = refl
shape_one false s false false h k = refl

or_first : (a b : Bool) → (a || b) ≡ false → a ≡ false
or_first true b h = h
or_first false b h = refl

shape_grown : (f o s a b c : Bool) → (f || (((not a && b) && s) || false)) ≡ (o && b) → (a ≡ true → b ≡ true) → (b ≡ true → c ≡ true) → (b ≡ false → c ≡ true → o ≡ s) → (f || (((not a && c) && s) || false)) ≡ (o && c)
shape_grown f o s a true true e h k l = e
shape_grown f o s a true false e h k l = absurd (false≢true (k refl))
shape_grown f o s true false c e h k l = absurd (false≢true (h refl))
shape_grown f o s false false c e h k l = last c (or_first f false (e ∙ no_more o)) l
  where
    no_more : (q : Bool) → (q && false) ≡ false
    no_more true = refl
    no_more false = refl

    kept : (q : Bool) → (q || false) ≡ (q && true)
    kept true = refl
    kept false = refl

    last : (d : Bool) → f ≡ false → (false ≡ false → d ≡ true → o ≡ s) → (f || (((true && d) && s) || false)) ≡ (o && d)
    last true n m = (λ i. n i || (s || false)) ∙ kept s ∙ ap (λ q. q && true) (sym (m refl refl))
    last false n m = (λ i. n i || false) ∙ sym (no_more o)

some_one : {A : Type 0} → (x y : A) → Some x ≡ Some y → x ≡ y
some_one x y h = cc

-- ---- sides

side_is : (l r : Bool) (side : Side) → side_of l r ≡ Some side → (l ≡ has_side side Left) × (r ≡ has_side side Right)
side_is true true side h = let e = some_one B side h in (ap (λ x. has_side x Left) e, ap (λ x. has_side x Right) e)
side_is true false side h = let e = some_one L side h in (ap (λ x. has_side x Left) e, ap (λ x. has_side x Right) e)
side_is false true side h = let e = some_one R side h in (ap (λ x. has_side x Left) e, ap (λ x. has_side x Right) e)
side_is false false side h = absurd (cc h)

no_side : (l r : Bool) → side_of l r ≡ None → (l ≡ false) × (r ≡ false)
no_side true true h = absurd (cc h)
no_side true false h = absurd (cc h)
no_side false true h = absurd (cc h)
no_side false false h = (refl, refl)

a_side : (l r : Bool) (side : Side) → side_of l r ≡ Some side → (l ≡ true) ⊎ (r ≡ true)
a_side true r side h = inl refl
a_side false true side h = inr refl
a_side false false side h = absurd (cc h)

module _ (held : ℕ → Place → Bool) (low high : Edge) (still : IsStill held low high) where
  at_low : LinkSide → Bool
  at_low side = held low.asset (at_edge low side)

  -- what was before the one edge is before the other
  farther : (asset : ℕ) (p : Place) → name_before (place_key asset p) (edge_key low) ≡ true → name_before (place_key asset p) (edge_key high) ≡ true
  farther asset p h = name_trans (place_key asset p) (edge_key low) (edge_key high) h still.rises

  module _ (rows : List HeldStretch) (h : AreUpTo held (edge_key low) rows) where
    still_ended : (r : HeldStretch) → In r rows → name_before (edge_key high) (end_key r) ≡ false
    still_ended r m = not_later (edge_key low) (edge_key high) (end_key r) (h.ended r m) still.rises

    none_more : side_of (held low.asset (at_edge low Left)) (held low.asset (at_edge low Right)) ≡ None → AreUpTo held (edge_key high) rows
    none_more none = record {
      filled = h.filled;
      ended = still_ended;
      order = h.order;
      apart = h.apart;
      places = λ asset p.
          h.places asset p
          ∙ shape_none (held asset p) (name_before (place_key asset p) (edge_key low)) (name_before (place_key asset p) (edge_key high)) (farther asset p)
          (λ b c. still.still asset p b c ∙ by p.side);
    }
      where
        by : (side : LinkSide) → held low.asset (at_edge low side) ≡ false
        by Left = (no_side _ _ none).0
        by Right = (no_side _ _ none).1

  module _ (side : Side) (some : side_of (held low.asset (at_edge low Left)) (held low.asset (at_edge low Right)) ≡ Some side) where
    abbrev row : HeldStretch
    row = row_between low high side

    sided : (s : LinkSide) → held low.asset (at_edge low s) ≡ has_side side s
    sided Left = (side_is _ _ side some).0
    sided Right = (side_is _ _ side some).1

    line : (low.asset ≡ high.asset) × (low.link ≡ high.link)
    line = by (a_side (held low.asset (at_edge low Left)) (held low.asset (at_edge low Right)) side some)
      where
        by : (held low.asset (at_edge low Left) ≡ true) ⊎ (held low.asset (at_edge low Right) ≡ true) → (low.asset ≡ high.asset) × (low.link ≡ high.link)
        by (inl e) = still.line Left e
        by (inr e) = still.line Right e

    end_is : end_key row ≡ edge_key high
    end_is = λ i. line.0 i ∷ line.1 i ∷ high.mm ∷ []

    pub rises : low.mm < high.mm
    rises = by (before_from low.asset low.link low.mm high.asset high.link high.mm still.rises)
      where
        by : Before low.asset low.link low.mm high.asset high.link high.mm → low.mm < high.mm
        by (by_asset l) = let e = line.0 in absurd (omega (arith, l, e))
        by (by_link e l) = let f = line.1 in absurd (omega (arith, l, f))
        by (by_mm e f l) = l

    same_in : (asset : ℕ) (p : Place) → name_before (place_key asset p) (edge_key low) ≡ false → name_before (place_key asset p) (edge_key high) ≡ true → held asset p ≡ has_side side p.side
    same_in asset p b c = still.still asset p b c ∙ sided p.side

    ends_there : (r : HeldStretch) → end_key r ≡ edge_key high → name_before (edge_key high) (end_key r) ≡ false
    ends_there r e = false_from_ne_true (name_before (edge_key high) (end_key r)) (λ k. less_one (edge_key high) (end_key r) k (sym e))

    -- a row that does not end behind the edge
    behind_row : (r : HeldStretch) → r.stretch.from < r.stretch.to → name_before (edge_key low) (end_key r) ≡ false → starts_before r row ≡ true
    behind_row r filled ended = before_end (start_key r) (end_key r) (edge_key low) (before_is r.asset r.stretch.link r.stretch.from r.asset r.stretch.link r.stretch.to (by_mm refl refl filled)) ended

    apart_row : (r : HeldStretch) → name_before (edge_key low) (end_key r) ≡ false → goes_on r row ≡ false → lie_apart r row ≡ true
    apart_row r ended off = by (cases_Bool (on_one_line r row))
      where
        touching : on_one_line r row ≡ true → (r.stretch.to < low.mm) ⊎ (low.mm ≤ r.stretch.to) → lie_apart r row ≡ true
        touching on (inl l) = or_left _ _ (or_right (not (on_one_line r row)) _ (lt-ltb r.stretch.to low.mm l))
        touching on (inr l) = at (cases_lt low.mm r.stretch.to)
          where
            e : (r.asset ≡ low.asset) × (r.stretch.link ≡ low.link)
            e = let b = and_parts (nat_eq r.asset low.asset) (nat_eq r.stretch.link low.link) on in (eqb-true r.asset low.asset b.0, eqb-true r.stretch.link low.link b.1)

            at : (low.mm < r.stretch.to) ⊎ (r.stretch.to ≤ low.mm) → lie_apart r row ≡ true
            at (inl k) = absurd (both_ways (name_before (edge_key low) (end_key r)) ended (before_is low.asset low.link low.mm r.asset r.stretch.link r.stretch.to (by_mm (sym e.0) (sym e.1) k)))
            at (inr k) =
                let t = eq-eqb r.stretch.to low.mm (omega (arith, l, k)) in
                or_right (not (on_one_line r row) || nat_lt r.stretch.to low.mm) _
                (and_from (nat_eq r.stretch.to low.mm) (not (same_side r.stretch.side side)) t
                (not_from (same_side r.stretch.side side) (false_from_ne_true (same_side r.stretch.side side) (λ s. both_ways (goes_on r row) off (and_from _ _ (and_from _ _ on t) s)))))

        by : (on_one_line r row ≡ true) ⊎ (on_one_line r row ≡ false) → lie_apart r row ≡ true
        by (inl on) = touching on (cases_lt r.stretch.to low.mm)
        by (inr off_line) = or_left _ _ (or_left _ _ (not_from (on_one_line r row) off_line))

    one_more : (rows : List HeldStretch) → AreUpTo held (edge_key low) rows → ((r : HeldStretch) → In r rows → goes_on r row ≡ false) → AreUpTo held (edge_key high) (rows ++ row ∷ [])
    one_more rows h off = record {
      filled = λ r m. filled_by r (In-append_cases r rows (row ∷ []) m);
      ended = λ r m. ended_by r (In-append_cases r rows (row ∷ []) m);
      order = joined starts_before rows (row ∷ []) h.order refl (λ r x m n. across starts_before (λ q k. behind_row q (h.filled q k) (h.ended q k)) r x m n);
      apart = joined lie_apart rows (row ∷ []) h.apart refl (λ r x m n. across lie_apart (λ q k. apart_row q (h.ended q k) (off q k)) r x m n);
      places = λ asset p.
          list_any-append (holds_place asset p) rows (row ∷ [])
          ∙ (λ i. h.places asset p i || (held_by_keys row asset p i || false))
          ∙ ap (λ (key : Name). (held asset p && name_before (place_key asset p) (edge_key low)) || (((not (name_before (place_key asset p) (edge_key low)) && name_before (place_key asset p) key) && has_side side p.side) || false)) end_is
          ∙ shape_one (held asset p) (has_side side p.side) (name_before (place_key asset p) (edge_key low)) (name_before (place_key asset p) (edge_key high)) (farther asset p) (same_in asset p);
    }
      where
        filled_by : (r : HeldStretch) → In r rows ⊎ In r (row ∷ []) → r.stretch.from < r.stretch.to
        filled_by r (inl m) = h.filled r m
        filled_by r (inr (inl e)) = subst (λ (q : HeldStretch). q.stretch.from < q.stretch.to) (sym e) rises
        filled_by r (inr (inr n)) = absurd n

        ended_by : (r : HeldStretch) → In r rows ⊎ In r (row ∷ []) → name_before (edge_key high) (end_key r) ≡ false
        ended_by r (inl m) = still_ended rows h r m
        ended_by r (inr (inl e)) = ends_there r (ap end_key e ∙ end_is)
        ended_by r (inr (inr n)) = absurd n

        across : (test : HeldStretch → HeldStretch → Bool) → ((q : HeldStretch) → In q rows → test q row ≡ true) → (r x : HeldStretch) → In r rows → In x (row ∷ []) → test r x ≡ true
        across test all r x m (inl e) = ap (test r) e ∙ all r m
        across test all r x m (inr n) = absurd n

    -- tests that read of the last only what it keeps
    relast : (test : HeldStretch → HeldStretch → Bool) (rows : List HeldStretch) (x y : HeldStretch) → ((r : HeldStretch) → test r x ≡ test r y) → each_two test (rows ++ x ∷ []) ≡ each_two test (rows ++ y ∷ [])
    relast test [] x y h = refl
    relast test (r ∷ rs) x y h = (λ i. all_same rs i && relast test rs x y h i)
      where
        all_same : (zs : List HeldStretch) → list_all (test r) (zs ++ x ∷ []) ≡ list_all (test r) (zs ++ y ∷ [])
        all_same [] = ap (λ b. b && true) (h r)
        all_same (z ∷ zs) = ap (λ b. test r z && b) (all_same zs)

    last_more : (rows : List HeldStretch) (last : HeldStretch) → AreUpTo held (edge_key low) (rows ++ last ∷ []) → goes_on last row ≡ true → AreUpTo held (edge_key high) (rows ++ grown last high ∷ [])
    last_more rows last h on = record {
      filled = λ r m. filled_by r (In-append_cases r rows (new ∷ []) m);
      ended = λ r m. ended_by r (In-append_cases r rows (new ∷ []) m);
      order = relast starts_before rows new last (λ r. refl) ∙ h.order;
      apart = relast lie_apart rows new last (λ r. refl) ∙ h.apart;
      places = places;
    }
      where
        new : HeldStretch
        new = grown last high

        there : In last (rows ++ last ∷ [])
        there = In-append_right last rows (last ∷ []) (inl refl)

        touch : (on_one_line last row && nat_eq last.stretch.to low.mm ≡ true) × (same_side last.stretch.side side ≡ true)
        touch = and_parts _ _ on

        meets : (on_one_line last row ≡ true) × (nat_eq last.stretch.to low.mm ≡ true)
        meets = and_parts _ _ touch.0

        numbers : (nat_eq last.asset low.asset ≡ true) × (nat_eq last.stretch.link low.link ≡ true)
        numbers = and_parts _ _ meets.0

        asset_is : last.asset ≡ low.asset
        asset_is = eqb-true last.asset low.asset numbers.0

        link_is : last.stretch.link ≡ low.link
        link_is = eqb-true last.stretch.link low.link numbers.1

        to_is : last.stretch.to ≡ low.mm
        to_is = eqb-true last.stretch.to low.mm meets.1

        side_same : last.stretch.side ≡ side
        side_same = sides_same last.stretch.side side touch.1

        old_end : end_key last ≡ edge_key low
        old_end = λ i. asset_is i ∷ link_is i ∷ to_is i ∷ []

        new_end : end_key new ≡ edge_key high
        new_end = λ i. (asset_is ∙ line.0) i ∷ (link_is ∙ line.1) i ∷ high.mm ∷ []

        filled_by : (r : HeldStretch) → In r rows ⊎ In r (new ∷ []) → r.stretch.from < r.stretch.to
        filled_by r (inl m) = h.filled r (In-append_left r rows (last ∷ []) m)
        filled_by r (inr (inl e)) =
            let f = h.filled last there in
            let t = to_is in
            let u = rises in
            subst (λ (q : HeldStretch). q.stretch.from < q.stretch.to) (sym e) (omega (arith, f, t, u))
        filled_by r (inr (inr n)) = absurd n

        ended_by : (r : HeldStretch) → In r rows ⊎ In r (new ∷ []) → name_before (edge_key high) (end_key r) ≡ false
        ended_by r (inl m) = still_ended (rows ++ last ∷ []) h r (In-append_left r rows (last ∷ []) m)
        ended_by r (inr (inl e)) = ends_there r (ap end_key e ∙ new_end)
        ended_by r (inr (inr n)) = absurd n

        begins : name_before (start_key last) (edge_key low) ≡ true
        begins = subst (λ (key : Name). name_before (start_key last) key ≡ true) old_end (before_is last.asset last.stretch.link last.stretch.from last.asset last.stretch.link last.stretch.to (by_mm refl refl (h.filled last there)))

        places : (asset : ℕ) (p : Place) → list_any (holds_place asset p) (rows ++ new ∷ []) ≡ (held asset p && name_before (place_key asset p) (edge_key high))
        places asset p =
            let a = name_before (place_key asset p) (start_key last) in
            let f = list_any (holds_place asset p) rows in
            let of : Name → Side → Bool = λ key s. f || (((not a && name_before (place_key asset p) key) && has_side s p.side) || false) in
            let was : of (edge_key low) side ≡ (held asset p && name_before (place_key asset p) (edge_key low)) =
            sym (λ i. of (old_end i) (side_same i)) ∙ ap (λ b. f || (b || false)) (sym (held_by_keys last asset p)) ∙ sym (list_any-append (holds_place asset p) rows (last ∷ [])) ∙ h.places asset p in
            list_any-append (holds_place asset p) rows (new ∷ [])
            ∙ ap (λ b. f || (b || false)) (held_by_keys new asset p)
            ∙ (λ i. of (new_end i) (side_same i))
            ∙ shape_grown f (held asset p) (has_side side p.side) a (name_before (place_key asset p) (edge_key low)) (name_before (place_key asset p) (edge_key high)) was
            (λ e. name_trans (place_key asset p) (start_key last) (edge_key low) e begins) (farther asset p) (same_in asset p)

pub none_added : NoneIsAdded
none_added held low high rows h still none = none_more held low high still rows h none

pub one_added : OneIsAdded
one_added held low high rows side h still some off = one_more held low high still side some rows h off

pub last_grown : LastIsGrown
last_grown held low high rows last side h still some on = last_more held low high still side some rows last h on
