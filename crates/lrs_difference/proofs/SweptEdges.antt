-- Rows that are gathered over all edges.
use Rattle.std.proofs.Common.{◌≡◌, ℕ, ◌<◌, ◌≤◌, Bool, true, false, cond, not, Option, Some, None, ◌⊎◌, inl, inr, List, [], ◌∷◌, ◌++◌, refl, sym, ap, subst, ◌∙◌, arith, append_assoc}
use Rattle.std.specs.Prelude.{◌||◌, ◌&&◌, nat_eq, nat_lt}
use Rattle.std.specs.List.{list_all, list_any}
use Rattle.std.proofs.lemmas.Bool.{false_from_ne_true, and_from, and_parts, both_ways, eq-eqb, eqb-true, ltb-true, not-true, or_cases}
use Rattle.lrs_measure.specs.Lists.{In, each_two}
use Rattle.lrs_measure.specs.Texts.{Name, name_before}
use Rattle.lrs_measure.proofs.Members.{all_at, any_found, In-append_right}
use Rattle.lrs_events.specs.declared.side.LinkSide.{LinkSide}
use Rattle.lrs_events.specs.declared.side.Side.{Side}
use Rattle.lrs_events.specs.Members.{has_side}
use Rattle.lrs_events.specs.Places.{Place}
use Rattle.lrs_events.specs.Spans.{same_side}
use Rattle.lrs_events.proofs.Row.Rows.{NameCases, before, behind, name_cases, name_trans, same}
use Rattle.lrs_events.proofs.Row.Unique.{less_one}
use Rattle.lrs_difference.specs.declared.link_stretches.HeldStretch.{HeldStretch}
use Rattle.lrs_difference.specs.declared.sweep.Edge.{Edge}
use Rattle.lrs_difference.specs.Held.{holds_place}
use Rattle.lrs_difference.specs.Sweep.{AreEdged, AreUpTo, IsEdged, IsStill, RowsBegin, RowsEnd, RowsGoOn, alone, at_edge, edge_key, end_key, first_edge, goes_on, grown, lie_apart, not_behind, on_one_line, place_key, row_between, side_alone, start_key, starts_before, with_row, with_side}
use Rattle.lrs_difference.proofs.Swept.{Before, before_end, before_from, before_is, both_imply, by_asset, by_link, by_mm, held_by_keys, last_grown, none_added, not_from, not_later, one_added, within}

-- ---- the numbers of a key

abbrev head_or : List ℕ → ℕ
head_or [] = 0
head_or (x ∷ xs) = x

abbrev tail_of : List ℕ → List ℕ
tail_of [] = []
tail_of (x ∷ xs) = xs

-- ---- from an edge to the next

-- no key of these stands strictly between the edges
abbrev NoneBetween : Edge → Edge → Name → Type 0
NoneBetween low high k = name_before (edge_key low) k ≡ true → name_before k (edge_key high) ≡ false

-- a key from the one edge on and before the other is as the first edge is to one that is not between
as_low : (low high : Edge) (key k : Name) → name_before key (edge_key low) ≡ false → name_before key (edge_key high) ≡ true → NoneBetween low high k → name_before key k ≡ name_before (edge_key low) k
as_low low high key k from to free = both_imply _ _ there back
  where
    there : name_before key k ≡ true → name_before (edge_key low) k ≡ true
    there h = by (name_cases (edge_key low) key)
      where
        by : NameCases (edge_key low) key → name_before (edge_key low) k ≡ true
        by (before e) = name_trans (edge_key low) key k e h
        by (same e) = subst (λ (z : Name). name_before z k ≡ true) (sym e) h
        by (behind e) = absurd (both_ways (name_before key (edge_key low)) from e)

    back : name_before (edge_key low) k ≡ true → name_before key k ≡ true
    back h = before_end key (edge_key high) k to (free h)

pub record AreFree (low high : Edge) (held : List HeldStretch) : Type 0 where
  pub starts : (h : HeldStretch) → In h held → NoneBetween low high (start_key h)
  pub ends : (h : HeldStretch) → In h held → NoneBetween low high (end_key h)

module _ (low high : Edge) (rises : name_before (edge_key low) (edge_key high) ≡ true) where
  same_held : (held : List HeldStretch) → AreFree low high held → (asset : ℕ) (p : Place) → name_before (place_key asset p) (edge_key low) ≡ false → name_before (place_key asset p) (edge_key high) ≡ true
      → list_any (holds_place asset p) held ≡ list_any (holds_place low.asset (at_edge low p.side)) held
  same_held [] free asset p from to = refl
  same_held (h ∷ hs) free asset p from to = (λ i. one i || same_held hs (record { starts = λ k m. free.starts k (inr m); ends = λ k m. free.ends k (inr m) }) asset p from to i)
    where
      start : name_before (place_key asset p) (start_key h) ≡ name_before (edge_key low) (start_key h)
      start = as_low low high (place_key asset p) (start_key h) from to (free.starts h (inl refl))

      end : name_before (place_key asset p) (end_key h) ≡ name_before (edge_key low) (end_key h)
      end = as_low low high (place_key asset p) (end_key h) from to (free.ends h (inl refl))

      one : holds_place asset p h ≡ holds_place low.asset (at_edge low p.side) h
      one = held_by_keys h asset p ∙ (λ i. (not (start i) && end i) && has_side h.stretch.side p.side) ∙ sym (held_by_keys h low.asset (at_edge low p.side))

  -- a stretch that holds a place of the first edge is of the line of both
  one_line : (h : HeldStretch) (side : LinkSide) → NoneBetween low high (end_key h) → holds_place low.asset (at_edge low side) h ≡ true → (low.asset ≡ high.asset) × (low.link ≡ high.link)
  one_line h side free holds = by (name_cases (edge_key high) (end_key h))
    where
      both : ((not (name_before (edge_key low) (start_key h)) && name_before (edge_key low) (end_key h)) ≡ true) × (has_side h.stretch.side side ≡ true)
      both = and_parts _ _ (sym (held_by_keys h low.asset (at_edge low side)) ∙ holds)

      keys : (not (name_before (edge_key low) (start_key h)) ≡ true) × (name_before (edge_key low) (end_key h) ≡ true)
      keys = and_parts _ _ both.0

      not_ended : name_before (end_key h) (edge_key high) ≡ false
      not_ended = free keys.1

      p : Place
      p = at_edge low side

      of_low : (h.asset ≡ low.asset) × (h.stretch.link ≡ low.link)
      of_low =
          let e = and_parts (nat_eq h.asset low.asset && nat_eq h.stretch.link low.link) _ (within h.asset h.stretch.link h.stretch.from h.stretch.to low.asset p ∙ both.0) in
          let f = and_parts (nat_eq h.asset low.asset) (nat_eq h.stretch.link low.link) e.0 in
          (eqb-true h.asset low.asset f.0, eqb-true h.stretch.link low.link f.1)

      q : Place
      q = at_edge high side

      begun : name_before (edge_key high) (start_key h) ≡ false
      begun = not_later (edge_key low) (edge_key high) (start_key h) (not-true _ keys.0) rises

      by : NameCases (edge_key high) (end_key h) → (low.asset ≡ high.asset) × (low.link ≡ high.link)
      by (before k) =
          let e = and_parts (nat_eq h.asset high.asset && nat_eq h.stretch.link high.link) _ (within h.asset h.stretch.link h.stretch.from h.stretch.to high.asset q ∙ and_from _ _ (not_from _ begun) k) in
          let f = and_parts (nat_eq h.asset high.asset) (nat_eq h.stretch.link high.link) e.0 in
          (sym of_low.0 ∙ eqb-true h.asset high.asset f.0, sym of_low.1 ∙ eqb-true h.stretch.link high.link f.1)
      by (same k) = (sym of_low.0 ∙ sym (ap head_or k), sym of_low.1 ∙ sym (ap (λ zs. head_or (tail_of zs)) k))
      by (behind k) = absurd (both_ways (name_before (end_key h) (edge_key high)) not_ended k)

  is_still : (left right : List HeldStretch) → AreFree low high left → AreFree low high right → IsStill (alone left right) low high
  is_still left right fl fr = record {
    rises = rises;
    still = λ asset p from to. (λ i. same_held left fl asset p from to i && not (same_held right fr asset p from to i));
    line = λ side h.
        (let on = and_parts (list_any (holds_place low.asset (at_edge low side)) left) (not (list_any (holds_place low.asset (at_edge low side)) right)) h in
        let k = any_found (holds_place low.asset (at_edge low side)) left on.0 in
        one_line k.0 side (fl.ends k.0 k.1) k.2);
  }

-- ---- the rows with one more

-- the last row does not go on
abbrev EndsOff : List HeldStretch → HeldStretch → Type 0
EndsOff rows row = (r : HeldStretch) → In r rows → goes_on r row ≡ false

-- of two of one line that lie apart the first ends before the second begins
parted : (r s : HeldStretch) → r.asset ≡ s.asset → r.stretch.link ≡ s.stretch.link → lie_apart r s ≡ true → r.stretch.to ≤ s.stretch.from
parted r s a l apart = by (or_cases (not (on_one_line r s) || nat_lt r.stretch.to s.stretch.from) (nat_eq r.stretch.to s.stretch.from && not (same_side r.stretch.side s.stretch.side)) apart)
  where
    one : (not (on_one_line r s) ≡ true) ⊎ (nat_lt r.stretch.to s.stretch.from ≡ true) → r.stretch.to ≤ s.stretch.from
    one (inl n) = absurd (both_ways (on_one_line r s) (not-true (on_one_line r s) n) (and_from (nat_eq r.asset s.asset) (nat_eq r.stretch.link s.stretch.link) (eq-eqb r.asset s.asset a) (eq-eqb r.stretch.link s.stretch.link l)))
    one (inr h) = let k = ltb-true r.stretch.to s.stretch.from h in omega (arith, k)

    by : ((not (on_one_line r s) || nat_lt r.stretch.to s.stretch.from) ≡ true) ⊎ ((nat_eq r.stretch.to s.stretch.from && not (same_side r.stretch.side s.stretch.side)) ≡ true) → r.stretch.to ≤ s.stretch.from
    by (inl h) = one (or_cases (not (on_one_line r s)) (nat_lt r.stretch.to s.stretch.from) h)
    by (inr h) = let e = eqb-true r.stretch.to s.stretch.from (and_parts (nat_eq r.stretch.to s.stretch.from) (not (same_side r.stretch.side s.stretch.side)) h).0 in omega (arith, e)

-- rows that another stands behind do not go on where it ends
early : (r s row : HeldStretch) → starts_before r s ≡ true → lie_apart r s ≡ true → s.stretch.from < s.stretch.to → name_before (start_key row) (end_key s) ≡ false → goes_on r row ≡ false
early r s row order apart filled ended = false_from_ne_true (goes_on r row) (λ on.
    let one = and_parts (on_one_line r row && nat_eq r.stretch.to row.stretch.from) _ on in
    let two = and_parts (on_one_line r row) (nat_eq r.stretch.to row.stretch.from) one.0 in
    let line = and_parts (nat_eq r.asset row.asset) (nat_eq r.stretch.link row.stretch.link) two.0 in
    let a = eqb-true r.asset row.asset line.0 in
    let l = eqb-true r.stretch.link row.stretch.link line.1 in
    let t = eqb-true r.stretch.to row.stretch.from two.1 in
    by a l t (before_from r.asset r.stretch.link r.stretch.from s.asset s.stretch.link s.stretch.from order))
  where
    past : r.asset ≡ row.asset → r.stretch.link ≡ row.stretch.link → Before row.asset row.stretch.link row.stretch.from s.asset s.stretch.link s.stretch.to → ⊥
    past a l k = both_ways (name_before (start_key row) (end_key s)) ended (before_is row.asset row.stretch.link row.stretch.from s.asset s.stretch.link s.stretch.to k)

    later : r.asset ≡ s.asset → r.stretch.link ≡ s.stretch.link → r.stretch.to ≤ s.stretch.from
    later a l = parted r s a l apart

    by : r.asset ≡ row.asset → r.stretch.link ≡ row.stretch.link → r.stretch.to ≡ row.stretch.from → Before r.asset r.stretch.link r.stretch.from s.asset s.stretch.link s.stretch.from → ⊥
    by a l t (by_asset h) = past a l (by_asset (omega (arith, h, a)))
    by a l t (by_link e h) = past a l (by_link (sym a ∙ e) (omega (arith, h, l)))
    by a l t (by_mm e f h) = let k = later e f in past a l (by_mm (sym a ∙ e) (sym l ∙ f) (omega (arith, k, t, filled)))

rows_off : (rows : List HeldStretch) (last row : HeldStretch) → each_two starts_before (rows ++ last ∷ []) ≡ true → each_two lie_apart (rows ++ last ∷ []) ≡ true
    → last.stretch.from < last.stretch.to → name_before (start_key row) (end_key last) ≡ false → goes_on last row ≡ false → EndsOff (rows ++ last ∷ []) row
rows_off [] last row order apart filled ended off r (inl e) = ap (λ (q : HeldStretch). goes_on q row) e ∙ off
rows_off [] last row order apart filled ended off r (inr m) = absurd m
rows_off (x ∷ xs) last row order apart filled ended off r m = by m (rows_off xs last row o.1 a.1 filled ended off r)
  where
    o : (list_all (starts_before x) (xs ++ last ∷ []) ≡ true) × (each_two starts_before (xs ++ last ∷ []) ≡ true)
    o = and_parts _ _ order

    a : (list_all (lie_apart x) (xs ++ last ∷ []) ≡ true) × (each_two lie_apart (xs ++ last ∷ []) ≡ true)
    a = and_parts _ _ apart

    at_last : In last (xs ++ last ∷ [])
    at_last = In-append_right last xs (last ∷ []) (inl refl)

    by : In r (x ∷ (xs ++ last ∷ [])) → (In r (xs ++ last ∷ []) → goes_on r row ≡ false) → goes_on r row ≡ false
    by (inl e) rest = ap (λ (q : HeldStretch). goes_on q row) e ∙ early x last row (all_at (starts_before x) last (xs ++ last ∷ []) o.0 at_last) (all_at (lie_apart x) last (xs ++ last ∷ []) a.0 at_last) filled ended
    by (inr n) rest = rest n

-- rows end with a last one, or there are none
data Ended (rows : List HeldStretch) : Type 0 where
  no_rows : rows ≡ [] → Ended rows
  last_row : (front : List HeldStretch) (last : HeldStretch) → rows ≡ front ++ last ∷ [] → Ended rows

ended_by : (rows : List HeldStretch) → Ended rows
ended_by [] = no_rows refl
ended_by (r ∷ rs) = by (ended_by rs)
  where
    by : Ended rs → Ended (r ∷ rs)
    by (no_rows e) = last_row [] r (ap (λ zs. r ∷ zs) e)
    by (last_row front last e) = last_row (r ∷ front) last (ap (λ zs. r ∷ zs) e)

pub with_last : (front : List HeldStretch) (last row : HeldStretch) (high : Edge) → with_row (front ++ last ∷ []) row high ≡ front ++ cond (goes_on last row) (grown last high ∷ []) (last ∷ row ∷ [])
with_last [] last row high = refl
with_last (x ∷ []) last row high = refl
with_last (x ∷ y ∷ zs) last row high = ap (λ ws. x ∷ ws) (with_last (y ∷ zs) last row high)

module _ (left right : List HeldStretch) (low high : Edge) (still : IsStill (alone left right) low high) (side : Side) (some : side_alone left right low ≡ Some side) where
  abbrev row : HeldStretch
  row = row_between low high side

  with_last_up : (front : List HeldStretch) (last : HeldStretch) → AreUpTo (alone left right) (edge_key low) (front ++ last ∷ []) → (b : Bool) → goes_on last row ≡ b
      → AreUpTo (alone left right) (edge_key high) (front ++ cond b (grown last high ∷ []) (last ∷ row ∷ []))
  with_last_up front last h true on = last_grown (alone left right) low high front last side h still some on
  with_last_up front last h false off =
      let there : In last (front ++ last ∷ []) = In-append_right last front (last ∷ []) (inl refl) in
      subst (λ (zs : List HeldStretch). AreUpTo (alone left right) (edge_key high) zs) (append_assoc front (last ∷ []) (row ∷ []))
      (one_added (alone left right) low high (front ++ last ∷ []) side h still some (rows_off front last row h.order h.apart (h.filled last there) (h.ended last there) off))

  with_row_up : (rows : List HeldStretch) → AreUpTo (alone left right) (edge_key low) rows → AreUpTo (alone left right) (edge_key high) (with_row rows row high)
  with_row_up rows h = by (ended_by rows)
    where
      by : Ended rows → AreUpTo (alone left right) (edge_key high) (with_row rows row high)
      by (no_rows e) =
          subst (λ (zs : List HeldStretch). AreUpTo (alone left right) (edge_key high) (with_row zs row high)) (sym e)
          (one_added (alone left right) low high [] side (subst (λ (zs : List HeldStretch). AreUpTo (alone left right) (edge_key low) zs) e h) still some (λ r m. absurd m))
      by (last_row front last e) =
          subst (λ (zs : List HeldStretch). AreUpTo (alone left right) (edge_key high) (with_row zs row high)) (sym e)
          (subst (λ (zs : List HeldStretch). AreUpTo (alone left right) (edge_key high) zs) (sym (with_last front last row high))
          (with_last_up front last (subst (λ (zs : List HeldStretch). AreUpTo (alone left right) (edge_key low) zs) e h) (goes_on last row) refl))

with_side_up : (left right : List HeldStretch) (low high : Edge) (rows : List HeldStretch) → AreUpTo (alone left right) (edge_key low) rows → IsStill (alone left right) low high → (o : Option Side) → side_alone left right low ≡ o
    → AreUpTo (alone left right) (edge_key high) (with_side rows low high o)
with_side_up left right low high rows h still None is = none_added (alone left right) low high rows h still is
with_side_up left right low high rows h still (Some side) is = with_row_up left right low high still side is rows h

-- ---- all edges

module _ (low high : Edge) (rest : List Edge) (order : each_two not_behind (high ∷ rest) ≡ true) where
  -- what stands behind the first edge does not stand before the next
  none_between : (k : Name) → IsEdged (edge_key low) (high ∷ rest) k → NoneBetween low high k
  none_between k edged h = by (edged h)
    where
      by : (e : Edge) × In e (high ∷ rest) × (edge_key e ≡ k) → name_before k (edge_key high) ≡ false
      by (e, inl is, key) = false_from_ne_true (name_before k (edge_key high)) (λ l. less_one k (edge_key high) l (sym key ∙ ap edge_key is))
      by (e, inr m, key) =
          let ahead = all_at (not_behind high) e rest (and_parts (list_all (not_behind high) rest) (each_two not_behind rest) order).0 m in
          ap (λ (z : Name). name_before z (edge_key high)) (sym key) ∙ not-true (name_before (edge_key e) (edge_key high)) ahead

  free : (held : List HeldStretch) → AreEdged (edge_key low) (high ∷ rest) held → AreFree low high held
  free held edged = record { starts = λ h m. none_between (start_key h) (edged.starts h m); ends = λ h m. none_between (end_key h) (edged.ends h m) }

  -- what stands behind the next edge is among the rest
  edged_on : (k : Name) → name_before (edge_key high) (edge_key low) ≡ false → IsEdged (edge_key low) (high ∷ rest) k → IsEdged (edge_key high) rest k
  edged_on k up edged h = by (edged (lower (name_cases (edge_key low) k)))
    where
      lower : NameCases (edge_key low) k → name_before (edge_key low) k ≡ true
      lower (before e) = e
      lower (same e) = absurd (both_ways (name_before (edge_key high) (edge_key low)) up (subst (λ (z : Name). name_before (edge_key high) z ≡ true) (sym e) h))
      lower (behind e) = absurd (both_ways (name_before (edge_key high) (edge_key low)) up (name_trans (edge_key high) k (edge_key low) h e))

      by : (e : Edge) × In e (high ∷ rest) × (edge_key e ≡ k) → (e : Edge) × In e rest × (edge_key e ≡ k)
      by (e, inl is, key) = absurd (less_one (edge_key high) k h (ap edge_key (sym is) ∙ key))
      by (e, inr m, key) = (e, m, key)

  all_on : (held : List HeldStretch) → name_before (edge_key high) (edge_key low) ≡ false → AreEdged (edge_key low) (high ∷ rest) held → AreEdged (edge_key high) rest held
  all_on held up edged = record { starts = λ h m. edged_on (start_key h) up (edged.starts h m); ends = λ h m. edged_on (end_key h) up (edged.ends h m) }

pub rows_go_on : RowsGoOn
rows_go_on left right low high rest rows g = record {
  up_to = by (name_before (edge_key low) (edge_key high)) refl;
  order = (and_parts (list_all (not_behind high) rest) (each_two not_behind rest) g.order).1;
  behind = λ e m. not-true _ (all_at (not_behind high) e rest (and_parts (list_all (not_behind high) rest) (each_two not_behind rest) g.order).0 m);
  left_edges = all_on low high rest g.order left up g.left_edges;
  right_edges = all_on low high rest g.order right up g.right_edges;
}
  where
    up : name_before (edge_key high) (edge_key low) ≡ false
    up = g.behind high (inl refl)

    one_key : name_before (edge_key low) (edge_key high) ≡ false → NameCases (edge_key low) (edge_key high) → edge_key low ≡ edge_key high
    one_key n (before e) = absurd (both_ways (name_before (edge_key low) (edge_key high)) n e)
    one_key n (same e) = e
    one_key n (behind e) = absurd (both_ways (name_before (edge_key high) (edge_key low)) up e)

    by : (b : Bool) → name_before (edge_key low) (edge_key high) ≡ b → AreUpTo (alone left right) (edge_key high) (cond b (with_side rows low high (side_alone left right low)) rows)
    by true h = with_side_up left right low high rows g.up_to (is_still low high h left right (free low high rest g.order left g.left_edges) (free low high rest g.order right g.right_edges)) (side_alone left right low) refl
    by false h = subst (λ (key : Name). AreUpTo (alone left right) key rows) (one_key h (name_cases (edge_key low) (edge_key high))) g.up_to

pub rows_begin : RowsBegin
rows_begin left right edges order le re = record {
  up_to = record {
    filled = λ r m. absurd m;
    ended = λ r m. absurd m;
    order = refl;
    apart = refl;
    places = λ asset p. sym (ap (λ b. alone left right asset p && b) (never (place_key asset p) (first asset p)) ∙ no_more (alone left right asset p));
  };
  order = order;
  behind = λ e m. never (edge_key e) (first_of e);
  left_edges = le;
  right_edges = re;
}
  where
    none : (a l m : ℕ) → Before a l m 0 0 0 → ⊥
    none a l m (by_asset h) = omega (arith, h)
    none a l m (by_link e h) = omega (arith, h)
    none a l m (by_mm e f h) = omega (arith, h)

    never : (key : Name) → (name_before key (edge_key first_edge) ≡ true → ⊥) → name_before key (edge_key first_edge) ≡ false
    never key h = false_from_ne_true (name_before key (edge_key first_edge)) h

    first : (asset : ℕ) (p : Place) → name_before (place_key asset p) (edge_key first_edge) ≡ true → ⊥
    first asset p h = none asset p.link p.mm (before_from asset p.link p.mm 0 0 0 h)

    first_of : (e : Edge) → name_before (edge_key e) (edge_key first_edge) ≡ true → ⊥
    first_of e h = none e.asset e.link e.mm (before_from e.asset e.link e.mm 0 0 0 h)

    no_more : (b : Bool) → (b && false) ≡ false
    no_more true = refl
    no_more false = refl

pub rows_end : RowsEnd
rows_end left right at rows g = record {
  filled = g.up_to.filled;
  order = g.up_to.order;
  apart = g.up_to.apart;
  places = λ asset p. g.up_to.places asset p ∙ kept (alone left right asset p) (name_before (place_key asset p) (edge_key at)) (λ h. passed asset p (and_parts (list_any (holds_place asset p) left) (not (list_any (holds_place asset p) right)) h).0);
}
  where
    kept : (b c : Bool) → (b ≡ true → c ≡ true) → (b && c) ≡ b
    kept true c h = h refl
    kept false c h = refl

    not_in : (k : Name) → IsEdged (edge_key at) [] k → name_before (edge_key at) k ≡ false
    not_in k edged = false_from_ne_true (name_before (edge_key at) k) (λ h. (edged h).1)

    passed : (asset : ℕ) (p : Place) → list_any (holds_place asset p) left ≡ true → name_before (place_key asset p) (edge_key at) ≡ true
    passed asset p h =
        let k = any_found (holds_place asset p) left h in
        let both = and_parts (not (name_before (place_key asset p) (start_key k.0)) && name_before (place_key asset p) (end_key k.0)) _ (sym (held_by_keys k.0 asset p) ∙ k.2) in
        let keys = and_parts (not (name_before (place_key asset p) (start_key k.0))) (name_before (place_key asset p) (end_key k.0)) both.0 in
        before_end (place_key asset p) (end_key k.0) (edge_key at) keys.1 (not_in (end_key k.0) (g.left_edges.ends k.0 k.1))
