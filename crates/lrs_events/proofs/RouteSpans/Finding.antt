-- What searches find of the rows of a route.
use Rattle.std.proofs.Common.{◌≡◌, ℕ, ◌+◌, ◌<◌, ◌≤◌, max, min, Bool, true, false, ◌⊎◌, inl, inr, zero, suc, List, [], ◌∷◌, ◌++◌, length, get_or, take, drop, refl, sym, ap, subst, ◌∙◌, arith, Option, Some, None}
use Rattle.std.specs.Prelude.{◌||◌, ◌&&◌, nat_lt, nat_eq, slice_range}
use Rattle.std.specs.List.{filter}
use Rattle.std.specs.Cmp.Lexicographic.{bytes_decides}
use Rattle.std.proofs.lemmas.Bool.{false≢true, both_ways, and_parts, and_from, cases_lt, ltb-true, lt-ltb, eq-eqb, eqb-true, false_from_ne_true}
use Rattle.std.proofs.lemmas.List.{append-nil, take_all, take_more}
use Rattle.std.proofs.lemmas.List.Elements.{filter-append}
use Rattle.std.proofs.lemmas.List.Folds.{list_any-append}
use Rattle.lrs_measure.specs.Lists.{In, each_two}
use Rattle.lrs_measure.specs.Texts.{Name, same_name}
use Rattle.lrs_measure.specs.Limits.{longest_route}
use Rattle.lrs_measure.proofs.Members.{any_found, any_of, In-take, In-drop}
use Rattle.lrs_measure.proofs.Places.{in_three}
use Rattle.lrs_measure.proofs.Filters.{filter_all, filter_none}
use Rattle.lrs_events.specs.declared.side.Side.{Side}
use Rattle.lrs_events.specs.declared.side.Side.TheVariants.{L, R, B}
use Rattle.lrs_events.specs.declared.side.LinkSide.{LinkSide}
use Rattle.lrs_events.specs.declared.side.LinkSide.TheVariants.{Left, Right}
use Rattle.lrs_events.specs.declared.span.Span.{Span}
use Rattle.lrs_events.specs.Changes.{has_row}
use Rattle.lrs_events.specs.Members.{has_side, is_member, has_member}
use Rattle.lrs_events.specs.Spans.{are_rows}
use Rattle.lrs_events.specs.Row.Members.{is_of}
use Rattle.lrs_events.specs.Row.Order.{IsLeft, IsStretch}
use Rattle.lrs_events.proofs.Row.Unique.{over, its_sides}
use Rattle.lrs_events.proofs.Row.Rows.{rows_from, left_place}
use Rattle.lrs_events.proofs.Row.Differing.{has_found, has_in}
use Rattle.lrs_events.specs.LaneLists.Order.{place_before}
use Rattle.lrs_events.specs.LaneLists.Lane.{is_met, IsLeast}
use Rattle.lrs_events.proofs.LaneLists.Lanes.{LeastOf, nothing, something, least_from}
use Rattle.lrs_events.specs.declared.spans.lanes.ClassLanes.{ClassLanes}
use Rattle.lrs_events.specs.RouteSpans.LanesOfRows.{is_on, has_lanes, AreKept, IsLaneOf}
use Rattle.lrs_events.specs.RouteSpans.Search.{IsPlaceOf, one_side, HoldsOver, lesser_of}
use Rattle.lrs_events.specs.RouteSpans.Search.{IsOver as IsLeastOver}

-- ---- the rows of an asset

module _ (rows : List Span) (s : Span) (h : are_rows rows ≡ true) (from : s.from ≡ 0) (to : s.to ≡ longest_route) where
  of_it : (r : Span) → is_of s.class s.asset r ≡ true → (r.class ≡ s.class) × (r.asset ≡ s.asset)
  of_it r e = let b = and_parts (same_name r.class s.class) (nat_eq r.asset s.asset) e in ((bytes_decides r.class s.class).0 b.0, eqb-true r.asset s.asset b.1)

  not_in_front : (r : Span) → In r rows → IsLeft r s → is_of s.class s.asset r ≡ true → ⊥
  not_in_front r m l e =
      let o = of_it r e in
      let k = left_place r s l o.0 o.1 in
      let f = ((rows_from rows h).full r m).some in
      omega (arith, k, f, from)

  not_behind : (r : Span) → In r rows → IsLeft s r → is_of s.class s.asset r ≡ true → ⊥
  not_behind r m l e =
      let o = of_it r e in
      let k = left_place s r l (sym o.0) (sym o.1) in
      let w = (rows_from rows h).full r m in
      let f = w.some in
      let g = w.short in
      omega (arith, k, f, g, to)

  pub asset_slice : (start end : ℕ) → start ≤ end → IsStretch rows s start end → slice_range rows start end ≡ filter (is_of s.class s.asset) rows
  asset_slice start end o k =
      let test = is_of s.class s.asset in
      let mid = slice_range rows start end in
      sym (ap (filter test) (in_three rows start end o) ∙ filter-append test (take start rows) (mid ++ drop end rows)
      ∙ (λ i. filter_none test (take start rows) (λ r m. false_from_ne_true (test r) (not_in_front r (In-take r start rows m) (k.before r m))) i ++ filter test (mid ++ drop end rows))
      ∙ filter-append test mid (drop end rows)
      ∙ (λ i. filter_all test mid (λ r m. and_from (same_name r.class s.class) (nat_eq r.asset s.asset) ((bytes_decides r.class s.class).1 (k.of_class r m)) (eq-eqb r.asset s.asset (k.of_asset r m))) i
      ++ filter_none test (drop end rows) (λ r m. false_from_ne_true (test r) (not_behind r (In-drop r end rows m) (k.behind r m))) i)
      ∙ append-nil mid)

-- ---- where a class has lanes

pub next_none : (lanes : List ClassLanes) (class : Name) (i : ℕ) (l : ClassLanes) → i < length lanes → l ≡ get_or lanes i l → same_name l.class class ≡ false → has_lanes (take i lanes) class ≡ false → has_lanes (take (i + 1) lanes) class ≡ false
next_none lanes class i l h e n k =
    ap (λ z. has_lanes z class) (take_more lanes i l h) ∙ list_any-append (λ (m : ClassLanes). same_name m.class class) (take i lanes) (get_or lanes i l ∷ [])
    ∙ both (has_lanes (take i lanes) class) (same_name (get_or lanes i l).class class) k ((λ j. same_name (sym e j).class class) ∙ n)
  where
    both : (a b : Bool) → a ≡ false → b ≡ false → (a || (b || false)) ≡ false
    both true b h k = h
    both false true h k = k
    both false false h k = refl

get_same : (lanes : List ClassLanes) (i : ℕ) (a b : ClassLanes) → i < length lanes → get_or lanes i a ≡ get_or lanes i b
get_same [] i a b h = absurd (omega (arith, h))
get_same (x ∷ xs) zero a b h = refl
get_same (x ∷ xs) (suc i) a b h = get_same xs i a b (omega (arith, h))

pub place_found : (lanes : List ClassLanes) (class : Name) (i : ℕ) (l : ClassLanes) → i < length lanes → l ≡ get_or lanes i l → same_name l.class class ≡ true → IsPlaceOf lanes class i
place_found lanes class i l h e n = record {
  within = omega (arith, h);
  there = λ d k. ap (λ (z : ClassLanes). z.class) (get_same lanes i d l h ∙ sym e) ∙ (bytes_decides l.class class).0 n;
  nowhere = λ k. absurd (omega (arith, h, k));
}

pub place_none : (lanes : List ClassLanes) (class : Name) (i : ℕ) → length lanes ≤ i → has_lanes (take i lanes) class ≡ false → IsPlaceOf lanes class (length lanes)
place_none lanes class i h k = record {
  within = omega arith;
  there = λ d l. absurd (omega (arith, l));
  nowhere = λ l. ap (λ z. has_lanes z class) (sym (take_all i lanes h)) ∙ k;
}

-- ---- a lane

module _ (rows : List Span) (lanes : List ClassLanes) (class : Name) (at : ℕ) (kept : AreKept rows lanes) (place : IsPlaceOf lanes class at) where
  pub left_is : (l : ClassLanes) → at < length lanes → l ≡ get_or lanes at l → IsLaneOf rows class Left l.left.rows
  left_is l h e =
      let k = kept.tied.each at l h in
      let c = place.there l h in
      record {
        has = λ r. (λ j. has_row (e j).left.rows r) ∙ k.left r ∙ (λ j. has_row rows r && is_on (c j) Left r);
        in_order = (λ j. each_two place_before (e j).left.rows) ∙ k.left_order;
      }

  pub right_is : (l : ClassLanes) → at < length lanes → l ≡ get_or lanes at l → IsLaneOf rows class Right l.right.rows
  right_is l h e =
      let k = kept.tied.each at l h in
      let c = place.there l h in
      record {
        has = λ r. (λ j. has_row (e j).right.rows r) ∙ k.right r ∙ (λ j. has_row rows r && is_on (c j) Right r);
        in_order = (λ j. each_two place_before (e j).right.rows) ∙ k.right_order;
      }

  pub empty_is : (side : LinkSide) → length lanes ≤ at → IsLaneOf rows class side []
  empty_is side h = record { has = λ r. sym (false_from_ne_true (has_row rows r && is_on class side r) (λ e. off r (and_parts (has_row rows r) (is_on class side r) e))); in_order = refl }
    where
      off : (r : Span) → (has_row rows r ≡ true) × (is_on class side r ≡ true) → ⊥
      off r b =
          let c : r.class ≡ class = (bytes_decides r.class class).0 (and_parts (same_name r.class class) (has_side r.side side) b.1).0 in
          both_ways (has_lanes lanes class) (place.nowhere h) (subst (λ (z : Name). has_lanes lanes z ≡ true) c (kept.tied.all r b.0))

-- ---- the least asset over a stretch

one_only : (s t : LinkSide) → has_side (one_side s) t ≡ true → t ≡ s
one_only Left Left h = refl
one_only Left Right h = absurd (false≢true h)
one_only Right Left h = absurd (false≢true h)
one_only Right Right h = refl

one_has : (s : LinkSide) → has_side (one_side s) s ≡ true
one_has Left = refl
one_has Right = refl

module _ (rows : List Span) (class : Name) (side : LinkSide) (lane : List Span) (from to : ℕ) (h : are_rows rows ≡ true) (tied : IsLaneOf rows class side lane) (filled : from < to) where
  -- a row of the lane that is met holds a millimetre
  met_holds : (r : Span) → In r lane → is_met from to r ≡ true → HoldsOver rows class from to (one_side side) r.asset
  met_holds r m e =
      let b = and_parts (has_row rows r) (is_on class side r) (sym (tied.has r) ∙ has_in lane r m) in
      let c = and_parts (same_name r.class class) (has_side r.side side) b.1 in
      let n = has_found rows r b.0 in
      let d = and_parts (nat_lt r.from to) (nat_lt from r.to) e in
      let low = ltb-true r.from to d.0 in
      let high = ltb-true from r.to d.1 in
      let some = ((rows_from rows h).full r n).some in
      record {
        at = max from r.from;
        on = side;
        low = omega arith;
        high = omega (arith, low, filled);
        on_side = one_has side;
        held = any_of (λ q. has_member q class r.asset (max from r.from) side) r rows n
            (its_sides r class r.asset (max from r.from) side (record { of_class = (bytes_decides r.class class).0 c.0; of_asset = refl; low = omega arith; high = omega (arith, high, some) }) ∙ c.1);
      }

  -- what holds a millimetre has such a row
  holds_met : (asset : ℕ) → HoldsOver rows class from to (one_side side) asset → (r : Span) × In r lane × (is_met from to r ≡ true) × (r.asset ≡ asset)
  holds_met asset k =
      let f = any_found (λ q. has_member q class asset k.at k.on) rows k.held in
      let o = over f.0 class asset k.at k.on f.2 in
      let s = one_only side k.on k.on_side in
      let its : has_side f.0.side side ≡ true = (λ i. has_side f.0.side (sym s i)) ∙ sym (its_sides f.0 class asset k.at k.on o) ∙ f.2 in
      let m = has_found lane f.0 (tied.has f.0 ∙ and_from (has_row rows f.0) (is_on class side f.0) (has_in rows f.0 f.1) (and_from (same_name f.0.class class) (has_side f.0.side side) ((bytes_decides f.0.class class).1 o.of_class) its)) in
      let a = k.low in
      let b = k.high in
      let c = o.low in
      let d = o.high in
      (f.0, m, and_from (nat_lt f.0.from to) (nat_lt from f.0.to) (lt-ltb f.0.from to (omega (arith, b, c))) (lt-ltb from f.0.to (omega (arith, a, d))), o.of_asset)

  pub least_over : (o : Option ℕ) → IsLeast (is_met from to) lane o → IsLeastOver rows class from to (one_side side) o
  least_over o k = by o (least_from (is_met from to) lane o k)
    where
      by : (o : Option ℕ) → LeastOf (is_met from to) lane o → IsLeastOver rows class from to (one_side side) o
      by _ (nothing n) = λ a w. let r = holds_met a w in n r.0 r.1 r.2
      by _ (something r m e l) = record {
        here = met_holds r m e;
        least = λ b w. let q = holds_met b w in let g = l q.0 q.1 q.2 in let f = q.3 in omega (arith, g, f);
      }

pub least_nothing : (rows : List Span) (class : Name) (side : LinkSide) (from to : ℕ) → are_rows rows ≡ true → from < to → IsLaneOf rows class side [] → IsLeastOver rows class from to (one_side side) None
least_nothing rows class side from to h f t = least_over rows class side [] from to h t f None refl

-- an empty stretch has no millimetre that is held
pub none_over : (rows : List Span) (class : Name) (from to : ℕ) (side : Side) → to ≤ from → IsLeastOver rows class from to side None
none_over rows class from to side h asset held = let low = held.low in let high = held.high in omega (arith, h, low, high)

-- ---- on either side

widen : (rows : List Span) (class : Name) (from to : ℕ) (s : LinkSide) (a : ℕ) → HoldsOver rows class from to (one_side s) a → HoldsOver rows class from to B a
widen rows class from to s a k = record { at = k.at; on = k.on; low = k.low; high = k.high; on_side = refl; held = k.held }

narrow : (rows : List Span) (class : Name) (from to a : ℕ) → HoldsOver rows class from to B a → HoldsOver rows class from to L a ⊎ HoldsOver rows class from to R a
narrow rows class from to a k = by k.on refl
  where
    by : (s : LinkSide) → k.on ≡ s → HoldsOver rows class from to L a ⊎ HoldsOver rows class from to R a
    by Left e = inl (record { at = k.at; on = Left; low = k.low; high = k.high; on_side = refl; held = (λ i. is_member rows class a k.at (sym e i)) ∙ k.held })
    by Right e = inr (record { at = k.at; on = Right; low = k.low; high = k.high; on_side = refl; held = (λ i. is_member rows class a k.at (sym e i)) ∙ k.held })

module _ (rows : List Span) (class : Name) (from to : ℕ) where
  pub over_both : (l r : Option ℕ) → IsLeastOver rows class from to L l → IsLeastOver rows class from to R r → IsLeastOver rows class from to B (lesser_of l r)
  over_both None None h k = λ a w. by a (narrow rows class from to a w)
    where
      by : (a : ℕ) → HoldsOver rows class from to L a ⊎ HoldsOver rows class from to R a → ⊥
      by a (inl m) = h a m
      by a (inr m) = k a m
  over_both None (Some b) h k = record { here = widen rows class from to Right b k.here; least = λ a w. by a (narrow rows class from to a w) }
    where
      by : (a : ℕ) → HoldsOver rows class from to L a ⊎ HoldsOver rows class from to R a → b ≤ a
      by a (inl m) = absurd (h a m)
      by a (inr m) = k.least a m
  over_both (Some b) None h k = record { here = widen rows class from to Left b h.here; least = λ a w. by a (narrow rows class from to a w) }
    where
      by : (a : ℕ) → HoldsOver rows class from to L a ⊎ HoldsOver rows class from to R a → b ≤ a
      by a (inl m) = h.least a m
      by a (inr m) = absurd (k a m)
  over_both (Some b) (Some c) h k = record { here = here (cases_lt b c); least = λ a w. by a (narrow rows class from to a w) }
    where
      here : (b < c) ⊎ (c ≤ b) → HoldsOver rows class from to B (min b c)
      here (inl l) = subst (HoldsOver rows class from to B) (omega (arith, l)) (widen rows class from to Left b h.here)
      here (inr l) = subst (HoldsOver rows class from to B) (omega (arith, l)) (widen rows class from to Right c k.here)

      by : (a : ℕ) → HoldsOver rows class from to L a ⊎ HoldsOver rows class from to R a → min b c ≤ a
      by a (inl m) = let g = h.least a m in omega (arith, g)
      by a (inr m) = let g = k.least a m in omega (arith, g)

-- ---- the rows of a lane that are met
