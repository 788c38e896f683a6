-- A side of what lies on a stretch is removed.
use Rattle.std.proofs.Common.{◌≡◌, ℕ, ◌<◌, ◌≤◌, Bool, true, false, cond, ◌⊎◌, inl, inr, List, [], ◌∷◌, ◌++◌, Option, Some, None, min, max, refl, sym, ap, subst, ◌∙◌, arith}
use Rattle.std.specs.Prelude.{◌||◌, ◌&&◌, not, nat_lt, nat_le, nat_eq}
use Rattle.std.specs.List.{list_any, list_all, filter, flat_map}
use Rattle.std.specs.Cmp.Lexicographic.{bytes_decides}
use Rattle.std.proofs.lemmas.Bool.{and_parts, and_from, or_left, or_right, ltb-true, le-leb, lt-ltb, lt-leb, le-ltb, cases_lt, cases_Bool, cases_eq, ne_eqb, both_ways}
use Rattle.std.proofs.lemmas.List.Folds.{list_any-append}
use Rattle.lrs_measure.specs.Lists.{In, each_two}
use Rattle.lrs_measure.specs.Texts.{Name, same_name, name_before}
use Rattle.lrs_measure.specs.Limits.{longest_route}
use Rattle.lrs_measure.proofs.Members.{all_of, any_found, any_of, In-append_cases, In-filter, filter-In}
use Rattle.lrs_measure.proofs.Filters.{each_two-filter}
use Rattle.lrs_events.specs.declared.side.Side.{Side}
use Rattle.lrs_events.specs.declared.side.Side.TheVariants.{L, R, B}
use Rattle.lrs_events.specs.declared.side.LinkSide.{LinkSide}
use Rattle.lrs_events.specs.declared.side.LinkSide.TheVariants.{Left, Right}
use Rattle.lrs_events.specs.declared.span.Span.{Span}
use Rattle.lrs_events.specs.Spans.{are_rows, is_row, span_before}
use Rattle.lrs_events.specs.Members.{has_side, has_member, is_member, SameMembers}
use Rattle.lrs_events.specs.Changes.{has_row, changed}
use Rattle.lrs_events.specs.Row.Order.{IsLeft, by_class, by_asset, by_place, grown}
use Rattle.lrs_events.specs.Row.Changes.{IsChange, missing}
use Rattle.lrs_events.specs.Row.Clips.{clip, is_left, follows, are_in_order}
use Rattle.lrs_events.specs.Row.Removals.{is_within, IsLess, IsThat}
use Rattle.lrs_events.specs.Row.Sides.{shared_side, side_less, clip_on, side_part, side_rest, of_side_within, ClearsSide}
use Rattle.lrs_events.specs.declared.rows.removals.Removal.{Removal}
use Rattle.lrs_events.proofs.Row.Unique.{over, its_sides, some_side, has_some, at_start}
use Rattle.lrs_events.proofs.Row.Rows.{IsAhead, Pairs, AreRows, rows_from, rows_are, full_is}
use Rattle.lrs_events.proofs.Row.Places.{left_is}
use Rattle.lrs_events.proofs.Row.Differing.{has_found, has_in, in_missing, missing_in}
use Rattle.lrs_events.proofs.Row.Pieces.{clip_pieces, clip_bounds, found_in, all_parts, clip_holds}
use Rattle.lrs_events.proofs.Row.Fitting.{one_test, each_two-append, In-changed, come-In, stay-In, is_change, Fits, fits_elsewhere, changed_rows_are}
use Rattle.lrs_events.proofs.Row.Replaced.{pairs_two, found_rows}
use Rattle.lrs_events.proofs.Row.Changing.{rows_sorted}

-- ---- parts in order

-- a part of a row, on whatever side
pub record IsPart (r p : Span) : Type 0 where
  pub of_class : p.class ≡ r.class
  pub of_asset : p.asset ≡ r.asset
  pub low : r.from ≤ p.from
  pub some : p.from < p.to
  pub high : p.to ≤ r.to

pub record AreInTurn (r : Span) (ps : List Span) : Type 0 where
  pub each : (p : Span) → In p ps → IsPart r p
  pub order : each_two follows ps ≡ true

follow : (p q : Span) → IsLeft p q → (p.asset ≡ q.asset → p.class ≡ q.class) → follows p q ≡ true
follow p q l c = and_from (is_left p q) (not (nat_eq p.asset q.asset) || same_name p.class q.class) (left_is p q l) (by (cases_eq p.asset q.asset))
  where
    by : (p.asset ≡ q.asset) ⊎ (p.asset ≡ q.asset → ⊥) → (not (nat_eq p.asset q.asset) || same_name p.class q.class) ≡ true
    by (inl e) = or_right (not (nat_eq p.asset q.asset)) (same_name p.class q.class) ((bytes_decides p.class q.class).1 (c e))
    by (inr n) = or_left (not (nat_eq p.asset q.asset)) (same_name p.class q.class) (ap not (ne_eqb p.asset q.asset n))

parts_follow : (x y p q : Span) → IsAhead x y → IsPart x p → IsPart y q → follows p q ≡ true
parts_follow x y p q a i k = follow p q (left a.left) (λ e. i.of_class ∙ a.one_class (sym i.of_asset ∙ e ∙ k.of_asset) ∙ sym k.of_class)
  where
    left : IsLeft x y → IsLeft p q
    left (by_class h) = by_class (subst (λ c. name_before c q.class ≡ true) (sym i.of_class) (subst (λ c. name_before x.class c ≡ true) (sym k.of_class) h))
    left (by_asset c h) = let u = i.of_asset in let v = k.of_asset in by_asset (i.of_class ∙ c ∙ sym k.of_class) (omega (arith, h, u, v))
    left (by_place c b h) = let u = i.high in let v = k.low in by_place (i.of_class ∙ c ∙ sym k.of_class) (i.of_asset ∙ b ∙ sym k.of_asset) (omega (arith, h, u, v))

pub parts_in_order : (f : Span → List Span) (rows : List Span) → AreRows rows → ((r : Span) → In r rows → AreInTurn r (f r)) → are_in_order (flat_map f rows) ≡ true
parts_in_order f rows a h = and_from (list_all is_row (flat_map f rows)) (each_two follows (flat_map f rows)) (all_of is_row (flat_map f rows) (λ p m. full p (found_in f p rows m))) (turns rows a.pairs h)
  where
    full : (p : Span) → ((r : Span) × In r rows × In p (f r)) → is_row p ≡ true
    full p g = let i = (h g.0 g.1).each p g.2 in let t = i.high in let u = (a.full g.0 g.1).short in full_is p (record { some = i.some; short = omega (arith, t, u) })

    turns : (rs : List Span) → Pairs rs → ((r : Span) → In r rs → AreInTurn r (f r)) → each_two follows (flat_map f rs) ≡ true
    turns [] p k = refl
    turns (r ∷ rs) p k = each_two-append follows (f r) (flat_map f rs) (k r (inl refl)).order (turns rs p.1 (λ s m. k s (inr m)))
        (λ x y m n. let g = found_in f y rs n in parts_follow r g.0 x y (p.0 g.0 g.1) ((k r (inl refl)).each x m) ((k g.0 (inr g.1)).each y g.2))

abbrev with_side : Span → Side → Span
with_side r side = record { asset = r.asset; class = r.class; from = r.from; to = r.to; side = side }

clip_turn : (low high : ℕ) (r : Span) → AreInTurn r (clip low high r)
clip_turn low high r = record {
  each = λ p m. let i = (clip_pieces low high r).each p m in let a = i.low in let b = i.high in
      record { of_class = i.of_class; of_asset = i.of_asset; low = omega (arith, a); some = i.some; high = omega (arith, b) };
  order = by (nat_lt (max r.from low) (min r.to high));
}
  where
    by : (b : Bool) → each_two follows (cond b (grown r (max r.from low) (min r.to high) ∷ []) []) ≡ true
    by true = refl
    by false = refl

pub clip_on_turn : (low high : ℕ) (side : Option Side) (r : Span) → AreInTurn r (clip_on low high side r)
clip_on_turn low high None r = record { each = λ p m. absurd m; order = refl }
clip_on_turn low high (Some side) r = let t = clip_turn low high (with_side r side) in record {
  each = λ p m. let i = t.each p m in record { of_class = i.of_class; of_asset = i.of_asset; low = i.low; some = i.some; high = i.high };
  order = t.order;
}

clip_on_bounds : (low high : ℕ) (side : Option Side) (r p : Span) → In p (clip_on low high side r) → (low ≤ p.from) × (p.to ≤ high)
clip_on_bounds low high None r p m = absurd m
clip_on_bounds low high (Some side) r p m = clip_bounds low high (with_side r side) p m

pub side_rest_turn : (low high : ℕ) (side : Side) (r : Span) → low ≤ high → AreInTurn r (side_rest low high side r)
side_rest_turn low high side r h = record {
  each = λ p m. each p (In-append_cases p front (mid ++ rear) m);
  order = each_two-append follows front (mid ++ rear) (clip_turn 0 low r).order
      (each_two-append follows mid rear (clip_on_turn low high (side_less r.side side) r).order (clip_turn high longest_route r).order (λ x y m n. behind x y m n))
      (λ x y m n. before x y m (In-append_cases y mid rear n));
}
  where
    front : List Span
    front = clip 0 low r

    mid : List Span
    mid = clip_on low high (side_less r.side side) r

    rear : List Span
    rear = clip high longest_route r

    two : (p : Span) → In p mid ⊎ In p rear → IsPart r p
    two p (inl m) = (clip_on_turn low high (side_less r.side side) r).each p m
    two p (inr m) = (clip_turn high longest_route r).each p m

    each : (p : Span) → In p front ⊎ In p (mid ++ rear) → IsPart r p
    each p (inl m) = (clip_turn 0 low r).each p m
    each p (inr m) = two p (In-append_cases p mid rear m)

    near : (x y : Span) → IsPart r x → IsPart r y → x.to ≤ y.from → follows x y ≡ true
    near x y i k l = follow x y (by_place (i.of_class ∙ sym k.of_class) (i.of_asset ∙ sym k.of_asset) l) (λ e. i.of_class ∙ sym k.of_class)

    behind : (x y : Span) → In x mid → In y rear → follows x y ≡ true
    behind x y m n =
        let a = (clip_on_bounds low high (side_less r.side side) r x m).1 in let b = (clip_bounds high longest_route r y n).0 in
        near x y (two x (inl m)) (two y (inr n)) (omega (arith, a, b))

    low_of : (y : Span) → In y mid ⊎ In y rear → low ≤ y.from
    low_of y (inl n) = (clip_on_bounds low high (side_less r.side side) r y n).0
    low_of y (inr n) = let b = (clip_bounds high longest_route r y n).0 in omega (arith, b, h)

    before : (x y : Span) → In x front → In y mid ⊎ In y rear → follows x y ≡ true
    before x y m n = let a = (clip_bounds 0 low r x m).1 in let b = low_of y n in near x y ((clip_turn 0 low r).each x m) (two y n) (omega (arith, a, b))

-- ---- what parts stand for

abbrev on_it : Option Side → LinkSide → Bool
on_it None s = false
on_it (Some side) s = has_side side s

shared_on : (a b : Side) (s : LinkSide) → on_it (shared_side a b) s ≡ (has_side a s && has_side b s)
shared_on L L Left = refl
shared_on L L Right = refl
shared_on L R Left = refl
shared_on L R Right = refl
shared_on L B Left = refl
shared_on L B Right = refl
shared_on R L Left = refl
shared_on R L Right = refl
shared_on R R Left = refl
shared_on R R Right = refl
shared_on R B Left = refl
shared_on R B Right = refl
shared_on B b s = refl

less_on : (a b : Side) (s : LinkSide) → on_it (side_less a b) s ≡ (has_side a s && not (has_side b s))
less_on L L Left = refl
less_on L L Right = refl
less_on L R Left = refl
less_on L R Right = refl
less_on L B Left = refl
less_on L B Right = refl
less_on R L Left = refl
less_on R L Right = refl
less_on R R Left = refl
less_on R R Right = refl
less_on R B Left = refl
less_on R B Right = refl
less_on B L Left = refl
less_on B L Right = refl
less_on B R Left = refl
less_on B R Right = refl
less_on B B Left = refl
less_on B B Right = refl

grouped : (c a x d : Bool) → (c && (a && (x && d))) ≡ ((c && (a && x)) && d)
grouped false a x d = refl
grouped true false x d = refl
grouped true true x d = refl

module _ (class : Name) (asset j : ℕ) (s : LinkSide) where
  abbrev stands : Span → Bool
  stands r = has_member r class asset j s

  -- of the class and the asset, and over the millimetre
  abbrev spot : Span → Bool
  spot r = same_name r.class class && (nat_eq r.asset asset && (nat_le r.from j && nat_lt j r.to))

  spotted : (r : Span) → stands r ≡ (spot r && has_side r.side s)
  spotted r = grouped (same_name r.class class) (nat_eq r.asset asset) (nat_le r.from j && nat_lt j r.to) (has_side r.side s)

  clip_on_holds : (low high : ℕ) (side : Option Side) (r : Span) → list_any stands (clip_on low high side r) ≡ ((spot r && on_it side s) && is_within low high j)
  clip_on_holds low high None r = off (spot r) (is_within low high j)
    where
      off : (a w : Bool) → false ≡ ((a && false) && w)
      off true w = refl
      off false w = refl
  clip_on_holds low high (Some side) r = clip_holds class asset j s low high (with_side r side) ∙ (λ i. spotted (with_side r side) i && is_within low high j)

  pub side_part_holds : (low high : ℕ) (side : Side) (r : Span) → list_any stands (side_part low high side r) ≡ (stands r && (is_within low high j && has_side side s))
  side_part_holds low high side r =
      clip_on_holds low high (shared_side r.side side) r
      ∙ (λ i. (spot r && shared_on r.side side s i) && is_within low high j)
      ∙ sorted (spot r) (has_side r.side s) (has_side side s) (is_within low high j)
      ∙ (λ i. sym (spotted r) i && (is_within low high j && has_side side s))
    where
      sorted : (p e d w : Bool) → ((p && (e && d)) && w) ≡ ((p && e) && (w && d))
      sorted false e d w = refl
      sorted true false d w = refl
      sorted true true true true = refl
      sorted true true true false = refl
      sorted true true false true = refl
      sorted true true false false = refl

  elsewhere : (low high : ℕ) → j < longest_route → (is_within 0 low j || is_within high longest_route j) ≡ not (is_within low high j)
  elsewhere low high l = by (cases_lt j low) (cases_lt j high)
    where
      by : (j < low) ⊎ (low ≤ j) → (j < high) ⊎ (high ≤ j) → (is_within 0 low j || is_within high longest_route j) ≡ not (is_within low high j)
      by (inl a) b = (λ i. (le-leb 0 j (omega arith) i && lt-ltb j low a i) || is_within high longest_route j) ∙ sym (λ i. not (lt-leb low j a i && nat_lt j high))
      by (inr a) (inl b) = (λ i. (nat_le 0 j && le-ltb j low a i) || (lt-leb high j b i && nat_lt j longest_route)) ∙ off (nat_le 0 j) ∙ sym (λ i. not (le-leb low j a i && lt-ltb j high b i))
        where
          off : (c : Bool) → ((c && false) || (false && nat_lt j longest_route)) ≡ false
          off true = refl
          off false = refl
      by (inr a) (inr b) = (λ i. (nat_le 0 j && le-ltb j low a i) || (le-leb high j b i && lt-ltb j longest_route l i)) ∙ on (nat_le 0 j) ∙ sym (λ i. not (le-leb low j a i && le-ltb j high b i))
        where
          on : (c : Bool) → ((c && false) || true) ≡ true
          on true = refl
          on false = refl

  pub side_rest_holds : (low high : ℕ) (side : Side) (r : Span) → r.to ≤ longest_route → list_any stands (side_rest low high side r) ≡ (stands r && not (is_within low high j && has_side side s))
  side_rest_holds low high side r k =
      list_any-append stands (clip 0 low r) (clip_on low high (side_less r.side side) r ++ clip high longest_route r)
      ∙ (λ i. clip_holds class asset j s 0 low r i || list_any-append stands (clip_on low high (side_less r.side side) r) (clip high longest_route r) i)
      ∙ (λ i. (stands r && is_within 0 low j) || (clip_on_holds low high (side_less r.side side) r i || clip_holds class asset j s high longest_route r i))
      ∙ (λ i. (spotted r i && is_within 0 low j) || (((spot r && less_on r.side side s i) && is_within low high j) || (spotted r i && is_within high longest_route j)))
      ∙ sorted (spot r) (has_side r.side s) (has_side side s) (is_within low high j) (is_within 0 low j) (is_within high longest_route j) there
      ∙ (λ i. sym (spotted r) i && not (is_within low high j && has_side side s))
    where
      there : spot r ≡ true → (is_within 0 low j || is_within high longest_route j) ≡ not (is_within low high j)
      there e =
          let a = and_parts (same_name r.class class) (nat_eq r.asset asset && (nat_le r.from j && nat_lt j r.to)) e in
          let b = and_parts (nat_eq r.asset asset) (nat_le r.from j && nat_lt j r.to) a.1 in
          let c = ltb-true j r.to (and_parts (nat_le r.from j) (nat_lt j r.to) b.1).1 in
          elsewhere low high (omega (arith, c, k))

      sorted : (p e d w a c : Bool) → (p ≡ true → (a || c) ≡ not w) → (((p && e) && a) || (((p && (e && not d)) && w) || ((p && e) && c))) ≡ ((p && e) && not (w && d))
      sorted false e d w a c h = refl
      sorted true false d w a c h = refl
      sorted true true true true a c h = h refl
      sorted true true true false a c h = h refl
      sorted true true false true true c h = refl
      sorted true true false true false c h = refl
      sorted true true false false a c h = h refl

-- ---- the removal

module _ (rows found rest left : List Span) (of : Name → ℕ → Bool) (low high : ℕ) (side : Side) (h : are_rows rows ≡ true) (e : found ≡ filter (λ r. of r.class r.asset) rows)
    (rest_rows : are_rows rest ≡ true) (rest_same : SameMembers (flat_map (side_rest low high side) found) rest)
    (left_same : SameMembers (flat_map (side_part low high side) found) left) where
  abbrev beside : ℕ → LinkSide → Bool
  beside j s = is_within low high j && has_side side s

  abbrev gone : List Span
  gone = missing rest found

  abbrev come : List Span
  come = missing found rest

  abbrev new : List Span
  new = changed span_before gone come rows

  all : AreRows rows
  all = rows_from rows h

  is_found : (r : Span) → In r found → In r rows × (of r.class r.asset ≡ true)
  is_found r m = In-filter (λ r. of r.class r.asset) r rows (subst (In r) e m)

  found_is : (r : Span) → In r rows → of r.class r.asset ≡ true → In r found
  found_is r m k = subst (In r) (sym e) (filter-In (λ r. of r.class r.asset) r rows m k)

  found_holds : (class : Name) (asset j : ℕ) (s : LinkSide) → is_member found class asset j s ≡ (is_member rows class asset j s && of class asset)
  found_holds class asset j s = one_test (is_member found class asset j s) (is_member rows class asset j s && of class asset) to from
    where
      to : is_member found class asset j s ≡ true → (is_member rows class asset j s && of class asset) ≡ true
      to k =
          let f = any_found (λ q. has_member q class asset j s) found k in
          let g = is_found f.0 f.1 in
          let o = over f.0 class asset j s f.2 in
          and_from (is_member rows class asset j s) (of class asset) (any_of (λ q. has_member q class asset j s) f.0 rows g.0 f.2) ((λ i. of (sym o.of_class i) (sym o.of_asset i)) ∙ g.1)

      from : (is_member rows class asset j s && of class asset) ≡ true → is_member found class asset j s ≡ true
      from k =
          let p = and_parts (is_member rows class asset j s) (of class asset) k in
          let f = any_found (λ q. has_member q class asset j s) rows p.0 in
          let o = over f.0 class asset j s f.2 in
          any_of (λ q. has_member q class asset j s) f.0 found (found_is f.0 f.1 ((λ i. of (o.of_class i) (o.of_asset i)) ∙ p.1)) f.2

  rest_holds : (class : Name) (asset j : ℕ) (s : LinkSide) → is_member rest class asset j s ≡ (is_member found class asset j s && not (beside j s))
  rest_holds class asset j s =
      sym (rest_same class asset j s) ∙ all_parts class asset j s (side_rest low high side) (not (beside j s)) found
      (λ r m. side_rest_holds class asset j s low high side r (all.full r (is_found r m).0).short)

  pub left_holds : IsThat (of_side_within of low high side) rows left
  left_holds class asset j s =
      sym (left_same class asset j s) ∙ all_parts class asset j s (side_part low high side) (beside j s) found (λ r m. side_part_holds class asset j s low high side r)
      ∙ (λ i. found_holds class asset j s i && beside j s) ∙ grouped_too (is_member rows class asset j s) (of class asset) (beside j s)
    where
      grouped_too : (a b c : Bool) → ((a && b) && c) ≡ (a && (b && c))
      grouped_too true b c = refl
      grouped_too false b c = refl

  -- each row of the rest is of the asset of one that was found
  from_found : (r : Span) → In r rest → (q : Span) × In q found × (q.class ≡ r.class) × (q.asset ≡ r.asset)
  from_found r m =
      let s = some_side r.side in
      let f = ((rows_from rest rest_rows).full r m).some in
      let k = any_of (λ q. has_member q r.class r.asset r.from s) r rest m (its_sides r r.class r.asset r.from s (at_start r f) ∙ has_some r.side) in
      let p = and_parts (is_member found r.class r.asset r.from s) (not (beside r.from s)) (sym (rest_holds r.class r.asset r.from s) ∙ k) in
      let g = any_found (λ q. has_member q r.class r.asset r.from s) found p.0 in
      let o = over g.0 r.class r.asset r.from s g.2 in
      (g.0, g.1, o.of_class, o.of_asset)

  rest_of : (r : Span) → In r rest → of r.class r.asset ≡ true
  rest_of r m = let g = from_found r m in (λ i. of (sym g.2 i) (sym g.3 i)) ∙ (is_found g.0 g.1).1

  come_fits : (x y : Span) → In x come → In y rows → (In y gone → ⊥) → Fits x y
  come_fits x y m n stays = fits_elsewhere x y (λ a. sym g.2 ∙ class (pairs_two rows all.pairs g.0 y (is_found g.0 g.1).0 n) (g.3 ∙ a)) near
    where
      k : In x rest × (In x found → ⊥)
      k = in_missing found rest x m

      g : (q : Span) × In q found × (q.class ≡ x.class) × (q.asset ≡ x.asset)
      g = from_found x k.0

      class : (g.0 ≡ y) ⊎ Fits g.0 y → g.0.asset ≡ y.asset → g.0.class ≡ y.class
      class (inl q) a = ap (λ z. z.class) q
      class (inr (inl q)) a = q.one_class a
      class (inr (inr q)) a = sym (q.one_class (sym a))

      near : x.class ≡ y.class → x.asset ≡ y.asset → Fits x y
      near c a = by (found_is y n ((λ i. of (sym c i) (sym a i)) ∙ rest_of x k.0)) (cases_Bool (has_row rest y))
        where
          two : In y found → (x ≡ y) ⊎ Fits x y → Fits x y
          two f (inl q) = absurd (k.1 (subst (λ z. In z found) (sym q) f))
          two f (inr q) = q

          by : In y found → (has_row rest y ≡ true) ⊎ (has_row rest y ≡ false) → Fits x y
          by f (inl t) = two f (pairs_two rest (rows_from rest rest_rows).pairs x y k.0 (has_found rest y t))
          by f (inr t) = absurd (stays (missing_in rest found y f (λ q. both_ways (has_row rest y) t (has_in rest y q))))

  pub new_rows : AreRows new
  new_rows = changed_rows_are gone come rows all (rows_from come (found_rows (λ r. not (has_row found r)) rest rest_rows)) come_fits

  pub new_change : IsChange rows gone come new
  new_change = is_change gone come rows (λ r m. (is_found r (in_missing rest found r m).0).0)
      (λ r m n. let k = in_missing found rest r m in k.1 (found_is r n (rest_of r k.0)))

  -- those of the assets that were found are the rest
  rest_in : (r : Span) → In r rest → In r new
  rest_in r m = by (cases_Bool (has_row found r))
    where
      by : (has_row found r ≡ true) ⊎ (has_row found r ≡ false) → In r new
      by (inl t) = stay-In r gone come rows (is_found r (has_found found r t)).0 (λ n. (in_missing rest found r n).1 m)
      by (inr t) = come-In r gone come rows (missing_in found rest r m (λ q. both_ways (has_row found r) t (has_in found r q)))

  in_rest : (r : Span) → In r new → of r.class r.asset ≡ true → In r rest
  in_rest r m k = by (In-changed r gone come rows m)
    where
      two : In r found → (In r gone → ⊥) → (has_row rest r ≡ true) ⊎ (has_row rest r ≡ false) → In r rest
      two f n (inl t) = has_found rest r t
      two f n (inr t) = absurd (n (missing_in rest found r f (λ q. both_ways (has_row rest r) t (has_in rest r q))))

      by : In r come ⊎ (In r rows × (In r gone → ⊥)) → In r rest
      by (inl c) = (in_missing found rest r c).0
      by (inr c) = two (found_is r c.0 k) c.1 (cases_Bool (has_row rest r))

  -- the others are as they were
  other_in : (r : Span) → In r rows → of r.class r.asset ≡ false → In r new
  other_in r m k = stay-In r gone come rows m (λ n. both_ways (of r.class r.asset) k (is_found r (in_missing rest found r n).0).1)

  in_other : (r : Span) → In r new → of r.class r.asset ≡ false → In r rows
  in_other r m k = by (In-changed r gone come rows m)
    where
      by : In r come ⊎ (In r rows × (In r gone → ⊥)) → In r rows
      by (inl c) = absurd (both_ways (of r.class r.asset) k (rest_of r (in_missing found rest r c).0))
      by (inr c) = c.0

  pub new_holds : IsLess (of_side_within of low high side) rows new
  new_holds class asset j s = by (of class asset) refl
    where
      has : Span → Bool
      has q = has_member q class asset j s

      -- two lists that hold each other's rows of the asset
      alike : (xs ys : List Span) (b : Bool) → b ≡ of class asset → ((r : Span) → In r xs → of r.class r.asset ≡ b → In r ys) → ((r : Span) → In r ys → of r.class r.asset ≡ b → In r xs) → list_any has xs ≡ list_any has ys
      alike xs ys b k f g = one_test (list_any has xs) (list_any has ys) (λ t. across xs ys f (any_found has xs t)) (λ t. across ys xs g (any_found has ys t))
        where
          across : (us vs : List Span) → ((r : Span) → In r us → of r.class r.asset ≡ b → In r vs) → ((r : Span) × In r us × (has r ≡ true)) → list_any has vs ≡ true
          across us vs f t = let o = over t.0 class asset j s t.2 in any_of has t.0 vs (f t.0 t.1 ((λ i. of (o.of_class i) (o.of_asset i)) ∙ sym k)) t.2

      by : (b : Bool) → b ≡ of class asset → is_member new class asset j s ≡ (is_member rows class asset j s && not (of class asset && beside j s))
      by true k =
          alike new rest true k (λ r m t. in_rest r m t) (λ r m t. rest_in r m)
          ∙ rest_holds class asset j s ∙ (λ i. found_holds class asset j s i && not (beside j s))
          ∙ (λ i. (is_member rows class asset j s && sym k i) && not (beside j s)) ∙ with_all (is_member rows class asset j s) (not (beside j s)) ∙ (λ i. is_member rows class asset j s && not (k i && beside j s))
        where
          with_all : (a b : Bool) → ((a && true) && b) ≡ (a && b)
          with_all true b = refl
          with_all false b = refl
      by false k = alike new rows false k (λ r m t. in_other r m t) (λ r m t. other_in r m t) ∙ as_is (is_member rows class asset j s) ∙ (λ i. is_member rows class asset j s && not (k i && beside j s))
        where
          as_is : (a : Bool) → a ≡ (a && true)
          as_is true = refl
          as_is false = refl

-- ---- as the calls made them

within_up : (low high j : ℕ) → is_within low (max high low) j ≡ is_within low high j
within_up low high j = by (cases_lt j low)
  where
    by : (j < low) ⊎ (low ≤ j) → is_within low (max high low) j ≡ is_within low high j
    by (inl a) = (λ i. lt-leb low j a i && nat_lt j (max high low)) ∙ sym (λ i. lt-leb low j a i && nat_lt j high)
    by (inr a) = two (cases_lt j high)
      where
        two : (j < high) ⊎ (high ≤ j) → is_within low (max high low) j ≡ is_within low high j
        two (inl b) = (λ i. nat_le low j && lt-ltb j (max high low) (omega (arith, b)) i) ∙ sym (λ i. nat_le low j && lt-ltb j high b i)
        two (inr b) = (λ i. nat_le low j && le-ltb j (max high low) (omega (arith, a, b)) i) ∙ sym (λ i. nat_le low j && le-ltb j high b i)

pub parts_ordered : (found parts d : List Span) (low high : ℕ) (side : Side) → are_rows found ≡ true → parts ≡ flat_map (side_part low high side) found → d ≡ parts → are_in_order d ≡ true
parts_ordered found parts d low high side h p e = (λ i. are_in_order ((e ∙ p) i)) ∙ parts_in_order (side_part low high side) found (rows_from found h) (λ r m. clip_on_turn low high (shared_side r.side side) r)

pub rests_ordered : (found rests d : List Span) (low high : ℕ) (side : Side) → low ≤ high → are_rows found ≡ true → rests ≡ flat_map (side_rest low high side) found → d ≡ rests → are_in_order d ≡ true
rests_ordered found rests d low high side l h p e = (λ i. are_in_order ((e ∙ p) i)) ∙ parts_in_order (side_rest low high side) found (rows_from found h) (λ r m. side_rest_turn low high side r l)

pub removed : (found rest parts rests d_parts d_rests d_rest : List Span) (low high up : ℕ) (side : Side) (removal : Removal) → up ≡ max high low
    → parts ≡ flat_map (side_part low up side) found → rests ≡ flat_map (side_rest low up side) found → d_parts ≡ parts → d_rests ≡ rests → d_rest ≡ rest
    → are_rows removal.left.items ≡ true → SameMembers d_parts removal.left.items → are_rows rest ≡ true → SameMembers d_rests rest
    → removal.change.gone.items ≡ missing d_rest found → removal.change.come.items ≡ missing found d_rest → ClearsSide found low high side removal
removed found rest parts rests d_parts d_rests d_rest low high up side removal u p q dp dq dr left_rows left_same rest_rows rest_same g c rows of k f = record {
  kept = (λ i. are_rows (makes i)) ∙ rows_are _ (new_rows rows found rest removal.left.items of low up side k f rest_rows rest_alike left_alike);
  change = subst (IsChange rows removal.change.gone.items removal.change.come.items) (sym makes)
      (subst (λ (z : List Span). IsChange rows z removal.change.come.items made) (sym goes)
      (subst (λ (z : List Span). IsChange rows (missing rest found) z made) (sym comes) (new_change rows found rest removal.left.items of low up side k f rest_rows rest_alike left_alike)));
  rest = λ class asset j s. (λ i. is_member (makes i) class asset j s) ∙ new_holds rows found rest removal.left.items of low up side k f rest_rows rest_alike left_alike class asset j s
      ∙ (λ i. is_member rows class asset j s && not (of class asset && (up_to j i && has_side side s)));
  left_rows = left_rows;
  left = λ class asset j s. left_holds rows found rest removal.left.items of low up side k f rest_rows rest_alike left_alike class asset j s
      ∙ (λ i. is_member rows class asset j s && (of class asset && (up_to j i && has_side side s)));
}
  where
    rest_alike : SameMembers (flat_map (side_rest low up side) found) rest
    rest_alike = subst (λ (z : List Span). SameMembers z rest) (dq ∙ q) rest_same

    left_alike : SameMembers (flat_map (side_part low up side) found) removal.left.items
    left_alike = subst (λ (z : List Span). SameMembers z removal.left.items) (dp ∙ p) left_same

    goes : removal.change.gone.items ≡ missing rest found
    goes = g ∙ ap (λ z. missing z found) dr

    comes : removal.change.come.items ≡ missing found rest
    comes = c ∙ ap (missing found) dr

    made : List Span
    made = changed span_before (missing rest found) (missing found rest) rows

    makes : changed span_before removal.change.gone.items removal.change.come.items rows ≡ made
    makes = λ i. changed span_before (goes i) (comes i) rows

    up_to : (j : ℕ) → is_within low up j ≡ is_within low high j
    up_to j = (λ i. is_within low (u i) j) ∙ within_up low high j

-- what is removed was in order
pub goes_in_order : (found went others : List Span) → are_rows found ≡ true → went ≡ missing others found → each_two span_before went ≡ true
goes_in_order found went others h g = (λ i. each_two span_before (g i)) ∙ each_two-filter span_before (λ r. not (has_row others r)) found (rows_sorted found h)
