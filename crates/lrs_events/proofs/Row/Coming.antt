-- One more row, which goes on with its neighbours where it joins them.
use Rattle.std.proofs.Common.{◌≡◌, ℕ, ◌≤◌, Bool, true, false, inl, inr, List, [], ◌∷◌, ◌++◌, refl, sym, subst, ◌∙◌, arith, append_assoc}
use Rattle.std.specs.Prelude.{◌||◌, ◌&&◌, nat_lt, nat_le, nat_eq}
use Rattle.std.specs.List.{list_any}
use Rattle.std.proofs.lemmas.Bool.{ltb-true, ltb-false, lt-ltb, le-leb, lt-leb}
use Rattle.std.proofs.lemmas.List.Folds.{list_any-append}
use Rattle.lrs_measure.specs.Texts.{Name, same_name, name_before}
use Rattle.lrs_measure.specs.Limits.{longest_route}
use Rattle.lrs_measure.specs.Lists.{In}
use Rattle.lrs_measure.proofs.Members.{In-append_left, In-append_right}
use Rattle.lrs_events.specs.declared.side.LinkSide.{LinkSide}
use Rattle.lrs_events.specs.declared.span.Span.{Span}
use Rattle.lrs_events.specs.Members.{has_side, has_member, is_member}
use Rattle.lrs_events.specs.Row.Order.{IsLeft, by_class, by_asset, by_place, IsAfter, IsBefore, alone, joined, grown}
use Rattle.lrs_events.proofs.Row.Rows.{IsFull, IsAhead, Pairs, AreRows, pairs_front, pairs_rear, pairs_across, exchanged}

left_onto : (x y z : Span) → IsLeft x y → y.class ≡ z.class → y.asset ≡ z.asset → y.from ≡ z.from → IsLeft x z
left_onto x y z (by_class h) c a f = by_class (subst (λ k. name_before x.class k ≡ true) c h)
left_onto x y z (by_asset d h) c a f = by_asset (d ∙ c) (omega (arith, h, a))
left_onto x y z (by_place d b h) c a f = by_place (d ∙ c) (b ∙ a) (omega (arith, h, f))

left_off : (y z x : Span) → IsLeft y x → y.class ≡ z.class → y.asset ≡ z.asset → y.to ≡ z.to → IsLeft z x
left_off y z x (by_class h) c a f = by_class (subst (λ k. name_before k x.class ≡ true) c h)
left_off y z x (by_asset d h) c a f = by_asset (sym c ∙ d) (omega (arith, h, a))
left_off y z x (by_place d b h) c a f = by_place (sym c ∙ d) (sym a ∙ b) (omega (arith, h, f))

-- what is known of a span and the rows that it comes to
pub record Comes (front ls rs rear : List Span) (span : Span) (from to : ℕ) : Type 0 where
  pub rows : AreRows ((front ++ ls) ++ (rs ++ rear))
  pub full : IsFull span
  pub one_class : (r : Span) → In r ((front ++ ls) ++ (rs ++ rear)) → r.asset ≡ span.asset → r.class ≡ span.class
  pub fore : (r : Span) → In r (front ++ ls) → IsLeft r span
  pub aft : (r : Span) → In r (rs ++ rear) → IsLeft span r
  pub after : IsAfter front span ls from
  pub before : IsBefore rear span rs to

pub begins : (front ls : List Span) (span : Span) (from : ℕ) → ((r : Span) → In r (front ++ ls) → IsFull r) → IsAfter front span ls from → from ≤ span.from
begins front _ span _ f (alone n) = omega arith
begins front _ span _ f (joined l j) = let a = (f l (In-append_right l front (l ∷ []) (inl refl))).some in let b = j.at in omega (arith, a, b)

pub ends : (rear rs : List Span) (span : Span) (to : ℕ) → IsFull span → ((r : Span) → In r (rs ++ rear) → IsFull r) → IsBefore rear span rs to → (span.to ≤ to) × (to ≤ longest_route)
ends rear _ span _ f g (alone n) = (omega arith, f.short)
ends rear _ span _ f g (joined r j) = let a = (g r (inl refl)).some in let b = j.at in (omega (arith, a, b), (g r (inl refl)).short)

fore_row : (front ls : List Span) (span : Span) (from to : ℕ) → Pairs (front ++ ls) → ((r : Span) → In r (front ++ ls) → r.asset ≡ span.asset → r.class ≡ span.class)
    → ((r : Span) → In r (front ++ ls) → IsLeft r span) → IsAfter front span ls from → (x : Span) → In x front → IsAhead x (grown span from to)
fore_row front _ span _ to p one left (alone n) x m = record {
  left = left_onto x span (grown span span.from to) (left x (In-append_left x front [] m)) refl refl refl;
  one_class = one x (In-append_left x front [] m);
  not_joined = λ j. n x m (record { of_class = j.of_class; of_asset = j.of_asset; at = j.at; on_side = j.on_side });
}
fore_row front _ span _ to p one left (joined l j) x m =
    let a = pairs_across front (l ∷ []) x l p m (inl refl) in
    record {
      left = left_onto x l (grown span l.from to) a.left j.of_class j.of_asset refl;
      one_class = one x (In-append_left x front (l ∷ []) m);
      not_joined = λ k. a.not_joined (record { of_class = k.of_class ∙ sym j.of_class; of_asset = k.of_asset ∙ sym j.of_asset; at = k.at; on_side = k.on_side ∙ sym j.on_side });
    }

aft_row : (rear rs : List Span) (span : Span) (from to : ℕ) → Pairs (rs ++ rear) → ((r : Span) → In r (rs ++ rear) → r.asset ≡ span.asset → r.class ≡ span.class)
    → ((r : Span) → In r (rs ++ rear) → IsLeft span r) → IsBefore rear span rs to → (x : Span) → In x rear → IsAhead (grown span from to) x
aft_row rear _ span from _ p one right (alone n) x m = record {
  left = left_off span (grown span from span.to) x (right x m) refl refl refl;
  one_class = λ e. sym (one x m (sym e));
  not_joined = λ j. n x m (record { of_class = j.of_class; of_asset = j.of_asset; at = j.at; on_side = j.on_side });
}
aft_row rear _ span from _ p one right (joined r j) x m =
    let a = p.0 x m in
    record {
      left = left_off r (grown span from r.to) x a.left (sym j.of_class) (sym j.of_asset) refl;
      one_class = λ e. sym (one x (inr m) (sym e));
      not_joined = λ k. a.not_joined (record { of_class = sym j.of_class ∙ k.of_class; of_asset = sym j.of_asset ∙ k.of_asset; at = k.at; on_side = sym j.on_side ∙ k.on_side });
    }

regrouped : (front ls rs rear : List Span) → (front ++ ls) ++ (rs ++ rear) ≡ front ++ ((ls ++ rs) ++ rear)
regrouped front ls rs rear = simp append_assoc

-- the rows with it are in order, apart and merged
pub added : (front ls rs rear : List Span) (span : Span) (from to : ℕ) → Comes front ls rs rear span from to → AreRows (front ++ (grown span from to ∷ rear))
added front ls rs rear span from to c =
    let p : Pairs (front ++ ls) = pairs_front (front ++ ls) (rs ++ rear) c.rows.pairs in
    let q : Pairs (rs ++ rear) = pairs_rear (front ++ ls) (rs ++ rear) c.rows.pairs in
    let low = begins front ls span from (λ r m. c.rows.full r (In-append_left r (front ++ ls) (rs ++ rear) m)) c.after in
    let high = ends rear rs span to c.full (λ r m. c.rows.full r (In-append_right r (front ++ ls) (rs ++ rear) m)) c.before in
    exchanged front (ls ++ rs) rear (grown span from to ∷ []) (subst AreRows (regrouped front ls rs rear) c.rows)
    (one (record { some = let a = c.full.some in let b = high.0 in omega (arith, a, b, low); short = high.1 }))
    (λ x y m n. fore x y m n)
    (λ y z m n. aft y z m n)
  where
    one : IsFull (grown span from to) → AreRows (grown span from to ∷ [])
    one f = record { full = λ r m. by r m; pairs = (λ s m. absurd m, tt) }
      where
        by : (r : Span) → In r (grown span from to ∷ []) → IsFull r
        by r (inl e) = subst IsFull (sym e) f
        by r (inr m) = absurd m

    fore : (x y : Span) → In x front → In y (grown span from to ∷ []) → IsAhead x y
    fore x y m (inl e) = subst (IsAhead x) (sym e) (fore_row front ls span from to (pairs_front (front ++ ls) (rs ++ rear) c.rows.pairs)
        (λ r n. c.one_class r (In-append_left r (front ++ ls) (rs ++ rear) n)) c.fore c.after x m)
    fore x y m (inr n) = absurd n

    aft : (y z : Span) → In y (grown span from to ∷ []) → In z rear → IsAhead y z
    aft y z (inl e) n = subst (λ w. IsAhead w z) (sym e) (aft_row rear rs span from to (pairs_rear (front ++ ls) (rs ++ rear) c.rows.pairs)
        (λ r k. c.one_class r (In-append_right r (front ++ ls) (rs ++ rear) k)) c.aft c.before z n)
    aft y z (inr m) n = absurd m

-- ---- what the row stands for

or_nothing : (b : Bool) → (b || false) ≡ b
or_nothing true = refl
or_nothing false = refl

-- a stretch in two
spread : (c a d x y z w : Bool) → (y ≡ true → (z ≡ false) × (w ≡ true)) → (y ≡ false → (z ≡ true) × (x ≡ true)) → (c && (a && ((x && w) && d))) ≡ ((c && (a && ((x && y) && d))) || (c && (a && ((z && w) && d))))
spread false a d x y z w h k = refl
spread true false d x y z w h k = refl
spread true true d x true z w h k = let e = h refl in (λ i. (x && e.1 i) && d) ∙ sym (or_nothing ((x && true) && d)) ∙ (λ i. ((x && true) && d) || ((sym e.0 i && w) && d))
spread true true d x false z w h k = let e = k refl in (λ i. (e.1 i && w) && d) ∙ (λ i. (sym e.0 i && w) && d) ∙ (λ i. sym (and_false x) i || ((z && w) && d))
  where
    and_false : (b : Bool) → ((b && false) && d) ≡ false
    and_false true = refl
    and_false false = refl

module _ (class : Name) (asset j : ℕ) (s : LinkSide) where
  abbrev stands : Span → Bool
  stands r = has_member r class asset j s

  -- a row in two: the first ends where the second begins
  in_two : (l : Span) (from mid to : ℕ) → from ≤ mid → mid ≤ to → stands (grown l from to) ≡ (stands (grown l from mid) || stands (grown l mid to))
  in_two l from mid to h k = spread (same_name l.class class) (nat_eq l.asset asset) (has_side l.side s) (nat_le from j) (nat_lt j mid) (nat_le mid j) (nat_lt j to)
      (λ e. let a = ltb-true j mid e in (lt-leb mid j a, lt-ltb j to (omega (arith, a, k))))
      (λ e. let a = ltb-false j mid e in (le-leb mid j a, le-leb from j (omega (arith, a, h))))

  -- rows of one class, asset and side
  alike : (l r : Span) (from to : ℕ) → l.class ≡ r.class → l.asset ≡ r.asset → l.side ≡ r.side → stands (grown l from to) ≡ stands (grown r from to)
  alike l r from to c a d = λ i. same_name (c i) class && (nat_eq (a i) asset && ((nat_le from j && nat_lt j to) && has_side (d i) s))

  grow_left : (front ls : List Span) (span : Span) (from to : ℕ) → ((r : Span) → In r (front ++ ls) → IsFull r) → span.from ≤ to → IsAfter front span ls from
      → stands (grown span from to) ≡ (list_any stands ls || stands (grown span span.from to))
  grow_left front _ span _ to f h (alone n) = refl
  grow_left front _ span _ to f h (joined l k) =
      let a = (f l (In-append_right l front (l ∷ []) (inl refl))).some in let e = k.at in
      in_two span l.from span.from to (omega (arith, a, e)) h
      ∙ (λ i. stands (grown span l.from (sym e i)) || stands (grown span span.from to))
      ∙ (λ i. sym (alike l span l.from l.to k.of_class k.of_asset k.on_side) i || stands (grown span span.from to))
      ∙ (λ i. sym (or_nothing (stands l)) i || stands (grown span span.from to))

  grow_right : (rear rs : List Span) (span : Span) (to : ℕ) → IsFull span → ((r : Span) → In r (rs ++ rear) → IsFull r) → IsBefore rear span rs to
      → stands (grown span span.from to) ≡ (stands span || list_any stands rs)
  grow_right rear _ span _ f g (alone n) = sym (or_nothing (stands span))
  grow_right rear _ span _ f g (joined r k) =
      let a = (g r (inl refl)).some in let b = f.some in let e = k.at in
      in_two span span.from span.to r.to (omega (arith, b)) (omega (arith, a, e))
      ∙ (λ i. stands span || stands (grown span (e i) r.to))
      ∙ (λ i. stands span || alike span r r.from r.to k.of_class k.of_asset k.on_side i)
      ∙ (λ i. stands span || sym (or_nothing (stands r)) i)

  sorted_out : (f a t b r : Bool) → (f || ((a || (t || b)) || r)) ≡ (((f || a) || (b || r)) || t)
  sorted_out true a t b r = refl
  sorted_out false true t b r = refl
  sorted_out false false true true r = refl
  sorted_out false false true false true = refl
  sorted_out false false true false false = refl
  sorted_out false false false b r = sym (or_nothing (b || r))

  pub added_holds : (front ls rs rear : List Span) (span : Span) (from to : ℕ) → Comes front ls rs rear span from to
      → is_member (front ++ (grown span from to ∷ rear)) class asset j s ≡ (is_member ((front ++ ls) ++ (rs ++ rear)) class asset j s || stands span)
  added_holds front ls rs rear span from to c =
      let f = λ (r : Span) (m : In r (front ++ ls)). c.rows.full r (In-append_left r (front ++ ls) (rs ++ rear) m) in
      let g = λ (r : Span) (m : In r (rs ++ rear)). c.rows.full r (In-append_right r (front ++ ls) (rs ++ rear) m) in
      let high = ends rear rs span to c.full g c.before in
      let o = c.full.some in
      let row = grow_left front ls span from to f (omega (arith, high.0, o)) c.after ∙ (λ i. list_any stands ls || grow_right rear rs span to c.full g c.before i) in
      list_any-append stands front (grown span from to ∷ rear)
      ∙ (λ i. list_any stands front || (row i || list_any stands rear))
      ∙ sorted_out (list_any stands front) (list_any stands ls) (stands span) (list_any stands rs) (list_any stands rear)
      ∙ sym ((λ i. list_any-append stands (front ++ ls) (rs ++ rear) i || stands span)
      ∙ (λ i. (list_any-append stands front ls i || list_any-append stands rs rear i) || stands span))
