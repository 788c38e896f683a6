-- The rows of a route seen from its other end.
use Rattle.std.proofs.Common.{◌≡◌, ℕ, ◌+◌, ◌-◌, ◌<◌, ◌≤◌, true, false, ◌⊎◌, inl, inr, List, [], ◌∷◌, ◌++◌, length, get_or, take, drop, refl, sym, ap, subst, ◌∙◌, arith, append_assoc}
use Rattle.std.specs.Prelude.{◌&&◌, not, nat_lt, nat_le, slice_range}
use Rattle.std.specs.List.Sorted.{IsPartitionPoint}
use Rattle.std.proofs.lemmas.Bool.{and_parts, and_from, leb-true, ltb-true, lt-ltb, cases_lt, not-true, both_ways, cases_Bool}
use Rattle.std.proofs.lemmas.List.{append_cancel_right, take-append-drop, take_all, drop_all, drop_more}
use Rattle.std.proofs.lemmas.List.Folds.{drop_split}
use Rattle.lrs_measure.specs.Texts.{Name}
use Rattle.lrs_measure.specs.Limits.{longest_route}
use Rattle.lrs_measure.specs.Lists.{In}
use Rattle.lrs_measure.proofs.Members.{all_at, any_found, any_of, In-append_left, In-append_right, In-append_cases, In-take, In-drop}
use Rattle.lrs_measure.proofs.Places.{all_first, all_last, member_at, in_three}
use Rattle.lrs_events.specs.declared.side.Side.{Side}
use Rattle.lrs_events.specs.declared.side.Side.TheVariants.{L, R, B}
use Rattle.lrs_events.specs.declared.side.LinkSide.{LinkSide}
use Rattle.lrs_events.specs.declared.side.LinkSide.TheVariants.{Left, Right}
use Rattle.lrs_events.specs.declared.span.Span.{Span}
use Rattle.lrs_events.specs.Spans.{are_rows}
use Rattle.lrs_events.specs.Places.{other_side}
use Rattle.lrs_events.specs.Members.{has_side, has_member, is_member}
use Rattle.lrs_events.specs.Row.Clips.{is_left}
use Rattle.lrs_events.specs.Row.Order.{IsLeft, by_class, by_asset, by_place, grown}
use Rattle.lrs_events.specs.Row.Joins.{end_by}
use Rattle.lrs_events.specs.Row.Turns.{turned_side, mirrored, mirrored_rows, IsTurned, IsBlock}
use Rattle.lrs_events.proofs.Row.Unique.{over, its_sides}
use Rattle.lrs_events.proofs.Row.Rows.{IsFull, IsAhead, Pairs, AreRows, rows_from, rows_are, left_place, pairs_append, pairs_front, pairs_rear, pairs_across}
use Rattle.lrs_events.proofs.Row.Places.{left_from, left_is}
use Rattle.lrs_events.proofs.Row.Fitting.{one_test, Fits}
use Rattle.lrs_events.proofs.Row.Replaced.{pairs_two}

up_to : (rows : List Span) (start end : ℕ) → start ≤ end → take start rows ++ slice_range rows start end ≡ take end rows
up_to rows start end s = append_cancel_right (take start rows ++ slice_range rows start end) (take end rows) (drop end rows) (append_assoc (take start rows) (slice_range rows start end) (drop end rows) ∙ sym (in_three rows start end s) ∙ sym (take-append-drop end rows))

turned_has : (a : Side) (s : LinkSide) → has_side (turned_side a) s ≡ has_side a (other_side s)
turned_has L Left = refl
turned_has L Right = refl
turned_has R Left = refl
turned_has R Right = refl
turned_has B Left = refl
turned_has B Right = refl

turned_twice : (a : Side) → turned_side (turned_side a) ≡ a
turned_twice L = refl
turned_twice R = refl
turned_twice B = refl

module _ (len : ℕ) where
  pub In-mirrored : (x : Span) (rows : List Span) → In x (mirrored_rows len rows) → (r : Span) × In r rows × (x ≡ mirrored len r)
  In-mirrored x [] m = absurd m
  In-mirrored x (r ∷ rs) m = by (In-append_cases x (mirrored_rows len rs) (mirrored len r ∷ []) m) (In-mirrored x rs)
    where
      by : In x (mirrored_rows len rs) ⊎ In x (mirrored len r ∷ []) → (In x (mirrored_rows len rs) → (q : Span) × In q rs × (x ≡ mirrored len q)) → (q : Span) × In q (r ∷ rs) × (x ≡ mirrored len q)
      by (inl k) later = let g = later k in (g.0, inr g.1, g.2)
      by (inr (inl e)) later = (r, inl refl, e)
      by (inr (inr k)) later = absurd k

  pub mirrored-In : (r : Span) (rows : List Span) → In r rows → In (mirrored len r) (mirrored_rows len rows)
  mirrored-In r [] m = absurd m
  mirrored-In r (q ∷ qs) (inl e) = In-append_right (mirrored len r) (mirrored_rows len qs) (mirrored len q ∷ []) (inl (ap (mirrored len) e))
  mirrored-In r (q ∷ qs) (inr m) = In-append_left (mirrored len r) (mirrored_rows len qs) (mirrored len q ∷ []) (mirrored-In r qs m)

  -- of two rows of one asset the other comes first from the other end
  other_first : (r q : Span) → r.from < r.to → q.from < q.to → q.to ≤ len → IsAhead r q → r.asset ≡ q.asset → IsAhead (mirrored len q) (mirrored len r)
  other_first r q f g h a e =
      let c = a.one_class e in
      let l = left_place r q a.left c e in
      record {
        left = by_place (sym c) (sym e) (omega (arith, l));
        one_class = λ _. sym c;
        not_joined = λ j. let t : len - q.from ≡ len - r.to = j.at in
            a.not_joined (record { of_class = c; of_asset = e; at = omega (arith, t, l, g, h); on_side = sym (turned_twice r.side) ∙ ap turned_side (sym j.on_side) ∙ turned_twice q.side });
      }

  -- those of two assets keep their order
  same_first : (r q : Span) → IsAhead r q → (r.asset ≡ q.asset → ⊥) → IsAhead (mirrored len r) (mirrored len q)
  same_first r q a n = record { left = by a.left; one_class = λ e. absurd (n e); not_joined = λ j. n j.of_asset }
    where
      by : IsLeft r q → IsLeft (mirrored len r) (mirrored len q)
      by (by_class h) = by_class h
      by (by_asset c h) = by_asset c h
      by (by_place c e h) = absurd (n e)

  block_pairs : (block : List Span) → ((r : Span) → In r block → IsFull r) → ((r : Span) → In r block → r.to ≤ len) → Pairs block → ((q r : Span) → In q block → In r block → q.asset ≡ r.asset) → Pairs (mirrored_rows len block)
  block_pairs [] f h p o = tt
  block_pairs (r ∷ rs) f h p o = pairs_append (mirrored_rows len rs) (mirrored len r ∷ []) (block_pairs rs (λ q m. f q (inr m)) (λ q m. h q (inr m)) p.1 (λ q s m n. o q s (inr m) (inr n)))
      (λ s m. absurd m, tt) (λ x y m n. last x y (In-mirrored x rs m) n)
    where
      last : (x y : Span) → ((q : Span) × In q rs × (x ≡ mirrored len q)) → In y (mirrored len r ∷ []) → IsAhead x y
      last x y g (inl e) = subst (λ z. IsAhead z y) (sym g.2) (subst (IsAhead (mirrored len g.0)) (sym e)
          (other_first r g.0 (f r (inl refl)).some (f g.0 (inr g.1)).some (h g.0 (inr g.1)) (p.0 g.0 g.1) (o r g.0 (inl refl) (inr g.1))))
      last x y g (inr n) = absurd n

  -- how far the rows are turned
  pub record AreTurned (front rest out : List Span) : Type 0 where
    pub each : (x : Span) → In x out → (r : Span) × In r front × (x ≡ mirrored len r)
    pub every : (r : Span) → In r front → In (mirrored len r) out
    pub pairs : Pairs out
    pub off : (q r : Span) → In q front → In r rest → q.asset ≡ r.asset → ⊥

  pub turned_none : (rows : List Span) → AreTurned [] rows []
  turned_none rows = record { each = λ x m. absurd m; every = λ r m. absurd m; pairs = tt; off = λ q r m. absurd m }

  turned_block : (front block rear out : List Span) → AreRows (front ++ (block ++ rear)) → ((r : Span) → In r block → r.to ≤ len) → ((q r : Span) → In q block → In r block → q.asset ≡ r.asset)
      → ((q r : Span) → In q block → In r rear → q.asset ≡ r.asset → ⊥) → AreTurned front (block ++ rear) out → AreTurned (front ++ block) rear (out ++ mirrored_rows len block)
  turned_block front block rear out a h own others t = record {
    each = λ x m. each x (In-append_cases x out (mirrored_rows len block) m);
    every = λ r m. every r (In-append_cases r front block m);
    pairs = pairs_append out (mirrored_rows len block) t.pairs
        (block_pairs block (λ r m. a.full r (In-append_right r front (block ++ rear) (In-append_left r block rear m))) h (pairs_front block rear (pairs_rear front (block ++ rear) a.pairs)) own)
        (λ x y m n. across x y (t.each x m) (In-mirrored y block n));
    off = λ q r m n. off q r n (In-append_cases q front block m);
  }
    where
      each : (x : Span) → In x out ⊎ In x (mirrored_rows len block) → (r : Span) × In r (front ++ block) × (x ≡ mirrored len r)
      each x (inl m) = let g = t.each x m in (g.0, In-append_left g.0 front block g.1, g.2)
      each x (inr m) = let g = In-mirrored x block m in (g.0, In-append_right g.0 front block g.1, g.2)

      every : (r : Span) → In r front ⊎ In r block → In (mirrored len r) (out ++ mirrored_rows len block)
      every r (inl m) = In-append_left (mirrored len r) out (mirrored_rows len block) (t.every r m)
      every r (inr m) = In-append_right (mirrored len r) out (mirrored_rows len block) (mirrored-In r block m)

      across : (x y : Span) → ((r : Span) × In r front × (x ≡ mirrored len r)) → ((q : Span) × In q block × (y ≡ mirrored len q)) → IsAhead x y
      across x y g k = subst (λ z. IsAhead z y) (sym g.2) (subst (IsAhead (mirrored len g.0)) (sym k.2)
          (same_first g.0 k.0 (pairs_across front (block ++ rear) g.0 k.0 a.pairs g.1 (In-append_left k.0 block rear k.1)) (λ e. t.off g.0 k.0 g.1 (In-append_left k.0 block rear k.1) e)))

      off : (q r : Span) → In r rear → In q front ⊎ In q block → q.asset ≡ r.asset → ⊥
      off q r n (inl m) = t.off q r m (In-append_right r block rear n)
      off q r n (inr m) = others q r m n

  -- one block more, by its ends
  pub turned_more : (rows out new : List Span) (start end : ℕ) → are_rows rows ≡ true → end_by len rows ≡ true → IsBlock rows start end → new ≡ out ++ mirrored_rows len (slice_range rows start end)
      → AreTurned (take start rows) (drop start rows) out → AreTurned (take end rows) (drop end rows) new
  turned_more rows out new start end h e b n t =
      let s : start ≤ end = (let q = b.some in omega (arith, q)) in
      let block = slice_range rows start end in
      let w = in_three rows start end s in
      let d : drop start rows ≡ block ++ drop end rows = drop_split rows start end s in
      let f = up_to rows start end s in
      subst (λ (z : List Span). AreTurned (take end rows) (drop end rows) z) (sym n)
      (subst (λ (z : List Span). AreTurned z (drop end rows) (out ++ mirrored_rows len block)) f
      (turned_block (take start rows) block (drop end rows) out (subst AreRows w (rows_from rows h))
      (λ r m. leb-true r.to len (all_at (λ r. nat_le r.to len) r rows e (In-drop r start rows (subst (In r) (sym d) (In-append_left r block (drop end rows) m)))))
      b.own b.others (subst (λ (z : List Span). AreTurned (take start rows) z out) d t)))

  -- ---- what they stand for

  module _ (rows out : List Span) (a : AreRows rows) (h : (r : Span) → In r rows → r.to ≤ len) (k : len ≤ longest_route) (t : AreTurned rows [] out) where
    turned_rows : AreRows out
    turned_rows = record { full = λ x m. full x (t.each x m); pairs = t.pairs }
      where
        full : (x : Span) → ((r : Span) × In r rows × (x ≡ mirrored len r)) → IsFull x
        full x g = subst IsFull (sym g.2) (let s = (a.full g.0 g.1).some in let l = h g.0 g.1 in record { some = omega (arith, s, l); short = omega (arith, k) })

    module _ (class : Name) (asset j : ℕ) (s : LinkSide) where
      to_row : (r : Span) → In r rows → has_member (mirrored len r) class asset j s ≡ true → (nat_lt j len ≡ true) × (is_member rows class asset (len - 1 - j) (other_side s) ≡ true)
      to_row r m e =
          let o = over (mirrored len r) class asset j s e in
          let low = o.low in let high = o.high in let l = h r m in let f = (a.full r m).some in (
            lt-ltb j len (omega (arith, high)),
            any_of (λ q. has_member q class asset (len - 1 - j) (other_side s)) r rows m
                (its_sides r class asset (len - 1 - j) (other_side s) (record { of_class = o.of_class; of_asset = o.of_asset; low = omega (arith, high); high = omega (arith, low, high, f) })
                ∙ sym (turned_has r.side s) ∙ sym (its_sides (mirrored len r) class asset j s o) ∙ e),
          )

      from_row : (r : Span) → In r rows → j < len → has_member r class asset (len - 1 - j) (other_side s) ≡ true → is_member out class asset j s ≡ true
      from_row r m i e =
          let o = over r class asset (len - 1 - j) (other_side s) e in
          let low = o.low in let high = o.high in
          any_of (λ q. has_member q class asset j s) (mirrored len r) out (t.every r m)
          (its_sides (mirrored len r) class asset j s (record { of_class = o.of_class; of_asset = o.of_asset; low = omega (arith, high, i); high = omega (arith, low, i) })
          ∙ turned_has r.side s ∙ sym (its_sides r class asset (len - 1 - j) (other_side s) o) ∙ e)

      turned_holds : is_member out class asset j s ≡ (nat_lt j len && is_member rows class asset (len - 1 - j) (other_side s))
      turned_holds = one_test (is_member out class asset j s) (nat_lt j len && is_member rows class asset (len - 1 - j) (other_side s)) to from
        where
          to : is_member out class asset j s ≡ true → (nat_lt j len && is_member rows class asset (len - 1 - j) (other_side s)) ≡ true
          to e =
              let f = any_found (λ q. has_member q class asset j s) out e in
              let g = t.each f.0 f.1 in
              let p = to_row g.0 g.1 (ap (λ z. has_member z class asset j s) (sym g.2) ∙ f.2) in
              and_from (nat_lt j len) (is_member rows class asset (len - 1 - j) (other_side s)) p.0 p.1

          from : (nat_lt j len && is_member rows class asset (len - 1 - j) (other_side s)) ≡ true → is_member out class asset j s ≡ true
          from e =
              let p = and_parts (nat_lt j len) (is_member rows class asset (len - 1 - j) (other_side s)) e in
              let f = any_found (λ q. has_member q class asset (len - 1 - j) (other_side s)) rows p.1 in
              from_row f.0 f.1 (ltb-true j len p.0) f.2

-- all rows
pub record IsTurnedRows (len : ℕ) (rows out : List Span) : Type 0 where
  pub kept : are_rows out ≡ true
  pub turned : IsTurned len rows out

pub turned_whole : (len : ℕ) (rows out : List Span) (start : ℕ) → are_rows rows ≡ true → end_by len rows ≡ true → len ≤ longest_route → length rows ≤ start → AreTurned len (take start rows) (drop start rows) out → IsTurnedRows len rows out
turned_whole len rows out start h e k l t =
    let a = rows_from rows h in
    let b = λ (r : Span) (m : In r rows). leb-true r.to len (all_at (λ r. nat_le r.to len) r rows e m) in
    let w = subst (λ (z : List Span). AreTurned len z [] out) (take_all start rows l) (subst (λ (z : List Span). AreTurned len (take start rows) z out) (drop_all start rows l) t) in
    record { kept = rows_are out (turned_rows len rows out a b k w); turned = λ class asset j s. turned_holds len rows out a b k w class asset j s }

-- ---- the rows of one asset

module _ (rows : List Span) (row : Span) (start end : ℕ) (h : are_rows rows ≡ true) (l : start < length rows) (e : row ≡ get_or rows start row)
    (p : IsPartitionPoint (λ r. not (is_left (grown row 0 longest_route) r) ≡ true) (λ r. not (is_left (grown row 0 longest_route) r) ≡ false) rows end) where
  here : In row rows
  here = subst (λ z. In z rows) (sym e) (member_at rows start row l)

  split : drop start rows ≡ row ∷ drop (start + 1) rows
  split = drop_more rows start row l ∙ (λ i. sym e i ∷ drop (start + 1) rows)

  later : (r : Span) → In r (drop start rows) → (r ≡ row) ⊎ IsAhead row r
  later r m = by (subst (In r) split m)
    where
      q : Pairs (row ∷ drop (start + 1) rows)
      q = subst Pairs split (pairs_rear (take start rows) (drop start rows) (subst Pairs (sym (take-append-drop start rows)) (rows_from rows h).pairs))

      by : In r (row ∷ drop (start + 1) rows) → (r ≡ row) ⊎ IsAhead row r
      by (inl f) = inl f
      by (inr n) = inr (q.0 r n)

  -- none of the asset is behind the end
  not_behind : (r : Span) → In r (drop end rows) → row.asset ≡ r.asset → ⊥
  not_behind r m a = past (class (pairs_two rows (rows_from rows h).pairs row r here (In-drop r end rows m)))
      (turn (all_last (λ r. not (is_left (grown row 0 longest_route) r) ≡ false) rows end p.1 r m) (cases_Bool (is_left (grown row 0 longest_route) r)))
    where
      turn : not (is_left (grown row 0 longest_route) r) ≡ false → (is_left (grown row 0 longest_route) r ≡ true) ⊎ (is_left (grown row 0 longest_route) r ≡ false) → IsLeft (grown row 0 longest_route) r
      turn k (inl t) = left_from (grown row 0 longest_route) r t
      turn k (inr t) = absurd (both_ways (not (is_left (grown row 0 longest_route) r)) k (ap not t))

      class : (row ≡ r) ⊎ Fits row r → row.class ≡ r.class
      class (inl k) = ap (λ z. z.class) k
      class (inr (inl k)) = k.one_class a
      class (inr (inr k)) = sym (k.one_class (sym a))

      past : row.class ≡ r.class → IsLeft (grown row 0 longest_route) r → ⊥
      past c k = let t = left_place (grown row 0 longest_route) r k c a in let f = (rows_from rows h).full r (In-drop r end rows m) in let u = f.some in let v = f.short in omega (arith, t, u, v)

  begun : start < end
  begun = by (cases_lt start end)
    where
      by : (start < end) ⊎ (end ≤ start) → start < end
      by (inl k) = k
      by (inr k) = absurd (not_behind row (subst (In row) (sym (drop_split rows end start k)) (In-append_right row (slice_range rows end start) (drop start rows) (subst (In row) (sym split) (inl refl)))) refl)

  of_asset : (r : Span) → In r (slice_range rows start end) → row.asset ≡ r.asset
  of_asset r m = by (later r (In-take r (end - start) (drop start rows) m))
    where
      in_front : In r (take end rows)
      in_front = let b = begun in subst (In r) (up_to rows start end (omega (arith, b))) (In-append_right r (take start rows) (slice_range rows start end) m)

      not_left : IsLeft (grown row 0 longest_route) r → ⊥
      not_left k = both_ways (is_left (grown row 0 longest_route) r) (not-true (is_left (grown row 0 longest_route) r) (all_first (λ r. not (is_left (grown row 0 longest_route) r) ≡ true) rows end p.0 r in_front)) (left_is (grown row 0 longest_route) r k)

      ahead : IsLeft row r → row.asset ≡ r.asset
      ahead (by_class k) = absurd (not_left (by_class k))
      ahead (by_asset c k) = absurd (not_left (by_asset c k))
      ahead (by_place c a k) = a

      by : (r ≡ row) ⊎ IsAhead row r → row.asset ≡ r.asset
      by (inl k) = ap (λ z. z.asset) (sym k)
      by (inr k) = ahead k.left

  pub block_found : IsBlock rows start end
  block_found = record {
    some = begun;
    own = λ q r m n. sym (of_asset q m) ∙ of_asset r n;
    others = λ q r m n a. not_behind r n (of_asset q m ∙ a);
  }
