-- Rows in order, apart and merged are the fewest.
use Rattle.std.proofs.Common.{◌≡◌, ℕ, ◌+◌, ◌-◌, ◌<◌, ◌≤◌, true, false, ◌⊎◌, inl, inr, List, [], ◌∷◌, ◌++◌, length, min, max, refl, sym, ap, subst, ◌∙◌, arith}
use Rattle.std.specs.Prelude.{◌&&◌, not, nat_le, nat_eq}
use Rattle.std.proofs.lemmas.Bool.{both_ways, not-true, and_from, or_cases, leb-true, eq-eqb, cases_Bool, cases_lt}
use Rattle.lrs_measure.specs.Lists.{In, each_two}
use Rattle.lrs_measure.specs.Texts.{Name}
use Rattle.lrs_measure.proofs.Members.{any_found, any_of, all_of, two_at, split_at, In-without, length-without}
use Rattle.lrs_events.specs.declared.side.LinkSide.{LinkSide}
use Rattle.lrs_events.specs.declared.span.Span.{Span}
use Rattle.lrs_events.specs.Spans.{same_side, are_apart, are_rows}
use Rattle.lrs_events.specs.Members.{has_side, has_member, is_member, SameMembers}
use Rattle.lrs_events.specs.Row.Members.{are_off, begins_at, NoneIsShorter}
use Rattle.lrs_events.proofs.Row.Unique.{IsOver, over, its_sides, held_there, counterpart, same_sides, is_same, IsApart, ahead, behind, touches, apart, kept}
use Rattle.lrs_events.proofs.Row.Rows.{IsFull, IsAhead, Pairs, rows_from, left_place}

-- ---- rows that are off one another

off_alone : (r q : Span) (class : Name) (asset j : ℕ) → are_off r q ≡ true → IsOver r class asset j → IsOver q class asset j → ⊥
off_alone r q class asset j h o u = by (or_cases (not (nat_eq r.asset q.asset)) (nat_le (min r.to q.to) (max r.from q.from)) h)
  where
    by : (not (nat_eq r.asset q.asset) ≡ true) ⊎ (nat_le (min r.to q.to) (max r.from q.from) ≡ true) → ⊥
    by (inl k) = both_ways (nat_eq r.asset q.asset) (not-true (nat_eq r.asset q.asset) k) (eq-eqb r.asset q.asset (o.of_asset ∙ sym u.of_asset))
    by (inr k) = let l = leb-true (min r.to q.to) (max r.from q.from) k in let a = o.low in let b = o.high in let c = u.low in let d = u.high in omega (arith, l, a, b, c, d)

one_off : (rows : List Span) (r q : Span) (class : Name) (asset j : ℕ) → each_two are_off rows ≡ true → In r rows → In q rows → IsOver r class asset j → IsOver q class asset j → r ≡ q
one_off rows r q class asset j h m n o u = by (two_at are_off r q rows h m n)
  where
    by : (r ≡ q) ⊎ ((are_off r q ≡ true) ⊎ (are_off q r ≡ true)) → r ≡ q
    by (inl e) = e
    by (inr (inl k)) = absurd (off_alone r q class asset j k o u)
    by (inr (inr k)) = absurd (off_alone q r class asset j k u o)

-- where such a row is over a millimetre, its sides are what is held there
held_off : (rows : List Span) (r : Span) (class : Name) (asset j : ℕ) (s : LinkSide) → each_two are_off rows ≡ true → In r rows → IsOver r class asset j → is_member rows class asset j s ≡ has_side r.side s
held_off rows r class asset j s h m o = by (cases_Bool (has_side r.side s)) (cases_Bool (is_member rows class asset j s))
  where
    by : (has_side r.side s ≡ true) ⊎ (has_side r.side s ≡ false) → (is_member rows class asset j s ≡ true) ⊎ (is_member rows class asset j s ≡ false)
        → is_member rows class asset j s ≡ has_side r.side s
    by (inl a) (inl b) = b ∙ sym a
    by (inr a) (inr b) = b ∙ sym a
    by (inl a) (inr b) = absurd (both_ways (is_member rows class asset j s) b (any_of (λ q. has_member q class asset j s) r rows m (its_sides r class asset j s o ∙ a)))
    by (inr a) (inl b) =
        let found = any_found (λ q. has_member q class asset j s) rows b in
        let same = one_off rows r found.0 class asset j h m found.1 o (over found.0 class asset j s found.2) in
        absurd (both_ways (has_side r.side s) a (sym (its_sides r class asset j s o) ∙ ap (λ q. has_member q class asset j s) same ∙ found.2))

-- ---- each row begins with one of the others

pub record BeginAlike (x y : Span) : Type 0 where
  pub asset : y.asset ≡ x.asset
  pub from : y.from ≡ x.from

module _ (xs ys : List Span) (h : are_rows xs ≡ true) (k : each_two are_off ys ≡ true) (same : SameMembers xs ys) where
  back : SameMembers ys xs
  back class asset j s = sym (same class asset j s)

  -- rows of the two lists over one millimetre are of one side
  on_one_side : (x q : Span) (class : Name) (asset j : ℕ) → In x xs → In q ys → IsOver x class asset j → IsOver q class asset j → x.side ≡ q.side
  on_one_side x q class asset j m n o u = same_sides x.side q.side (λ s.
      sym (held_there xs x class asset j s (kept xs h).apart m o) ∙ same class asset j s ∙ held_off ys q class asset j s k n u)

  touching : (p x : Span) → p.from < x.from → x.from < x.to → x.from ≤ p.to → p.side ≡ x.side → IsApart p x → ⊥
  touching p x f g t s (ahead l) = omega (arith, l, t)
  touching p x f g t s (behind l) = omega (arith, l, f, g)
  touching p x f g t s (touches e l) = both_ways (same_side p.side x.side) l (is_same p.side x.side s)

  touching_too : (p x : Span) → p.from < x.from → x.from < x.to → x.from ≤ p.to → p.side ≡ x.side → IsApart x p → ⊥
  touching_too p x f g t s (ahead l) = omega (arith, l, f, g)
  touching_too p x f g t s (behind l) = omega (arith, l, t)
  touching_too p x f g t s (touches e l) = both_ways (same_side x.side p.side) l (is_same x.side p.side (sym s))

  starts_with : (x : Span) → In x xs → (y : Span) × In y ys × BeginAlike x y
  starts_with x m = (q.0, q.1, record { asset = q.2.of_asset; from = start (cases_lt q.0.from x.from) })
    where
      full : x.from < x.to
      full = ((rows_from xs h).full x m).some

      here : IsOver x x.class x.asset x.from
      here = record { of_class = refl; of_asset = refl; low = omega arith; high = full }

      q : (y : Span) × In y ys × IsOver y x.class x.asset x.from
      q = counterpart xs ys x x.from same m here

      start : (q.0.from < x.from) ⊎ (x.from ≤ q.0.from) → q.0.from ≡ x.from
      start (inr l) = let a = q.2.low in omega (arith, l, a)
      start (inl l) = absurd (by (two_at are_apart p.0 x xs (kept xs h).apart p.1 m))
        where
          before : IsOver q.0 q.0.class q.0.asset (x.from - 1)
          before = let a = q.2.high in record { of_class = refl; of_asset = refl; low = omega (arith, l); high = omega (arith, a, l) }

          p : (y : Span) × In y xs × IsOver y q.0.class q.0.asset (x.from - 1)
          p = counterpart ys xs q.0 (x.from - 1) back q.1 before

          its : p.0.side ≡ x.side
          its = on_one_side p.0 q.0 q.0.class q.0.asset (x.from - 1) p.1 q.1 p.2 before ∙ sym (on_one_side x q.0 x.class x.asset x.from m q.1 here q.2)

          low : p.0.from < x.from
          low = let a = p.2.low in omega (arith, a, l)

          high : x.from ≤ p.0.to
          high = let a = p.2.high in omega (arith, a, l)

          by : (p.0 ≡ x) ⊎ ((are_apart p.0 x ≡ true) ⊎ (are_apart x p.0 ≡ true)) → ⊥
          by (inl e) = let f : p.0.from ≡ x.from = ap (λ z. z.from) e in omega (arith, f, low)
          by (inr (inl e)) = touching p.0 x low full high its (apart p.0 x e (p.2.of_asset ∙ q.2.of_asset))
          by (inr (inr e)) = touching_too p.0 x low full high its (apart x p.0 e (sym (p.2.of_asset ∙ q.2.of_asset)))

-- ---- the count

-- no two of these begin together
begin_apart : (x z : Span) → x.from < x.to → IsAhead x z → x.asset ≡ z.asset → x.from ≡ z.from → ⊥
begin_apart x z f a e g = let l = left_place x z a.left (a.one_class e) e in omega (arith, l, f, g)

pigeons : (xs ys : List Span) → ((x : Span) → In x xs → IsFull x) → Pairs xs → ((x : Span) → In x xs → (y : Span) × In y ys × BeginAlike x y) → length xs ≤ length ys
pigeons [] ys f p h = omega arith
pigeons (x ∷ xs) ys f p h =
    let y = h x (inl refl) in
    let s = split_at y.0 ys y.1 in
    let less = pigeons xs (s.0 ++ s.1) (λ z m. f z (inr m)) p.1 (λ z m. later y.0 s.0 s.1 z y.2 m (h z (inr m)) s.2) in
    let e : length ys ≡ length (s.0 ++ s.1) + 1 = ap length s.2 ∙ length-without y.0 s.0 s.1 in
    omega (arith, less, e)
  where
    later : (y : Span) (front rear : List Span) (z : Span) → BeginAlike x y → In z xs → (w : Span) × In w ys × BeginAlike z w → ys ≡ front ++ (y ∷ rear) → (w : Span) × In w (front ++ rear) × BeginAlike z w
    later y front rear z b m w e = by (In-without w.0 y front rear (subst (In w.0) e w.1))
      where
        by : (w.0 ≡ y) ⊎ In w.0 (front ++ rear) → (v : Span) × In v (front ++ rear) × BeginAlike z v
        by (inl g) = absurd (begin_apart x z (f x (inl refl)).some (p.0 z m) (sym b.asset ∙ ap (λ v. v.asset) (sym g) ∙ w.2.asset) (sym b.from ∙ ap (λ v. v.from) (sym g) ∙ w.2.from))
        by (inr n) = (w.0, n, w.2)

pub none_is_shorter : NoneIsShorter
none_is_shorter xs ys h k same = record {
  starts = all_of (begins_at ys) xs (λ x m. let y = starts_with xs ys h k same x m in
      any_of (λ s. nat_eq s.asset x.asset && nat_eq s.from x.from) y.0 ys y.1 (and_from (nat_eq y.0.asset x.asset) (nat_eq y.0.from x.from) (eq-eqb y.0.asset x.asset y.2.asset) (eq-eqb y.0.from x.from y.2.from)));
  fewest = let r = rows_from xs h in pigeons xs ys r.full r.pairs (starts_with xs ys h k same);
}
