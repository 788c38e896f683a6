-- Rows in front of a stretch and those behind it, as the rows of one route.
use Rattle.std.proofs.Common.{◌≡◌, ℕ, ◌+◌, ◌-◌, ◌<◌, Bool, true, false, ◌⊎◌, inl, inr, List, refl, sym, ap, subst, ◌∙◌, arith}
use Rattle.std.specs.Prelude.{◌&&◌, not, nat_lt, nat_le}
use Rattle.std.specs.List.{list_all, flat_map}
use Rattle.std.specs.Cmp.Lexicographic.{bytes_decides}
use Rattle.std.proofs.lemmas.Bool.{or_left, or_right, cases_eq, ne_eqb, leb-true, le-leb, le-ltb, lt-ltb}
use Rattle.lrs_measure.specs.Texts.{Name}
use Rattle.lrs_measure.specs.Limits.{longest_route}
use Rattle.lrs_measure.specs.Lists.{In}
use Rattle.lrs_measure.proofs.Members.{all_at, all_of, two_at}
use Rattle.lrs_events.specs.declared.side.LinkSide.{LinkSide}
use Rattle.lrs_events.specs.declared.span.Span.{Span}
use Rattle.lrs_events.specs.Members.{has_member, is_member}
use Rattle.lrs_events.specs.Spans.{are_rows, are_apart}
use Rattle.lrs_events.specs.Row.Clips.{clip}
use Rattle.lrs_events.specs.Row.Joins.{end_by, have_room, is_of_one_class, are_of_one_class, IsJoin}
use Rattle.lrs_events.proofs.Row.Pieces.{clip_pieces, clip_bounds, clips_hold, found_in}
use Rattle.lrs_events.proofs.Row.Rows.{rows_from, apart_from}
use Rattle.lrs_events.proofs.Row.Unique.{IsOver, over, its_sides, some_side, has_some, kept}
use Rattle.lrs_events.specs.RouteSpans.Realignment.{have_room_behind, IsRealigned}
use Rattle.lrs_events.proofs.RouteSpans.Said.{its_end, said_by}

-- rows of one asset are of one class
one_class : (rows : List Span) (r q : Span) → are_rows rows ≡ true → In r rows → In q rows → r.asset ≡ q.asset → r.class ≡ q.class
one_class rows r q h m n e = by (two_at are_apart r q rows (kept rows h).apart m n)
  where
    full : (x : Span) → In x rows → x.from < x.to
    full x k = ((rows_from rows h).full x k).some

    by : (r ≡ q) ⊎ ((are_apart r q ≡ true) ⊎ (are_apart q r ≡ true)) → r.class ≡ q.class
    by (inl same) = ap (λ z. z.class) same
    by (inr (inl k)) = (apart_from r q (full r m) (full q n) k).one_class e
    by (inr (inr k)) = sym ((apart_from q r (full q n) (full r m) k).one_class (sym e))

module _ (from to len : ℕ) (rows front rear : List Span) (h : are_rows rows ≡ true) (f : front ≡ flat_map (clip 0 from) rows) (k : are_rows rear ≡ true)
    (b : (class : Name) (asset j : ℕ) (s : LinkSide) → is_member rear class asset j s ≡ is_member rows class asset (j + to) s) where
  -- a row in front is a part of one of these
  front_of : (p : Span) → In p front → (r : Span) × In r rows × In p (clip 0 from r)
  front_of p m = found_in (clip 0 from) p rows (subst (In p) f m)

  -- ... and one behind says what one of these does
  rear_of : (q : Span) → In q rear → (r : Span) × In r rows × IsOver r q.class q.asset ((q.to - 1) + to)
  rear_of q m = said_by rows q.class q.asset ((q.to - 1) + to) (some_side q.side) (sym (b q.class q.asset (q.to - 1) (some_side q.side)) ∙ its_end q rear m ((rows_from rear k).full q m).some)

  pub front_ends : end_by (from + len) front ≡ true
  front_ends = all_of (λ r. nat_le r.to (from + len)) front (λ p m.
      let r = front_of p m in
      let e = (clip_bounds 0 from r.0 p r.2).1 in
      le-leb p.to (from + len) (omega (arith, e)))

  pub rear_fits : have_room_behind to (from + len) rows ≡ true → have_room (from + len) rear ≡ true
  rear_fits room = all_of (λ r. nat_le (r.to + (from + len)) longest_route) rear (λ q m.
      let r = rear_of q m in
      let some = ((rows_from rear k).full q m).some in
      let high = r.2.high in
      let short = leb-true ((r.0.to - to) + (from + len)) longest_route (all_at (λ r. nat_le ((r.to - to) + (from + len)) longest_route) r.0 rows room r.1) in
      le-leb (q.to + (from + len)) longest_route (omega (arith, some, high, short)))

  pub of_one_class : are_of_one_class front rear ≡ true
  of_one_class = all_of (λ p. list_all (is_of_one_class p) rear) front (λ p m. all_of (is_of_one_class p) rear (λ q n. by p q m n (cases_eq p.asset q.asset)))
    where
      by : (p q : Span) → In p front → In q rear → (p.asset ≡ q.asset) ⊎ (p.asset ≡ q.asset → ⊥) → is_of_one_class p q ≡ true
      by p q m n (inr e) = or_left _ _ (ap not (ne_eqb p.asset q.asset e))
      by p q m n (inl e) =
          let x = front_of p m in
          let piece = (clip_pieces 0 from x.0).each p x.2 in
          let y = rear_of q n in
          or_right _ _ ((bytes_decides p.class q.class).1 (piece.of_class ∙ one_class rows x.0 y.0 h x.1 y.1 (sym piece.of_asset ∙ e ∙ sym y.2.of_asset) ∙ y.2.of_class))

  and_true : (a : Bool) → (a && true) ≡ a
  and_true true = refl
  and_true false = refl

  and_false : (a : Bool) → (a && false) ≡ false
  and_false true = refl
  and_false false = refl

  in_front : (class : Name) (asset j : ℕ) (s : LinkSide) → is_member front class asset j s ≡ (is_member rows class asset j s && nat_lt j from)
  in_front class asset j s = (λ i. is_member (f i) class asset j s) ∙ clips_hold 0 from rows class asset j s ∙ (λ i. is_member rows class asset j s && (le-leb 0 j (omega arith) i && nat_lt j from))

  pub is_realigned : (new : List Span) → IsJoin (from + len) front rear new → IsRealigned from to len rows new
  is_realigned new joined = record {
    before = λ class asset j s l.
        joined.before class asset j s (omega (arith, l)) ∙ in_front class asset j s ∙ ap (λ t. is_member rows class asset j s && t) (lt-ltb j from l) ∙ and_true (is_member rows class asset j s);
    inside = λ class asset j s l.
        joined.before class asset (j + from) s (omega (arith, l)) ∙ in_front class asset (j + from) s
        ∙ ap (λ t. is_member rows class asset (j + from) s && t) (le-ltb (j + from) from (omega arith)) ∙ and_false (is_member rows class asset (j + from) s);
    behind = λ class asset j s. joined.behind class asset j s ∙ b class asset j s;
  }
