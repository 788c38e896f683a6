-- The rows of an asset on a stretch.
use Rattle.std.proofs.Common.{◌≡◌, ℕ, ◌+◌, ◌-◌, ◌<◌, ◌≤◌, true, false, ◌⊎◌, inl, inr, List, length, get_or, take, drop, refl, sym, ap, subst, arith}
use Rattle.std.specs.Prelude.{not, slice_range}
use Rattle.std.specs.List.Sorted.{IsPartitionPoint}
use Rattle.std.proofs.lemmas.Bool.{both_ways, not-true, cases_Bool, cases_lt, cases_order}
use Rattle.std.proofs.lemmas.List.{drop-take}
use Rattle.lrs_measure.specs.Lists.{In}
use Rattle.lrs_measure.proofs.Members.{In-take, In-drop}
use Rattle.lrs_measure.proofs.Places.{all_first, all_last, member_at}
use Rattle.lrs_events.specs.declared.span.Span.{Span}
use Rattle.lrs_events.specs.Spans.{are_rows}
use Rattle.lrs_events.specs.Row.Order.{IsLeft, by_class, by_asset, by_place, IsStretch}
use Rattle.lrs_events.specs.Row.Clips.{is_left}
use Rattle.lrs_events.proofs.Row.Unique.{less_one}
use Rattle.lrs_events.proofs.Row.Rows.{IsFull, NameCases, name_cases, before, same, behind, left_trans, rows_from}
use Rattle.lrs_events.proofs.Row.Places.{left_from, left_is}

-- ---- the rows of the stretch

In-slice_first : (x : Span) (rows : List Span) (start end : ℕ) → start ≤ end → In x (slice_range rows start end) → In x (take end rows)
In-slice_first x rows start end h m =
    let e : start + (end - start) ≡ end = omega (arith, h) in
    subst (λ n. In x (take n rows)) e (In-drop x start (take (start + (end - start)) rows) (subst (In x) (sym (drop-take start (end - start) rows)) m))

In-slice_last : (x : Span) (rows : List Span) (start end : ℕ) → In x (slice_range rows start end) → In x (drop start rows)
In-slice_last x rows start end m = In-take x (end - start) (drop start rows) m

-- neither in front of the stretch nor behind it
meets : (r stretch : Span) → (IsLeft r stretch → ⊥) → (IsLeft stretch r → ⊥) → (r.class ≡ stretch.class) × (r.asset ≡ stretch.asset)
meets r s h k = by (name_cases r.class s.class)
  where
    number : r.class ≡ s.class → (r.asset ≡ s.asset) ⊎ ((r.asset < s.asset) ⊎ (s.asset < r.asset)) → (r.class ≡ s.class) × (r.asset ≡ s.asset)
    number c (inl e) = (c, e)
    number c (inr (inl l)) = absurd (h (by_asset c l))
    number c (inr (inr l)) = absurd (k (by_asset (sym c) l))

    by : NameCases r.class s.class → (r.class ≡ s.class) × (r.asset ≡ s.asset)
    by (before e) = absurd (h (by_class e))
    by (same c) = number c (cases_order r.asset s.asset)
    by (behind e) = absurd (k (by_class e))

pub left_itself : (r : Span) → r.from < r.to → IsLeft r r → ⊥
left_itself r f (by_class h) = less_one r.class r.class h refl
left_itself r f (by_asset c h) = omega (arith, h)
left_itself r f (by_place c a h) = omega (arith, f, h)

pub stretched : (rows : List Span) (stretch : Span) (start end : ℕ) → are_rows rows ≡ true → start ≤ end
    → IsPartitionPoint (λ r. is_left r stretch ≡ true) (λ r. is_left r stretch ≡ false) rows start
    → IsPartitionPoint (λ r. not (is_left stretch r) ≡ true) (λ r. not (is_left stretch r) ≡ false) rows end → IsStretch rows stretch start end
stretched rows stretch start end h o p q = record {
  before = λ r m. left_from r stretch (all_first (λ r. is_left r stretch ≡ true) rows start p.0 r m);
  of_class = λ r m. (both r m).0;
  of_asset = λ r m. (both r m).1;
  behind = λ r m. left_from stretch r (turn r (all_last (λ r. not (is_left stretch r) ≡ false) rows end q.1 r m) (cases_Bool (is_left stretch r)));
}
  where
    turn : (r : Span) → not (is_left stretch r) ≡ false → (is_left stretch r ≡ true) ⊎ (is_left stretch r ≡ false) → is_left stretch r ≡ true
    turn r e (inl k) = k
    turn r e (inr k) = absurd (both_ways (not (is_left stretch r)) e (ap not k))

    both : (r : Span) → In r (slice_range rows start end) → (r.class ≡ stretch.class) × (r.asset ≡ stretch.asset)
    both r m = meets r stretch
        (λ l. both_ways (is_left r stretch) (all_last (λ r. is_left r stretch ≡ false) rows start p.1 r (In-slice_last r rows start end m)) (left_is r stretch l))
        (λ l. both_ways (is_left stretch r) (not-true (is_left stretch r) (all_first (λ r. not (is_left stretch r) ≡ true) rows end q.0 r (In-slice_first r rows start end o m))) (left_is stretch r l))

-- the two ends are in order
pub in_order : (rows : List Span) (stretch : Span) (start end : ℕ) → are_rows rows ≡ true → stretch.from < stretch.to → start ≤ length rows
    → IsPartitionPoint (λ r. is_left r stretch ≡ true) (λ r. is_left r stretch ≡ false) rows start
    → IsPartitionPoint (λ r. not (is_left stretch r) ≡ true) (λ r. not (is_left stretch r) ≡ false) rows end → start ≤ end
in_order rows stretch start end h f w p q = by (cases_lt end start)
  where
    clash : (r : Span) → IsFull r → is_left r stretch ≡ true → not (is_left stretch r) ≡ false → (is_left stretch r ≡ true) ⊎ (is_left stretch r ≡ false) → ⊥
    clash r g a b (inl k) = left_itself stretch f (left_trans stretch r stretch g (left_from stretch r k) (left_from r stretch a))
    clash r g a b (inr k) = both_ways (not (is_left stretch r)) b (ap not k)

    by : (end < start) ⊎ (start ≤ end) → start ≤ end
    by (inr l) = l
    by (inl l) =
        let r = get_or rows end stretch in
        absurd (clash r ((rows_from rows h).full r (member_at rows end stretch (omega (arith, l, w)))) (p.0 end stretch (omega arith) l) (q.1 end stretch (omega arith) (omega (arith, l, w))) (cases_Bool (is_left stretch r)))
