-- Removed rows and inserted rows.
use Rattle.std.proofs.Common.{◌≡◌, ℕ, ◌+◌, ◌-◌, ◌≤◌, true, ◌⊎◌, inl, inr, List, [], ◌∷◌, ◌++◌, length, take, drop, refl, sym, ap, subst, ◌∙◌, arith}
use Rattle.std.specs.Prelude.{slice_range}
use Rattle.std.specs.List.{splice}
use Rattle.std.proofs.lemmas.List.{length-take, length-drop, length-append}
use Rattle.lrs_measure.specs.Lists.{In}
use Rattle.lrs_measure.proofs.Members.{all_at, In-append_left, In-append_right, In-append_cases, In-take, In-drop}
use Rattle.lrs_measure.proofs.Places.{in_three}
use Rattle.lrs_events.specs.declared.span.Span.{Span}
use Rattle.lrs_events.specs.Spans.{are_rows, is_row, span_before}
use Rattle.lrs_events.specs.Changes.{changed}
use Rattle.lrs_events.specs.Row.Members.{leaves_free, is_free, IsMore}
use Rattle.lrs_events.specs.Row.Order.{IsPlace, IsAfter, IsBefore, alone, joined, IsStart, IsEnd, grown}
use Rattle.lrs_events.specs.Row.Changes.{IsChange}
use Rattle.lrs_events.proofs.Row.Rows.{IsFull, IsAhead, AreRows, full_from, rows_from, pairs_rear, pairs_across}
use Rattle.lrs_events.proofs.Row.Places.{IsFree, free_from, has_come}
use Rattle.lrs_events.proofs.Row.Stretches.{left_itself}
use Rattle.lrs_events.proofs.Row.Coming.{begins, ends}
use Rattle.lrs_events.proofs.Row.Changing.{changed_is}

not_ahead : (r : Span) → IsFull r → IsAhead r r → ⊥
not_ahead r f a = left_itself r f.some a.left

-- rows that stand in the place of others
pub exchange : (front gone come rear : List Span) → AreRows (front ++ (gone ++ rear)) → ((r : Span) → In r come → In r (front ++ (gone ++ rear)) → ⊥) → IsChange (front ++ (gone ++ rear)) gone come (front ++ (come ++ rear))
exchange front gone come rear h fresh = record {
  rows = λ r. (λ m. to r (In-append_cases r front (come ++ rear) m), λ m. from r m);
  were = λ r m. In-append_right r front (gone ++ rear) (In-append_left r gone rear m);
  fresh = fresh;
}
  where
    two : (r : Span) → In r come ⊎ In r rear → (In r (front ++ (gone ++ rear)) × (In r gone → ⊥)) ⊎ In r come
    two r (inl m) = inr m
    two r (inr m) = let o = In-append_right r front (gone ++ rear) (In-append_right r gone rear m) in inl (o, λ n. not_ahead r (h.full r o) (pairs_across gone rear r r (pairs_rear front (gone ++ rear) h.pairs) n m))

    to : (r : Span) → In r front ⊎ In r (come ++ rear) → (In r (front ++ (gone ++ rear)) × (In r gone → ⊥)) ⊎ In r come
    to r (inl m) = let o = In-append_left r front (gone ++ rear) m in inl (o, λ n. not_ahead r (h.full r o) (pairs_across front (gone ++ rear) r r h.pairs m (In-append_left r gone rear n)))
    to r (inr m) = two r (In-append_cases r come rear m)

    back : (r : Span) → (In r gone → ⊥) → In r gone ⊎ In r rear → In r (front ++ (come ++ rear))
    back r n (inl m) = absurd (n m)
    back r n (inr m) = In-append_right r front (come ++ rear) (In-append_right r come rear m)

    front_or : (r : Span) → (In r gone → ⊥) → In r front ⊎ In r (gone ++ rear) → In r (front ++ (come ++ rear))
    front_or r n (inl m) = In-append_left r front (come ++ rear) m
    front_or r n (inr m) = back r n (In-append_cases r gone rear m)

    from : (r : Span) → (In r (front ++ (gone ++ rear)) × (In r gone → ⊥)) ⊎ In r come → In r (front ++ (come ++ rear))
    from r (inl m) = front_or r m.1 (In-append_cases r front (gone ++ rear) m.0)
    from r (inr m) = In-append_right r front (come ++ rear) (In-append_left r come rear m)

pub spliced : (rows come : List Span) (start end : ℕ) → start ≤ end → are_rows rows ≡ true → ((r : Span) → In r come → In r rows → ⊥) → IsChange rows (slice_range rows start end) come (splice rows start end come)
spliced rows come start end o h fresh =
    let w = in_three rows start end o in
    subst (λ (z : List Span). IsChange z (slice_range rows start end) come (splice rows start end come)) (sym w)
    (exchange (take start rows) (slice_range rows start end) come (drop end rows) (subst AreRows w (rows_from rows h)) (λ r m n. fresh r m (subst (In r) (sym w) n)))

-- a row over what is free is none of the rows
pub over_free : (rows : List Span) (span : Span) (from to : ℕ) → is_row span ≡ true → is_free rows span ≡ true → from ≤ span.from → span.to ≤ to → (r : Span) → In r (grown span from to ∷ []) → In r rows → ⊥
over_free rows span from to h f low high r (inl e) m = by (free.off (ap (λ z. z.asset) e))
  where
    free : IsFree span r
    free = free_from span r (all_at (leaves_free span) r rows f m)

    by : (r.to ≤ span.from) ⊎ (span.to ≤ r.from) → ⊥
    by (inl k) = let t : r.to ≡ to = ap (λ z. z.to) e in let s = (full_from span h).some in omega (arith, k, t, s, high)
    by (inr k) = let t : r.from ≡ from = ap (λ z. z.from) e in let s = (full_from span h).some in omega (arith, k, t, s, low)
over_free rows span from to h f low high r (inr e) m = absurd e

starts_low : (rows : List Span) (at : ℕ) (span : Span) (start from : ℕ) → are_rows rows ≡ true → IsStart rows at span start from → from ≤ span.from
starts_low rows at span start from h s = begins (take start rows) s.gone span from (λ r m. (rows_from rows h).full r (In-take r at rows (subst (In r) (sym s.parts) m))) s.after

ends_high : (rows : List Span) (at : ℕ) (span : Span) (end to : ℕ) → are_rows rows ≡ true → is_row span ≡ true → IsEnd rows at span end to → span.to ≤ to
ends_high rows at span end to h f s = (ends (drop end rows) s.gone span to (full_from span f) (λ r m. (rows_from rows h).full r (In-drop r at rows (subst (In r) (sym s.parts) m))) s.before).0

-- what adding a span makes of rows
pub record HasAdded (rows : List Span) (span : Span) (gone come : List Span) : Type 0 where
  pub few : length gone ≤ 2
  pub kept : are_rows (changed span_before gone come rows) ≡ true
  pub change : IsChange rows gone come (changed span_before gone come rows)
  pub more : IsMore rows span (changed span_before gone come rows)

one_start : (front : List Span) (span : Span) (ls : List Span) (from : ℕ) → IsAfter front span ls from → length ls ≤ 1
one_start front span _ _ (alone n) = omega arith
one_start front span _ _ (joined r j) = omega arith

one_end : (rear : List Span) (span : Span) (rs : List Span) (to : ℕ) → IsBefore rear span rs to → length rs ≤ 1
one_end rear span _ _ (alone n) = omega arith
one_end rear span _ _ (joined r j) = omega arith

few_gone : (rows : List Span) (at : ℕ) (span : Span) (start from end to : ℕ) → at ≤ length rows → end ≤ length rows → IsStart rows at span start from → IsEnd rows at span end to → length (slice_range rows start end) ≤ 2
few_gone rows at span start from end to h k s e =
    let a : length (take at rows) ≡ length (take start rows) + length s.gone = ap length s.parts ∙ length-append (take start rows) s.gone in
    let b : length (drop at rows) ≡ length e.gone + length (drop end rows) = ap length e.parts ∙ length-append e.gone (drop end rows) in
    let c = one_start (take start rows) span s.gone from s.after in
    let d = one_end (drop end rows) span e.gone to e.before in
    let f = length-take at rows in
    let g = length-take start rows in
    let l = s.low in
    let m = e.high in
    let n = length-take (end - start) (drop start rows) in
    omega (arith, a, b, c, d, f, g, h, k, l, m, n, length-drop {A = Span})

pub has_added : (rows : List Span) (at : ℕ) (span : Span) (start from end to : ℕ) (gone come : List Span) → at ≤ length rows → end ≤ length rows
    → are_rows rows ≡ true → is_row span ≡ true → is_free rows span ≡ true → IsPlace rows at span → IsStart rows at span start from → IsEnd rows at span end to
    → gone ≡ slice_range rows start end → come ≡ grown span from to ∷ [] → HasAdded rows span gone come
has_added rows at span start from end to gone come i j h f free p s e g k =
    let c = has_come rows rows rows rows at span start from end to refl refl refl h f free p s e in
    let new = splice rows start end (grown span from to ∷ []) in
    let a = s.low in
    let b = e.high in
    let change : IsChange rows (slice_range rows start end) (grown span from to ∷ []) new =
    spliced rows (grown span from to ∷ []) start end (omega (arith, a, b)) h (over_free rows span from to f free (starts_low rows at span start from h s) (ends_high rows at span end to h f e)) in
    let made : changed span_before gone come rows ≡ new =
    (λ n. changed span_before (g n) (k n) rows) ∙ changed_is rows (slice_range rows start end) (grown span from to ∷ []) new h c.kept refl change in
    record {
      few = subst (λ (z : List Span). length z ≤ 2) (sym g) (few_gone rows at span start from end to i j s e);
      kept = subst (λ (z : List Span). are_rows z ≡ true) (sym made) c.kept;
      change = subst (λ (z : List Span). IsChange rows gone come z) (sym made) (subst (λ (z : List Span). IsChange rows z come new) (sym g) (subst (λ (z : List Span). IsChange rows (slice_range rows start end) z new) (sym k) change));
      more = subst (λ (z : List Span). IsMore rows span z) (sym made) c.more;
    }
