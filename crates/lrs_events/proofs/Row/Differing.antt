-- What two lists of rows do not share.
use Rattle.std.proofs.Common.{◌≡◌, ℕ, ◌+◌, ◌<◌, ◌≤◌, Bool, true, false, cond, ◌⊎◌, inl, inr, List, [], ◌∷◌, length, get_or, take, drop, refl, sym, ap, subst, ◌∙◌, arith}
use Rattle.std.specs.Prelude.{◌&&◌, not, nat_eq}
use Rattle.std.specs.List.Sorted.{IsPartitionPoint}
use Rattle.std.specs.Cmp.Lexicographic.{bytes_decides}
use Rattle.std.proofs.lemmas.Bool.{both_ways, and_parts, eqb-true, eq-eqb, cases_Bool, false_from_ne_true}
use Rattle.std.proofs.lemmas.List.{drop_more, drop_all, take-append-drop}
use Rattle.lrs_measure.specs.Texts.{same_name}
use Rattle.lrs_measure.specs.Lists.{In}
use Rattle.lrs_measure.proofs.Members.{any_found, any_of, In-append_cases, In-drop}
use Rattle.lrs_measure.proofs.Places.{all_first, all_last}
use Rattle.lrs_events.specs.declared.span.Span.{Span}
use Rattle.lrs_events.specs.Spans.{are_rows, span_before, same_side}
use Rattle.lrs_events.specs.Changes.{same_row, has_row}
use Rattle.lrs_events.specs.Row.Changes.{IsChange, missing}
use Rattle.lrs_events.proofs.Row.Unique.{is_same, less_one}
use Rattle.lrs_events.proofs.Row.Rows.{Pairs, BeginsFirst, begins_class, begins_asset, begins_start, begins_first, sides_same, ahead_before, pairs_rear, rows_from}

pub one_row : (r s : Span) → same_row r s ≡ true → r ≡ s
one_row r s h =
    let a = and_parts (same_name r.class s.class && nat_eq r.asset s.asset && nat_eq r.from s.from && nat_eq r.to s.to) (same_side r.side s.side) h in
    let b = and_parts (same_name r.class s.class && nat_eq r.asset s.asset && nat_eq r.from s.from) (nat_eq r.to s.to) a.0 in
    let c = and_parts (same_name r.class s.class && nat_eq r.asset s.asset) (nat_eq r.from s.from) b.0 in
    let d = and_parts (same_name r.class s.class) (nat_eq r.asset s.asset) c.0 in
    let class = (bytes_decides r.class s.class).0 d.0 in
    let asset = eqb-true r.asset s.asset d.1 in
    let from = eqb-true r.from s.from c.1 in
    let to = eqb-true r.to s.to b.1 in
    let side = sides_same r.side s.side a.1 in
    λ i. record { asset = asset i; class = class i; from = from i; to = to i; side = side i }

row_itself : (r s : Span) → r ≡ s → same_row r s ≡ true
row_itself r s e = λ i. (bytes_decides r.class s.class).1 (ap (λ z. z.class) e) i && eq-eqb r.asset s.asset (ap (λ z. z.asset) e) i && eq-eqb r.from s.from (ap (λ z. z.from) e) i && eq-eqb r.to s.to (ap (λ z. z.to) e) i && is_same r.side s.side (ap (λ z. z.side) e) i

pub has_found : (rows : List Span) (r : Span) → has_row rows r ≡ true → In r rows
has_found rows r h = let f = any_found (λ s. same_row s r) rows h in subst (λ z. In z rows) (one_row f.0 r f.2) f.1

pub has_in : (rows : List Span) (r : Span) → In r rows → has_row rows r ≡ true
has_in rows r m = any_of (λ s. same_row s r) r rows m (row_itself r r refl)

not_first : (r : Span) → span_before r r ≡ true → ⊥
not_first r h = by (begins_first r r h)
  where
    by : BeginsFirst r r → ⊥
    by (begins_class k) = less_one r.class r.class k refl
    by (begins_asset c k) = omega (arith, k)
    by (begins_start c a k) = omega (arith, k)

-- by search
module _ (rows : List Span) (row : Span) (at : ℕ) (h : are_rows rows ≡ true) (p : IsPartitionPoint (λ r. span_before r row ≡ true) (λ r. span_before r row ≡ false) rows at) where
  not_front : In row (take at rows) → ⊥
  not_front m = not_first row (all_first (λ r. span_before r row ≡ true) rows at p.0 row m)

  pub has_none : length rows ≤ at → has_row rows row ≡ false
  has_none l = false_from_ne_true (has_row rows row) (λ e. by (In-append_cases row (take at rows) (drop at rows) (subst (In row) (sym (take-append-drop at rows)) (has_found rows row e))))
    where
      by : In row (take at rows) ⊎ In row (drop at rows) → ⊥
      by (inl m) = not_front m
      by (inr m) = subst (In row) (drop_all at rows l) m

  pub has_there : (r : Span) → at < length rows → r ≡ get_or rows at r → same_row r row ≡ has_row rows row
  has_there r l e = by (cases_Bool (same_row r row)) (cases_Bool (has_row rows row))
    where
      split : drop at rows ≡ r ∷ drop (at + 1) rows
      split = drop_more rows at r l ∙ (λ i. sym e i ∷ drop (at + 1) rows)

      here : In r rows
      here = In-drop r at rows (subst (In r) (sym split) (inl refl))

      no_more : In row (drop (at + 1) rows) → ⊥
      no_more m =
          let a = rows_from rows h in
          let q : Pairs (r ∷ drop (at + 1) rows) = subst Pairs split (pairs_rear (take at rows) (drop at rows) (subst Pairs (sym (take-append-drop at rows)) a.pairs)) in
          both_ways (span_before r row) (all_last (λ r. span_before r row ≡ false) rows at p.1 r (subst (In r) (sym split) (inl refl))) (ahead_before r row (a.full r here).some (q.0 row m))

      where_is : In row (take at rows) ⊎ In row (drop at rows) → row ≡ r
      where_is (inl m) = absurd (not_front m)
      where_is (inr m) = two (subst (In row) split m)
        where
          two : In row (r ∷ drop (at + 1) rows) → row ≡ r
          two (inl f) = f
          two (inr n) = absurd (no_more n)

      by : (same_row r row ≡ true) ⊎ (same_row r row ≡ false) → (has_row rows row ≡ true) ⊎ (has_row rows row ≡ false) → same_row r row ≡ has_row rows row
      by (inl a) (inl b) = a ∙ sym b
      by (inr a) (inr b) = a ∙ sym b
      by (inl a) (inr b) = absurd (both_ways (has_row rows row) b (has_in rows row (subst (λ z. In z rows) (one_row r row a) here)))
      by (inr a) (inl b) = absurd (both_ways (same_row r row) a (row_itself r row (sym (where_is (In-append_cases row (take at rows) (drop at rows) (subst (In row) (sym (take-append-drop at rows)) (has_found rows row b)))))))

-- ---- the difference

pub in_missing : (others rows : List Span) (r : Span) → In r (missing others rows) → In r rows × (In r others → ⊥)
in_missing others [] r m = absurd m
in_missing others (x ∷ xs) r m = by (has_row others x) refl m (in_missing others xs r)
  where
    by : (b : Bool) → b ≡ has_row others x → In r (cond (not b) (x ∷ missing others xs) (missing others xs)) → (In r (missing others xs) → In r xs × (In r others → ⊥)) → In r (x ∷ xs) × (In r others → ⊥)
    by true e m later = let k = later m in (inr k.0, k.1)
    by false e (inl q) later = (inl q, λ n. both_ways (has_row others x) (sym e) (has_in others x (subst (λ z. In z others) q n)))
    by false e (inr n) later = let k = later n in (inr k.0, k.1)

pub missing_in : (others rows : List Span) (r : Span) → In r rows → (In r others → ⊥) → In r (missing others rows)
missing_in others [] r m n = absurd m
missing_in others (x ∷ xs) r m n = by (has_row others x) refl m (λ k. missing_in others xs r k n)
  where
    by : (b : Bool) → b ≡ has_row others x → In r (x ∷ xs) → (In r xs → In r (missing others xs)) → In r (cond (not b) (x ∷ missing others xs) (missing others xs))
    by true e (inl q) later = absurd (n (subst (λ z. In z others) (sym q) (has_found others x (sym e))))
    by true e (inr k) later = later k
    by false e (inl q) later = inl q
    by false e (inr k) later = inr (later k)

pub differ : (old new : List Span) → IsChange old (missing new old) (missing old new) new
differ old new = record {
  rows = λ r. (λ m. to r m (cases_Bool (has_row old r)), λ c. from r c);
  were = λ r m. (in_missing new old r m).0;
  fresh = λ r m. (in_missing old new r m).1;
}
  where
    to : (r : Span) → In r new → (has_row old r ≡ true) ⊎ (has_row old r ≡ false) → (In r old × (In r (missing new old) → ⊥)) ⊎ In r (missing old new)
    to r m (inl h) = inl (has_found old r h, λ n. (in_missing new old r n).1 m)
    to r m (inr h) = inr (missing_in old new r m (λ n. both_ways (has_row old r) h (has_in old r n)))

    kept : (r : Span) → In r old → (In r (missing new old) → ⊥) → (has_row new r ≡ true) ⊎ (has_row new r ≡ false) → In r new
    kept r o n (inl h) = has_found new r h
    kept r o n (inr h) = absurd (n (missing_in new old r o (λ k. both_ways (has_row new r) h (has_in new r k))))

    from : (r : Span) → (In r old × (In r (missing new old) → ⊥)) ⊎ In r (missing old new) → In r new
    from r (inl c) = kept r c.0 c.1 (cases_Bool (has_row new r))
    from r (inr c) = (in_missing old new r c).0

pub differ_at : (old new gone come : List Span) → gone ≡ missing new old → come ≡ missing old new → IsChange old gone come new
differ_at old new gone come g k = subst (λ (z : List Span). IsChange old z come new) (sym g) (subst (λ (z : List Span). IsChange old (missing new old) z new) (sym k) (differ old new))
