-- Where a span comes among rows.
use Rattle.std.proofs.Common.{◌≡◌, ℕ, zero, suc, ◌+◌, ◌-◌, ◌<◌, ◌≤◌, Bool, true, false, ◌⊎◌, inl, inr, List, [], ◌∷◌, ◌++◌, length, get_or, take, drop, refl, sym, ap, subst, ◌∙◌, arith}
use Rattle.std.specs.Prelude.{◌||◌, ◌&&◌, not, nat_lt, nat_le, nat_eq}
use Rattle.std.specs.List.{splice}
use Rattle.std.specs.List.Sorted.{IsPartitionedBy, IsPartitionPoint}
use Rattle.std.specs.Cmp.Lexicographic.{bytes_decides}
use Rattle.std.proofs.lemmas.Bool.{both_ways, not-true, and_parts, or_cases, eqb-true, eq-eqb, leb-true, cases_lt, cases_order, or_left, or_right, and_from, lt-ltb, le-leb, ltb-true, cases_Bool}
use Rattle.std.proofs.lemmas.List.{take_more, drop_more, append-nil, take-append-drop}
use Rattle.lrs_measure.specs.Texts.{same_name, name_before}
use Rattle.lrs_measure.specs.Lists.{In}
use Rattle.lrs_measure.proofs.Members.{all_at, In-append_right, In-append_cases, In-take, In-drop}
use Rattle.lrs_measure.proofs.Places.{member_at, all_first, all_last}
use Rattle.lrs_events.specs.declared.span.Span.{Span}
use Rattle.lrs_events.specs.Spans.{span_before, are_rows, is_row, same_side}
use Rattle.lrs_events.specs.Members.{is_member, has_member}
use Rattle.lrs_events.specs.Row.Members.{leaves_free, is_free, joins, IsMore}
use Rattle.lrs_events.specs.Row.Order.{IsLeft, by_class, by_asset, by_place, Joins, IsPlace, alone, joined, IsStart, IsEnd, grown}
use Rattle.lrs_events.proofs.Row.Unique.{is_same}
use Rattle.lrs_events.proofs.Row.Rows.{left_trans, rows_are, IsFull, Pairs, AreRows, BeginsFirst, begins_class, begins_asset, begins_start, begins_first, first_begins, left_first, name_trans, NameCases, name_cases, before, same, behind, sides_same, not_across, pairs_front, pairs_rear, pairs_across, rows_from, full_from}
use Rattle.lrs_events.specs.Row.Clips.{is_left}
use Rattle.lrs_events.proofs.Row.Coming.{Comes, added, added_holds}

module _ {X : Type 0} where
  -- where one that passes comes behind none that fails
  abbrev pub Falls : (X → Bool) → List X → Type 0
  Falls p [] = Unit {0}
  Falls p (x ∷ xs) = ((y : X) → In y xs → p y ≡ true → p x ≡ true) × Falls p xs

  pub parted : (p : X → Bool) (xs : List X) → Falls p xs → IsPartitionedBy p xs
  parted p [] f i j d h k e = absurd (omega (arith, k))
  parted p (x ∷ xs) f zero zero d h k e = e
  parted p (x ∷ xs) f zero (suc j) d h k e = f.0 (get_or xs j d) (member_at xs j d (omega (arith, k))) e
  parted p (x ∷ xs) f (suc i) zero d h k e = absurd (omega (arith, h))
  parted p (x ∷ xs) f (suc i) (suc j) d h k e = parted p xs f.1 i j d (omega (arith, h)) (omega (arith, k)) e

-- ---- the order of starts

pub begins_trans : (r s t : Span) → BeginsFirst r s → BeginsFirst s t → BeginsFirst r t
begins_trans r s t (begins_class h) (begins_class k) = begins_class (name_trans r.class s.class t.class h k)
begins_trans r s t (begins_class h) (begins_asset c k) = begins_class (subst (λ z. name_before r.class z ≡ true) c h)
begins_trans r s t (begins_class h) (begins_start c a k) = begins_class (subst (λ z. name_before r.class z ≡ true) c h)
begins_trans r s t (begins_asset c h) (begins_class k) = begins_class (subst (λ z. name_before z t.class ≡ true) (sym c) k)
begins_trans r s t (begins_asset c h) (begins_asset d k) = begins_asset (c ∙ d) (omega (arith, h, k))
begins_trans r s t (begins_asset c h) (begins_start d a k) = begins_asset (c ∙ d) (omega (arith, h, a))
begins_trans r s t (begins_start c a h) (begins_class k) = begins_class (subst (λ z. name_before z t.class ≡ true) (sym c) k)
begins_trans r s t (begins_start c a h) (begins_asset d k) = begins_asset (c ∙ d) (omega (arith, a, k))
begins_trans r s t (begins_start c a h) (begins_start d b k) = begins_start (c ∙ d) (a ∙ b) (omega (arith, h, k))

pub falls : (rows : List Span) (span : Span) → ((r : Span) → In r rows → IsFull r) → Pairs rows → Falls (λ r. span_before r span) rows
falls [] span f p = tt
falls (r ∷ rs) span f p =
    (λ s m e. first_begins r span (begins_trans r s span (left_first r s (f r (inl refl)).some (p.0 s m).left) (begins_first s span e)), falls rs span (λ s m. f s (inr m)) p.1)

pub parted_rows : (rows : List Span) (span : Span) → AreRows rows → IsPartitionedBy (λ r. span_before r span) rows
parted_rows rows span h = parted (λ r. span_before r span) rows (falls rows span h.full h.pairs)

-- what a row leaves free
pub record IsFree (span r : Span) : Type 0 where
  pub one_class : r.asset ≡ span.asset → r.class ≡ span.class
  pub off : r.asset ≡ span.asset → (r.to ≤ span.from) ⊎ (span.to ≤ r.from)

pub free_from : (span r : Span) → leaves_free span r ≡ true → IsFree span r
free_from span r h = record { one_class = λ e. (bytes_decides r.class span.class).0 (both e).0; off = λ e. off (or_cases (nat_le r.to span.from) (nat_le span.to r.from) (both e).1) }
  where
    both : r.asset ≡ span.asset → (same_name r.class span.class ≡ true) × ((nat_le r.to span.from || nat_le span.to r.from) ≡ true)
    both e = by (or_cases (not (nat_eq r.asset span.asset)) (same_name r.class span.class && (nat_le r.to span.from || nat_le span.to r.from)) h)
      where
        by : (not (nat_eq r.asset span.asset) ≡ true) ⊎ ((same_name r.class span.class && (nat_le r.to span.from || nat_le span.to r.from)) ≡ true) → (same_name r.class span.class ≡ true) × ((nat_le r.to span.from || nat_le span.to r.from) ≡ true)
        by (inl k) = absurd (both_ways (nat_eq r.asset span.asset) (not-true (nat_eq r.asset span.asset) k) (eq-eqb r.asset span.asset e))
        by (inr k) = and_parts (same_name r.class span.class) (nat_le r.to span.from || nat_le span.to r.from) k

    off : (nat_le r.to span.from ≡ true) ⊎ (nat_le span.to r.from ≡ true) → (r.to ≤ span.from) ⊎ (span.to ≤ r.from)
    off (inl k) = inl (leb-true r.to span.from k)
    off (inr k) = inr (leb-true span.to r.from k)

comes_left : (r span : Span) → span.from < span.to → IsFree span r → span_before r span ≡ true → IsLeft r span
comes_left r span full free h = by (begins_first r span h)
  where
    by : BeginsFirst r span → IsLeft r span
    by (begins_class k) = by_class k
    by (begins_asset c k) = by_asset c k
    by (begins_start c a k) = by_place c a (off (free.off a))
      where
        off : (r.to ≤ span.from) ⊎ (span.to ≤ r.from) → r.to ≤ span.from
        off (inl l) = l
        off (inr l) = absurd (omega (arith, l, k, full))

comes_right : (r span : Span) → r.from < r.to → IsFree span r → span_before r span ≡ false → IsLeft span r
comes_right r span full free h = by (name_cases r.class span.class)
  where
    not_first : BeginsFirst r span → ⊥
    not_first b = both_ways (span_before r span) h (first_begins r span b)

    place : r.class ≡ span.class → r.asset ≡ span.asset → (r.from < span.from) ⊎ (span.from ≤ r.from) → IsLeft span r
    place c a (inl k) = absurd (not_first (begins_start c a k))
    place c a (inr k) = by_place (sym c) (sym a) (off (free.off a))
      where
        off : (r.to ≤ span.from) ⊎ (span.to ≤ r.from) → span.to ≤ r.from
        off (inl l) = absurd (omega (arith, l, k, full))
        off (inr l) = l

    number : r.class ≡ span.class → (r.asset ≡ span.asset) ⊎ ((r.asset < span.asset) ⊎ (span.asset < r.asset)) → IsLeft span r
    number c (inl e) = place c e (cases_lt r.from span.from)
    number c (inr (inl k)) = absurd (not_first (begins_asset c k))
    number c (inr (inr k)) = by_asset (sym c) k

    by : NameCases r.class span.class → IsLeft span r
    by (before k) = absurd (not_first (begins_class k))
    by (same c) = number c (cases_order r.asset span.asset)
    by (behind k) = by_class k

pub placed : (rows : List Span) (at : ℕ) (span : Span) → are_rows rows ≡ true → is_row span ≡ true → is_free rows span ≡ true
    → IsPartitionPoint (λ r. span_before r span ≡ true) (λ r. span_before r span ≡ false) rows at → IsPlace rows at span
placed rows at span h f free p = record {
  before = λ r m. comes_left r span (full_from span f).some (free_from span r (all_at (leaves_free span) r rows free (In-take r at rows m))) (all_first (λ r. span_before r span ≡ true) rows at p.0 r m);
  behind = λ r m. comes_right r span ((rows_from rows h).full r (In-drop r at rows m)).some (free_from span r (all_at (leaves_free span) r rows free (In-drop r at rows m))) (all_last (λ r. span_before r span ≡ false) rows at p.1 r m);
}

-- ---- neighbours

pub joins_from : (r s : Span) → joins r s ≡ true → Joins r s
joins_from r s h =
    let a = and_parts (same_name r.class s.class && nat_eq r.asset s.asset && nat_eq r.to s.from) (same_side r.side s.side) h in
    let b = and_parts (same_name r.class s.class && nat_eq r.asset s.asset) (nat_eq r.to s.from) a.0 in
    let c = and_parts (same_name r.class s.class) (nat_eq r.asset s.asset) b.0 in
    record { of_class = (bytes_decides r.class s.class).0 c.0; of_asset = eqb-true r.asset s.asset c.1; at = eqb-true r.to s.from b.1; on_side = sides_same r.side s.side a.1 }

pub joins_is : (r s : Span) → Joins r s → joins r s ≡ true
joins_is r s j = λ i. (bytes_decides r.class s.class).1 j.of_class i && eq-eqb r.asset s.asset j.of_asset i && eq-eqb r.to s.from j.at i && is_same r.side s.side j.on_side i

last_of : (rows : List Span) (at : ℕ) (d : Span) → 0 < at → at ≤ length rows → take at rows ≡ take (at - 1) rows ++ get_or rows (at - 1) d ∷ []
last_of rows at d h k = let e : at ≡ at - 1 + 1 = omega arith in ap (λ n. take n rows) e ∙ take_more rows (at - 1) d (omega arith)

pub starts_joined : (rows : List Span) (at : ℕ) (span l : Span) → 0 < at → at ≤ length rows → l ≡ get_or rows (at - 1) l → joins l span ≡ true → IsStart rows at span (at - 1) l.from
starts_joined rows at span l h k e j = record {
  low = omega arith;
  gone = l ∷ [];
  parts = last_of rows at l h k ∙ (λ i. take (at - 1) rows ++ sym e i ∷ []);
  after = joined l (joins_from l span j);
}

pub starts_alone : (rows : List Span) (at : ℕ) (span : Span) → are_rows rows ≡ true → at ≤ length rows → IsPlace rows at span
    → (at ≡ 0) ⊎ ((l : Span) × (0 < at) × (l ≡ get_or rows (at - 1) l) × (joins l span ≡ false)) → IsStart rows at span at span.from
starts_alone rows at span h k p w = record { low = omega arith; gone = []; parts = sym (append-nil (take at rows)); after = alone (λ r m j. none w r m j) }
  where
    none : (at ≡ 0) ⊎ ((l : Span) × (0 < at) × (l ≡ get_or rows (at - 1) l) × (joins l span ≡ false)) → (r : Span) → In r (take at rows) → Joins r span → ⊥
    none (inl e) r m j = subst (λ n. In r (take n rows)) e m
    none (inr n) r m j =
        let l = n.0 in
        let e : take at rows ≡ take (at - 1) rows ++ l ∷ [] = last_of rows at l n.1 k ∙ (λ i. take (at - 1) rows ++ sym n.2 i ∷ []) in
        by l e n.3 (In-append_cases r (take (at - 1) rows) (l ∷ []) (subst (In r) e m))
      where
        by : (l : Span) → take at rows ≡ take (at - 1) rows ++ l ∷ [] → joins l span ≡ false → In r (take (at - 1) rows) ⊎ In r (l ∷ []) → ⊥
        by l e f (inr (inl q)) = both_ways (joins l span) f (subst (λ z. joins z span ≡ true) q (joins_is r span j))
        by l e f (inr (inr q)) = q
        by l e f (inl q) =
            let here : In l (take at rows) = subst (In l) (sym e) (In-append_right l (take (at - 1) rows) (l ∷ []) (inl refl)) in
            let ok = rows_from rows h in
            let all : Pairs (take at rows) = pairs_front (take at rows) (drop at rows) (subst Pairs (sym (take-append-drop at rows)) ok.pairs) in
            let ahead = pairs_across (take (at - 1) rows) (l ∷ []) r l (subst Pairs e all) q (inl refl) in
            not_across r l span (ok.full l (In-take l at rows here)) ahead.left (p.before l here) j

pub ends_joined : (rows : List Span) (at : ℕ) (span r : Span) → at < length rows → r ≡ get_or rows at r → joins span r ≡ true → IsEnd rows at span (at + 1) r.to
ends_joined rows at span r h e j = record {
  high = omega arith;
  gone = r ∷ [];
  parts = drop_more rows at r h ∙ (λ i. sym e i ∷ drop (at + 1) rows);
  before = joined r (joins_from span r j);
}

pub ends_alone : (rows : List Span) (at : ℕ) (span : Span) → are_rows rows ≡ true → IsPlace rows at span
    → (length rows ≤ at) ⊎ ((r : Span) × (at < length rows) × (r ≡ get_or rows at r) × (joins span r ≡ false)) → IsEnd rows at span at span.to
ends_alone rows at span h p w = record { high = omega arith; gone = []; parts = refl; before = alone (λ r m j. none w r m j) }
  where
    none : (length rows ≤ at) ⊎ ((r : Span) × (at < length rows) × (r ≡ get_or rows at r) × (joins span r ≡ false)) → (x : Span) → In x (drop at rows) → Joins span x → ⊥
    none (inl e) x m j = past rows at e m
      where
        past : (xs : List Span) (n : ℕ) → length xs ≤ n → In x (drop n xs) → ⊥
        past [] zero l k = k
        past [] (suc n) l k = k
        past (y ∷ ys) zero l k = omega (arith, l)
        past (y ∷ ys) (suc n) l k = past ys n (omega (arith, l)) k
    none (inr n) x m j =
        let r = n.0 in
        let e : drop at rows ≡ r ∷ drop (at + 1) rows = drop_more rows at r n.1 ∙ (λ i. sym n.2 i ∷ drop (at + 1) rows) in
        by r e n.3 (subst (In x) e m)
      where
        by : (r : Span) → drop at rows ≡ r ∷ drop (at + 1) rows → joins span r ≡ false → In x (r ∷ drop (at + 1) rows) → ⊥
        by r e f (inl q) = both_ways (joins span r) f (subst (λ z. joins span z ≡ true) q (joins_is span x j))
        by r e f (inr q) =
            let here : In r (drop at rows) = subst (In r) (sym e) (inl refl) in
            let ok = rows_from rows h in
            let all : Pairs (drop at rows) = pairs_rear (take at rows) (drop at rows) (subst Pairs (sym (take-append-drop at rows)) ok.pairs) in
            let ahead = (subst Pairs e all).0 x q in
            not_across span r x (ok.full r (In-drop r at rows here)) (p.behind r here) ahead.left j

pub comes : (rows : List Span) (at : ℕ) (span : Span) (start from end to : ℕ) → are_rows rows ≡ true → is_row span ≡ true → is_free rows span ≡ true → IsPlace rows at span
    → (s : IsStart rows at span start from) → (e : IsEnd rows at span end to) → Comes (take start rows) s.gone e.gone (drop end rows) span from to
comes rows at span start from end to h f free p s e = record {
  rows = subst AreRows (whole s e) (rows_from rows h);
  full = full_from span f;
  one_class = λ r m. (free_from span r (all_at (leaves_free span) r rows free (subst (In r) (sym (whole s e)) m))).one_class;
  fore = λ r m. p.before r (subst (In r) (sym s.parts) m);
  aft = λ r m. p.behind r (subst (In r) (sym e.parts) m);
  after = s.after;
  before = e.before;
}
  where
    whole : (s : IsStart rows at span start from) (e : IsEnd rows at span end to) → rows ≡ (take start rows ++ s.gone) ++ (e.gone ++ drop end rows)
    whole s e = sym (take-append-drop at rows) ∙ (λ i. s.parts i ++ e.parts i)

pub whole_rows : (rows : List Span) (at : ℕ) (span : Span) (start from end to : ℕ) (s : IsStart rows at span start from) (e : IsEnd rows at span end to) → rows ≡ (take start rows ++ s.gone) ++ (e.gone ++ drop end rows)
whole_rows rows at span start from end to s e = sym (take-append-drop at rows) ∙ (λ i. s.parts i ++ e.parts i)

-- the row stands in its place
pub record HasCome (rows : List Span) (span : Span) (start from end to : ℕ) : Type 0 where
  pub kept : are_rows (splice rows start end (grown span from to ∷ [])) ≡ true
  pub more : IsMore rows span (splice rows start end (grown span from to ∷ []))

pub has_come : (rows r1 r2 r3 : List Span) (at : ℕ) (span : Span) (start from end to : ℕ) → r1 ≡ rows → r2 ≡ rows → r3 ≡ rows
    → are_rows rows ≡ true → is_row span ≡ true → is_free rows span ≡ true → IsPlace r1 at span → IsStart r2 at span start from → IsEnd r3 at span end to → HasCome rows span start from end to
has_come rows r1 r2 r3 at span start from end to e1 e2 e3 h f free p s e =
    by (subst (λ z. IsPlace z at span) e1 p) (subst (λ z. IsStart z at span start from) e2 s) (subst (λ z. IsEnd z at span end to) e3 e)
  where
    by : IsPlace rows at span → IsStart rows at span start from → IsEnd rows at span end to → HasCome rows span start from end to
    by p s e =
        let c = comes rows at span start from end to h f free p s e in
        let w = whole_rows rows at span start from end to s e in
        record {
          kept = rows_are (splice rows start end (grown span from to ∷ [])) (added (take start rows) s.gone e.gone (drop end rows) span from to c);
          more = λ class asset j t. added_holds class asset j t (take start rows) s.gone e.gone (drop end rows) span from to c ∙ (λ i. is_member (sym w i) class asset j t || has_member span class asset j t);
        }

-- ---- the stretch of an asset

pub left_from : (r s : Span) → is_left r s ≡ true → IsLeft r s
left_from r s h = by (or_cases (name_before r.class s.class) (same_name r.class s.class && number) h)
  where
    number : Bool
    number = nat_lt r.asset s.asset || (nat_eq r.asset s.asset && nat_le r.to s.from)

    inner : r.class ≡ s.class → (nat_lt r.asset s.asset ≡ true) ⊎ ((nat_eq r.asset s.asset && nat_le r.to s.from) ≡ true) → IsLeft r s
    inner e (inl k) = by_asset e (ltb-true r.asset s.asset k)
    inner e (inr k) = let b = and_parts (nat_eq r.asset s.asset) (nat_le r.to s.from) k in by_place e (eqb-true r.asset s.asset b.0) (leb-true r.to s.from b.1)

    by : (name_before r.class s.class ≡ true) ⊎ ((same_name r.class s.class && number) ≡ true) → IsLeft r s
    by (inl k) = by_class k
    by (inr k) = let b = and_parts (same_name r.class s.class) number k in inner ((bytes_decides r.class s.class).0 b.0) (or_cases (nat_lt r.asset s.asset) (nat_eq r.asset s.asset && nat_le r.to s.from) b.1)

pub left_is : (r s : Span) → IsLeft r s → is_left r s ≡ true
left_is r s (by_class h) = or_left _ _ h
left_is r s (by_asset e h) = or_right (name_before r.class s.class) _ (and_from (same_name r.class s.class) _ ((bytes_decides r.class s.class).1 e) (or_left _ _ (lt-ltb r.asset s.asset h)))
left_is r s (by_place e a h) =
    or_right (name_before r.class s.class) _ (and_from (same_name r.class s.class) _ ((bytes_decides r.class s.class).1 e)
    (or_right (nat_lt r.asset s.asset) _ (and_from (nat_eq r.asset s.asset) (nat_le r.to s.from) (eq-eqb r.asset s.asset a) (le-leb r.to s.from h))))

falls_left : (rows : List Span) (s : Span) → ((r : Span) → In r rows → IsFull r) → Pairs rows → Falls (λ r. is_left r s) rows
falls_left [] s f p = tt
falls_left (r ∷ rs) s f p = (λ q m e. left_is r s (left_trans r q s (f q (inr m)) (p.0 q m).left (left_from q s e)), falls_left rs s (λ q m. f q (inr m)) p.1)

falls_right : (rows : List Span) (s : Span) → ((r : Span) → In r rows → IsFull r) → Pairs rows → Falls (λ r. not (is_left s r)) rows
falls_right [] s f p = tt
falls_right (r ∷ rs) s f p = (λ q m e. by q m e (cases_Bool (is_left s r)), falls_right rs s (λ q m. f q (inr m)) p.1)
  where
    by : (q : Span) → In q rs → not (is_left s q) ≡ true → (is_left s r ≡ true) ⊎ (is_left s r ≡ false) → not (is_left s r) ≡ true
    by q m e (inl k) = absurd (both_ways (is_left s q) (not-true (is_left s q) e) (left_is s q (left_trans s r q (f r (inl refl)) (left_from s r k) (p.0 q m).left)))
    by q m e (inr k) = ap not k

pub parted_left : (rows : List Span) (s : Span) → are_rows rows ≡ true → IsPartitionedBy (λ r. is_left r s) rows
parted_left rows s h = let a = rows_from rows h in parted (λ r. is_left r s) rows (falls_left rows s a.full a.pairs)

pub parted_right : (rows : List Span) (s : Span) → are_rows rows ≡ true → IsPartitionedBy (λ r. not (is_left s r)) rows
parted_right rows s h = let a = rows_from rows h in parted (λ r. not (is_left s r)) rows (falls_right rows s a.full a.pairs)
