-- Which rows lanes have after a change.
use Rattle.std.proofs.Common.{◌≡◌, ◌<◌, ◌≤◌, Bool, true, false, cond, ◌⊎◌, inl, inr, List, [], ◌∷◌, refl, sym, ap, subst, ◌∙◌, arith}
use Rattle.std.specs.Prelude.{◌||◌, ◌&&◌, not, nat_lt, nat_eq}
use Rattle.std.specs.List.{filter}
use Rattle.std.proofs.lemmas.Bool.{and_parts, and_from, or_cases, or_left, or_right, lt-ltb, ltb-true, eq-eqb, eqb-true, cases_lt, cases_eq, cases_Bool}
use Rattle.lrs_measure.specs.Lists.{In, each_two}
use Rattle.lrs_measure.proofs.Members.{all_at, two_at, In-filter}
use Rattle.lrs_measure.proofs.Filters.{each_two-filter}
use Rattle.lrs_events.specs.declared.span.Span.{Span}
use Rattle.lrs_events.specs.Changes.{same_row, has_row, without_rows, changed}
use Rattle.lrs_events.specs.Spans.{are_rows, is_row, span_before, are_apart}
use Rattle.lrs_events.proofs.Row.Unique.{Kept, kept}
use Rattle.lrs_events.proofs.Row.Rows.{IsFull, apart_from, full_from}
use Rattle.lrs_events.proofs.Row.Differing.{one_row, has_found, has_in}
use Rattle.lrs_events.proofs.Row.Changing.{spans_strict}
use Rattle.lrs_events.proofs.Row.Sorted.{IsStrict}
use Rattle.lrs_events.specs.LaneLists.Order.{place_before}
use Rattle.lrs_events.proofs.RouteSpans.Putting.{IsOneFirst, asunder, asunder_by, asunder_fewer, put_in_order, any-insert_all}

-- ---- which rows are there

-- of rows that pass a test
pub has_row-filter : (p : Span → Bool) (rows : List Span) (r : Span) → has_row (filter p rows) r ≡ (has_row rows r && p r)
has_row-filter p [] r = refl
has_row-filter p (x ∷ xs) r = by (cases_Bool (same_row x r)) (cases_Bool (p x)) (has_row-filter p xs r)
  where
    at_true : (b : Bool) → p x ≡ b → has_row (cond b (x ∷ filter p xs) (filter p xs)) r ≡ (cond b (same_row x r) false || has_row (filter p xs) r)
    at_true true e = refl
    at_true false e = refl

    here : has_row (cond (p x) (x ∷ filter p xs) (filter p xs)) r ≡ (cond (p x) (same_row x r) false || has_row (filter p xs) r)
    here = at_true (p x) refl

    both : (t c : Bool) → (t || (c && t)) ≡ t
    both true c = refl
    both false true = refl
    both false false = refl

    by : (same_row x r ≡ true) ⊎ (same_row x r ≡ false) → (p x ≡ true) ⊎ (p x ≡ false) → has_row (filter p xs) r ≡ (has_row xs r && p r) → has_row (cond (p x) (x ∷ filter p xs) (filter p xs)) r ≡ ((same_row x r || has_row xs r) && p r)
    by (inl s) (inl t) rest =
        let e : p r ≡ true = ap p (sym (one_row x r s)) ∙ t in
        here ∙ (λ j. cond (t j) (s j) false || has_row (filter p xs) r) ∙ sym ((λ j. (s j || has_row xs r) && p r) ∙ e)
    by (inl s) (inr t) rest =
        let e : p r ≡ false = ap p (sym (one_row x r s)) ∙ t in
        here ∙ (λ j. cond (t j) (same_row x r) false || has_row (filter p xs) r) ∙ rest ∙ (λ j. has_row xs r && e j) ∙ none (has_row xs r) ∙ sym ((λ j. (s j || has_row xs r) && e j))
      where
        none : (b : Bool) → (b && false) ≡ false
        none true = refl
        none false = refl
    by (inr s) (inl t) rest = here ∙ (λ j. cond (t j) (s j) false || has_row (filter p xs) r) ∙ rest ∙ sym (λ j. (s j || has_row xs r) && p r)
    by (inr s) (inr t) rest = here ∙ (λ j. cond (t j) (same_row x r) false || has_row (filter p xs) r) ∙ rest ∙ sym (λ j. (s j || has_row xs r) && p r)

-- of changed rows
pub has_row-changed : (before : Span → Span → Bool) (gone come rows : List Span) (r : Span) → has_row (changed before gone come rows) r ≡ ((has_row rows r && not (has_row gone r)) || has_row come r)
has_row-changed before gone come rows r =
    any-insert_all (λ s. same_row s r) before come (without_rows gone rows) ∙ ap (λ b. b || has_row come r) (has_row-filter (λ q. not (has_row gone q)) rows r)

-- of a lane, where rows come into it by a test
lane_law : (a g c o : Bool) → (((a && o) && not g) || (c && o)) ≡ (((a && not g) || c) && o)
lane_law false g c o = refl
lane_law true false false false = refl
lane_law true false false true = refl
lane_law true false true false = refl
lane_law true false true true = refl
lane_law true true false false = refl
lane_law true true false true = refl
lane_law true true true false = refl
lane_law true true true true = refl

pub has_row-lane : (on : Span → Bool) (before first : Span → Span → Bool) (gone come rows lane : List Span) → ((r : Span) → has_row lane r ≡ (has_row rows r && on r))
    → (r : Span) → has_row (changed first gone (filter on come) lane) r ≡ (has_row (changed before gone come rows) r && on r)
has_row-lane on before first gone come rows lane t r =
    has_row-changed first gone (filter on come) lane r
    ∙ (λ j. (t r j && not (has_row gone r)) || has_row-filter on come r j)
    ∙ lane_law (has_row rows r) (has_row gone r) (has_row come r) (on r)
    ∙ ap (λ b. b && on r) (sym (has_row-changed before gone come rows r))

-- ---- the order of a lane

first_trans : (r s t : Span) → place_before r s ≡ true → place_before s t ≡ true → place_before r t ≡ true
first_trans r s t h k = by (or_cases (nat_lt r.from s.from) (nat_eq r.from s.from && nat_lt r.asset s.asset) h) (or_cases (nat_lt s.from t.from) (nat_eq s.from t.from && nat_lt s.asset t.asset) k)
  where
    by : (nat_lt r.from s.from ≡ true) ⊎ ((nat_eq r.from s.from && nat_lt r.asset s.asset) ≡ true) → (nat_lt s.from t.from ≡ true) ⊎ ((nat_eq s.from t.from && nat_lt s.asset t.asset) ≡ true) → place_before r t ≡ true
    by (inl a) (inl b) = let x = ltb-true r.from s.from a in let y = ltb-true s.from t.from b in or_left _ _ (lt-ltb r.from t.from (omega (arith, x, y)))
    by (inl a) (inr b) = let x = ltb-true r.from s.from a in let y = eqb-true s.from t.from (and_parts (nat_eq s.from t.from) (nat_lt s.asset t.asset) b).0 in or_left _ _ (lt-ltb r.from t.from (omega (arith, x, y)))
    by (inr a) (inl b) = let x = eqb-true r.from s.from (and_parts (nat_eq r.from s.from) (nat_lt r.asset s.asset) a).0 in let y = ltb-true s.from t.from b in or_left _ _ (lt-ltb r.from t.from (omega (arith, x, y)))
    by (inr a) (inr b) =
        let p = and_parts (nat_eq r.from s.from) (nat_lt r.asset s.asset) a in
        let q = and_parts (nat_eq s.from t.from) (nat_lt s.asset t.asset) b in
        let u = ltb-true r.asset s.asset p.1 in
        let v = ltb-true s.asset t.asset q.1 in
        or_right (nat_lt r.from t.from) _ (and_from (nat_eq r.from t.from) (nat_lt r.asset t.asset) (eq-eqb r.from t.from (eqb-true r.from s.from p.0 ∙ eqb-true s.from t.from q.0)) (lt-ltb r.asset t.asset (omega (arith, u, v))))

first_not_both : (r s : Span) → place_before r s ≡ true → place_before s r ≡ true → ⊥
first_not_both r s h k = by (or_cases (nat_lt r.from r.from) (nat_eq r.from r.from && nat_lt r.asset r.asset) (first_trans r s r h k))
  where
    by : (nat_lt r.from r.from ≡ true) ⊎ ((nat_eq r.from r.from && nat_lt r.asset r.asset) ≡ true) → ⊥
    by (inl a) = let x = ltb-true r.from r.from a in omega (arith, x)
    by (inr a) = let x = ltb-true r.asset r.asset (and_parts (nat_eq r.from r.from) (nat_lt r.asset r.asset) a).1 in omega (arith, x)

pub places_strict : IsStrict place_before
places_strict = record { never_both = first_not_both; through = first_trans }

-- two canonical rows that are not one differ in place
pub one_first : (rows : List Span) (x y : Span) → are_rows rows ≡ true → In x rows → In y rows → IsOneFirst span_before x y → IsOneFirst place_before x y
one_first rows x y h m n f = by (cases_lt x.from y.from) (cases_lt y.from x.from) (cases_eq x.asset y.asset)
  where
    k : Kept rows
    k = kept rows h

    full : (r : Span) → In r rows → IsFull r
    full r m = full_from r (all_at is_row r rows k.each m)

    unlike : x ≡ y → IsOneFirst span_before x y → ⊥
    unlike e (inl b) = let q = subst (λ z. span_before x z ≡ true) (sym e) b in spans_strict.never_both x x q q
    unlike e (inr b) = let q = subst (λ z. span_before z x ≡ true) (sym e) b in spans_strict.never_both x x q q

    turn : (y.asset ≡ x.asset → (y.to ≤ x.from) ⊎ (x.to ≤ y.from)) → x.asset ≡ y.asset → (x.to ≤ y.from) ⊎ (y.to ≤ x.from)
    turn g e = other (g (sym e))
      where
        other : (y.to ≤ x.from) ⊎ (x.to ≤ y.from) → (x.to ≤ y.from) ⊎ (y.to ≤ x.from)
        other (inl l) = inr l
        other (inr l) = inl l

    off : (x ≡ y) ⊎ ((are_apart x y ≡ true) ⊎ (are_apart y x ≡ true)) → x.asset ≡ y.asset → (x.to ≤ y.from) ⊎ (y.to ≤ x.from)
    off (inl e) = absurd (unlike e f)
    off (inr (inl a)) = (apart_from x y (full x m).some (full y n).some a).off
    off (inr (inr a)) = turn (apart_from y x (full y n).some (full x m).some a).off

    meet : x.from ≡ y.from → (x.to ≤ y.from) ⊎ (y.to ≤ x.from) → ⊥
    meet e (inl l) = let g = (full x m).some in omega (arith, e, l, g)
    meet e (inr l) = let g = (full y n).some in omega (arith, e, l, g)

    number : x.from ≡ y.from → (x.asset < y.asset) ⊎ (y.asset ≤ x.asset) → (x.asset ≡ y.asset → ⊥) → IsOneFirst place_before x y
    number e (inl l) g = inl (or_right (nat_lt x.from y.from) _ (and_from (nat_eq x.from y.from) (nat_lt x.asset y.asset) (eq-eqb x.from y.from e) (lt-ltb x.asset y.asset l)))
    number e (inr l) g =
        inr (or_right (nat_lt y.from x.from) _ (and_from (nat_eq y.from x.from) (nat_lt y.asset x.asset) (eq-eqb y.from x.from (sym e)) (lt-ltb y.asset x.asset (less (cases_lt y.asset x.asset)))))
      where
        less : (y.asset < x.asset) ⊎ (x.asset ≤ y.asset) → y.asset < x.asset
        less (inl q) = q
        less (inr q) = absurd (g (omega (arith, l, q)))

    by : (x.from < y.from) ⊎ (y.from ≤ x.from) → (y.from < x.from) ⊎ (x.from ≤ y.from) → (x.asset ≡ y.asset) ⊎ (x.asset ≡ y.asset → ⊥) → IsOneFirst place_before x y
    by (inl l) b e = inl (or_left _ _ (lt-ltb x.from y.from l))
    by (inr l) (inl b) e = inr (or_left _ _ (lt-ltb y.from x.from b))
    by (inr l) (inr b) (inl e) = let w : x.from ≡ y.from = omega (arith, l, b) in absurd (meet w (off (two_at are_apart x y rows k.apart m n) e))
    by (inr l) (inr b) (inr e) = number (omega (arith, l, b)) (cases_lt x.asset y.asset) e

-- what is inserted into a lane leaves it in order
pub lane_in_order : (on : Span → Bool) (gone come rows lane : List Span) → are_rows (changed span_before gone come rows) ≡ true → ((r : Span) → has_row lane r ≡ (has_row rows r && on r))
    → each_two place_before lane ≡ true → each_two place_before (changed place_before gone (filter on come) lane) ≡ true
lane_in_order on gone come rows lane h t s =
    put_in_order place_before places_strict (filter on come) (without_rows gone lane)
    (asunder_by span_before place_before on come (without_rows gone lane) (λ x y m n f. one_first new x y h (came x m) (there y n) f)
    (asunder_fewer span_before come (without_rows gone rows) (without_rows gone lane) stay (asunder span_before come (without_rows gone rows) (kept new h).order)))
    (each_two-filter place_before (λ r. not (has_row gone r)) lane s)
  where
    new : List Span
    new = changed span_before gone come rows

    came : (r : Span) → In r come → In r new
    came r m = has_found new r (has_row-changed span_before gone come rows r ∙ or_right (has_row rows r && not (has_row gone r)) (has_row come r) (has_in come r m))

    of_lane : (r : Span) → In r (without_rows gone lane) → (has_row rows r ≡ true) × (not (has_row gone r) ≡ true)
    of_lane r m = let f = In-filter (λ q. not (has_row gone q)) r lane m in ((and_parts (has_row rows r) (on r) (sym (t r) ∙ has_in lane r f.0)).0, f.1)

    stay : (r : Span) → In r (without_rows gone lane) → In r (without_rows gone rows)
    stay r m = let b = of_lane r m in has_found (without_rows gone rows) r (has_row-filter (λ q. not (has_row gone q)) rows r ∙ and_from (has_row rows r) (not (has_row gone r)) b.0 b.1)

    there : (r : Span) → In r come ⊎ In r (without_rows gone lane) → In r new
    there r (inl m) = came r m
    there r (inr m) = let b = of_lane r m in has_found new r (has_row-changed span_before gone come rows r ∙ or_left (has_row rows r && not (has_row gone r)) (has_row come r) (and_from (has_row rows r) (not (has_row gone r)) b.0 b.1))
