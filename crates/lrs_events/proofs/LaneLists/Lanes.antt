-- What is met over a stretch of a lane.
use Rattle.std.proofs.Common.{◌≡◌, ℕ, zero, suc, ◌+◌, ◌<◌, ◌≤◌, Bool, true, false, ◌⊎◌, inl, inr, List, [], ◌∷◌, ◌++◌, length, get_or, take, drop, max, min, refl, sym, ap, subst, ◌∙◌, arith, Option, Some, None}
use Rattle.std.specs.Prelude.{◌&&◌, nat_lt, nat_le, nat_eq, slice_range}
use Rattle.std.specs.List.{list_any, filter}
use Rattle.std.specs.List.Sorted.{IsNonDecreasingBy, IsPartitionPoint}
use Rattle.std.proofs.lemmas.Bool.{both_ways, and_parts, and_from, or_cases, cases_lt, ltb-true, lt-ltb, leb-true, eq-eqb, eqb-true, false_from_ne_true}
use Rattle.std.proofs.lemmas.List.{take_more, take-append-drop, append-nil}
use Rattle.std.proofs.lemmas.List.Elements.{filter-append}
use Rattle.lrs_events.specs.declared.span.Span.{Span}
use Rattle.lrs_events.specs.LaneLists.Lane.{greatest_from, is_met, IsLeast, least_with}
use Rattle.lrs_measure.specs.Lists.{In, each_two}
use Rattle.lrs_measure.proofs.Members.{any_found, any_of, In-append_cases, In-append_left, In-append_right}
use Rattle.lrs_measure.proofs.Places.{two_pass, in_three, all_first, all_last}
use Rattle.lrs_measure.proofs.Filters.{filter_none, any-filter, any_is_some}
use Rattle.lrs_events.specs.LaneLists.Order.{place_before}

-- ---- tests of rows

none : (p : Span → Bool) (xs : List Span) → ((r : Span) → In r xs → p r ≡ true → ⊥) → list_any p xs ≡ false
none p xs h = false_from_ne_true (list_any p xs) (λ e. let f = any_found p xs e in h f.0 f.1 f.2)

none_at : (p : Span → Bool) (xs : List Span) (r : Span) → list_any p xs ≡ false → In r xs → p r ≡ true → ⊥
none_at p xs r h m e = both_ways (list_any p xs) h (any_of p r xs m e)

-- the least of rows, in words
pub data LeastOf (test : Span → Bool) (rows : List Span) : Option ℕ → Type 0 where
  nothing : ((r : Span) → In r rows → test r ≡ true → ⊥) → LeastOf test rows None
  something : (r : Span) → In r rows → test r ≡ true → ((q : Span) → In q rows → test q ≡ true → r.asset ≤ q.asset) → LeastOf test rows (Some r.asset)

pub least_is : (test : Span → Bool) (rows : List Span) (o : Option ℕ) → LeastOf test rows o → IsLeast test rows o
least_is test rows _ (nothing h) = none test rows h
least_is test rows _ (something r m e h) = (
  any_of (λ q. test q && nat_eq q.asset r.asset) r rows m (and_from (test r) (nat_eq r.asset r.asset) e (eq-eqb r.asset r.asset refl)),
  none (λ q. test q && nat_lt q.asset r.asset) rows (λ q n k.
      let b = and_parts (test q) (nat_lt q.asset r.asset) k in
      let l = ltb-true q.asset r.asset b.1 in let g = h q n b.0 in omega (arith, l, g)),
)

pub least_from : (test : Span → Bool) (rows : List Span) (o : Option ℕ) → IsLeast test rows o → LeastOf test rows o
least_from test rows None h = nothing (λ r m e. none_at test rows r h m e)
least_from test rows (Some a) h =
    let f = any_found (λ q. test q && nat_eq q.asset a) rows h.0 in
    let b = and_parts (test f.0) (nat_eq f.0.asset a) f.2 in
    let e = eqb-true f.0.asset a b.1 in
    subst (λ z. LeastOf test rows (Some z)) e (something f.0 f.1 b.0 (λ q m k. by q m k (cases_lt q.asset a) e))
  where
    by : (q : Span) → In q rows → test q ≡ true → (q.asset < a) ⊎ (a ≤ q.asset) → (any_found (λ q. test q && nat_eq q.asset a) rows h.0).0.asset ≡ a → (any_found (λ q. test q && nat_eq q.asset a) rows h.0).0.asset ≤ q.asset
    by q m k (inl l) e = absurd (none_at (λ z. test z && nat_lt z.asset a) rows q h.1 m (and_from (test q) (nat_lt q.asset a) k (lt-ltb q.asset a l)))
    by q m k (inr l) e = omega (arith, l, e)

-- one more row
pub least_more : (test : Span → Bool) (xs : List Span) (r : Span) (o : Option ℕ) → LeastOf test xs o → test r ≡ true → LeastOf test (xs ++ r ∷ []) (Some (least_with o r.asset))
least_more test xs r _ (nothing h) e = something r (In-append_right r xs (r ∷ []) (inl refl)) e (λ q m k. by q k (In-append_cases q xs (r ∷ []) m))
  where
    by : (q : Span) → test q ≡ true → In q xs ⊎ In q (r ∷ []) → r.asset ≤ q.asset
    by q k (inl m) = absurd (h q m k)
    by q k (inr (inl f)) = let a : q.asset ≡ r.asset = ap (λ z. z.asset) f in omega (arith, a)
    by q k (inr (inr f)) = absurd f
least_more test xs r _ (something s m f h) e = by (cases_lt r.asset s.asset)
  where
    with_s : s.asset ≤ r.asset → (q : Span) → test q ≡ true → In q xs ⊎ In q (r ∷ []) → s.asset ≤ q.asset
    with_s l q k (inl n) = h q n k
    with_s l q k (inr (inl g)) = let a : q.asset ≡ r.asset = ap (λ z. z.asset) g in omega (arith, a, l)
    with_s l q k (inr (inr g)) = absurd g

    with_r : r.asset < s.asset → (q : Span) → test q ≡ true → In q xs ⊎ In q (r ∷ []) → r.asset ≤ q.asset
    with_r l q k (inl n) = let a = h q n k in omega (arith, a, l)
    with_r l q k (inr (inl g)) = let a : q.asset ≡ r.asset = ap (λ z. z.asset) g in omega (arith, a)
    with_r l q k (inr (inr g)) = absurd g

    by : (r.asset < s.asset) ⊎ (s.asset ≤ r.asset) → LeastOf test (xs ++ r ∷ []) (Some (min s.asset r.asset))
    by (inl l) = subst (λ z. LeastOf test (xs ++ r ∷ []) (Some z)) (omega (arith, l)) (something r (In-append_right r xs (r ∷ []) (inl refl)) e (λ q n k. with_r l q k (In-append_cases q xs (r ∷ []) n)))
    by (inr l) = subst (λ z. LeastOf test (xs ++ r ∷ []) (Some z)) (omega (arith, l)) (something s (In-append_left s xs (r ∷ []) m) f (λ q n k. with_s l q k (In-append_cases q xs (r ∷ []) n)))

-- rows around them that don't pass
pub least_within : (test : Span → Bool) (front mid rear : List Span) (o : Option ℕ) → ((r : Span) → In r front → test r ≡ true → ⊥) → ((r : Span) → In r rear → test r ≡ true → ⊥) → LeastOf test mid o → LeastOf test (front ++ (mid ++ rear)) o
least_within test front mid rear _ f g (nothing h) = nothing (λ r m e. by r e (In-append_cases r front (mid ++ rear) m))
  where
    two : (r : Span) → test r ≡ true → In r mid ⊎ In r rear → ⊥
    two r e (inl m) = h r m e
    two r e (inr m) = g r m e

    by : (r : Span) → test r ≡ true → In r front ⊎ In r (mid ++ rear) → ⊥
    by r e (inl m) = f r m e
    by r e (inr m) = two r e (In-append_cases r mid rear m)
least_within test front mid rear _ f g (something s m e h) =
    something s (In-append_right s front (mid ++ rear) (In-append_left s mid rear m)) e (λ q n k. by q k (In-append_cases q front (mid ++ rear) n))
  where
    two : (r : Span) → test r ≡ true → In r mid ⊎ In r rear → s.asset ≤ r.asset
    two r e (inl m) = h r m e
    two r e (inr m) = absurd (g r m e)

    by : (r : Span) → test r ≡ true → In r front ⊎ In r (mid ++ rear) → s.asset ≤ r.asset
    by r e (inl m) = absurd (f r m e)
    by r e (inr m) = two r e (In-append_cases r mid rear m)

pub least_next : (test : Span → Bool) (rows : List Span) (i : ℕ) (d : Span) (o : Option ℕ) → i < length rows → IsLeast test (take i rows) o → test (get_or rows i d) ≡ true → IsLeast test (take (i + 1) rows) (Some (least_with o (get_or rows i d).asset))
least_next test rows i d o l h e = least_is test (take (i + 1) rows) _ (subst (λ z. LeastOf test z (Some (least_with o (get_or rows i d).asset))) (sym (take_more rows i d l)) (least_more test (take i rows) (get_or rows i d) o (least_from test (take i rows) o h) e))

pub least_same : (test : Span → Bool) (rows : List Span) (i : ℕ) (d : Span) (o : Option ℕ) → i < length rows → IsLeast test (take i rows) o → test (get_or rows i d) ≡ false → IsLeast test (take (i + 1) rows) o
least_same test rows i d o l h e =
    least_is test (take (i + 1) rows) o (subst (λ z. LeastOf test z o) (sym (take_more rows i d l))
    (least_within test [] (take i rows) (get_or rows i d ∷ []) o (λ r m k. m) (λ r m k. by r k m) (least_from test (take i rows) o h)))
  where
    by : (r : Span) → test r ≡ true → In r (get_or rows i d ∷ []) → ⊥
    by r k (inl f) = both_ways (test (get_or rows i d)) e (subst (λ z. test z ≡ true) f k)
    by r k (inr f) = f

-- ---- where rows begin

pub starts_rise : (rows : List Span) → each_two place_before rows ≡ true → IsNonDecreasingBy (λ r. r.from) rows
starts_rise rows h i j d le within = by (cases_lt i j)
  where
    starts : (r s : Span) → place_before r s ≡ true → r.from ≤ s.from
    starts r s k = from (or_cases (nat_lt r.from s.from) (nat_eq r.from s.from && nat_lt r.asset s.asset) k)
      where
        from : (nat_lt r.from s.from ≡ true) ⊎ ((nat_eq r.from s.from && nat_lt r.asset s.asset) ≡ true) → r.from ≤ s.from
        from (inl l) = let m = ltb-true r.from s.from l in omega (arith, m)
        from (inr b) = let e = eqb-true r.from s.from (and_parts (nat_eq r.from s.from) (nat_lt r.asset s.asset) b).0 in omega (arith, e)

    by : (i < j) ⊎ (j ≤ i) → (get_or rows i d).from ≤ (get_or rows j d).from
    by (inl l) = starts (get_or rows i d) (get_or rows j d) (two_pass place_before rows i j d h l within)
    by (inr g) = let e : i ≡ j = omega (arith, le, g) in let f : (get_or rows i d).from ≡ (get_or rows j d).from = ap (λ k. (get_or rows k d).from) e in omega (arith, f)

-- ---- the greatest ends

greatest_low : (g : ℕ) (rows : List Span) (j : ℕ) (d : ℕ) → j < length (greatest_from g rows) → g ≤ get_or (greatest_from g rows) j d
greatest_low g [] j d h = absurd (omega (arith, h))
greatest_low g (r ∷ rs) zero d h = omega arith
greatest_low g (r ∷ rs) (suc j) d h = let k = greatest_low (max g r.to) rs j d (omega (arith, h)) in omega (arith, k)

pub greatest_rises : (g : ℕ) (rows : List Span) → IsNonDecreasingBy (λ n. n) (greatest_from g rows)
greatest_rises g [] i j d h k = absurd (omega (arith, k))
greatest_rises g (r ∷ rs) zero zero d h k = omega arith
greatest_rises g (r ∷ rs) zero (suc j) d h k = greatest_low (max g r.to) rs j d (omega (arith, k))
greatest_rises g (r ∷ rs) (suc i) zero d h k = absurd (omega (arith, h))
greatest_rises g (r ∷ rs) (suc i) (suc j) d h k = greatest_rises (max g r.to) rs i j d (omega (arith, h)) (omega (arith, k))

greatest_bounds : (g low : ℕ) (rows : List Span) (i : ℕ) → ((n : ℕ) → In n (take i (greatest_from g rows)) → n ≤ low) → (r : Span) → In r (take i rows) → r.to ≤ low
greatest_bounds g low rows zero h r m = absurd m
greatest_bounds g low [] (suc i) h r m = absurd m
greatest_bounds g low (q ∷ qs) (suc i) h r (inl e) = let b = h (max g q.to) (inl refl) in let t : r.to ≡ q.to = ap (λ z. z.to) e in omega (arith, b, t)
greatest_bounds g low (q ∷ qs) (suc i) h r (inr m) = greatest_bounds (max g q.to) low qs i (λ n k. h n (inr k)) r m

further : (r : Span) (xs : List Span) (a b : ℕ) → a ≤ b → In r (drop b xs) → In r (drop a xs)
further r [] zero zero h m = m
further r [] zero (suc b) h m = m
further r [] (suc a) zero h m = absurd (omega (arith, h))
further r [] (suc a) (suc b) h m = m
further r (x ∷ xs) zero zero h m = m
further r (x ∷ xs) zero (suc b) h m = inr (further r xs zero b (omega arith) m)
further r (x ∷ xs) (suc a) zero h m = absurd (omega (arith, h))
further r (x ∷ xs) (suc a) (suc b) h m = further r xs a b (omega (arith, h)) m

module _ (rows : List Span) (low high start end : ℕ)
    (p : IsPartitionPoint (λ n. nat_le n low ≡ true) (λ n. nat_le n low ≡ false) (greatest_from 0 rows) start)
    (q : IsPartitionPoint (λ r. nat_lt r.from high ≡ true) (λ r. nat_lt r.from high ≡ false) rows end) where
  front_off : (r : Span) → In r (take start rows) → is_met low high r ≡ true → ⊥
  front_off r m e =
      let t = greatest_bounds 0 low rows start (λ n k. leb-true n low (all_first (λ n. nat_le n low ≡ true) (greatest_from 0 rows) start p.0 n k)) r m in
      let b = ltb-true low r.to (and_parts (nat_lt r.from high) (nat_lt low r.to) e).1 in
      omega (arith, t, b)

  rear_off : (r : Span) → In r (drop end rows) → is_met low high r ≡ true → ⊥
  rear_off r m e = both_ways (nat_lt r.from high) (all_last (λ r. nat_lt r.from high ≡ false) rows end q.1 r m) (and_parts (nat_lt r.from high) (nat_lt low r.to) e).0

  -- no row is met where those that end come up to those that begin
  none_met : end ≤ start → (r : Span) → In r rows → is_met low high r ≡ true → ⊥
  none_met l r m e = by (In-append_cases r (take start rows) (drop start rows) (subst (In r) (sym (take-append-drop start rows)) m))
    where
      by : In r (take start rows) ⊎ In r (drop start rows) → ⊥
      by (inl m) = front_off r m e
      by (inr m) = rear_off r (further r rows end start l m) e

  pub met_slice : start < end → filter (is_met low high) rows ≡ filter (is_met low high) (slice_range rows start end)
  met_slice l =
      let test = is_met low high in
      let mid = slice_range rows start end in
      ap (filter test) (in_three rows start end (omega (arith, l))) ∙ filter-append test (take start rows) (mid ++ drop end rows)
      ∙ (λ i. filter_none test (take start rows) (λ r m. false_from_ne_true (test r) (front_off r m)) i ++ filter test (mid ++ drop end rows))
      ∙ filter-append test mid (drop end rows)
      ∙ (λ i. filter test mid ++ filter_none test (drop end rows) (λ r m. false_from_ne_true (test r) (rear_off r m)) i) ∙ append-nil (filter test mid)

  pub met_nothing : end ≤ start → filter (is_met low high) rows ≡ []
  met_nothing l = filter_none (is_met low high) rows (λ r m. false_from_ne_true (is_met low high r) (none_met l r m))

-- what is least of rows is least of others of which the same pass
pub least_by_filter : (test : Span → Bool) (xs ys : List Span) (o : Option ℕ) → filter test xs ≡ filter test ys → IsLeast test xs o → IsLeast test ys o
least_by_filter test xs ys None e h = any_is_some test ys ∙ ap (list_any (λ _. true)) (sym e) ∙ sym (any_is_some test xs) ∙ h
least_by_filter test xs ys (Some a) e h = (same (λ r. nat_eq r.asset a) ∙ h.0, same (λ r. nat_lt r.asset a) ∙ h.1)
  where
    same : (q : Span → Bool) → list_any (λ r. test r && q r) ys ≡ list_any (λ r. test r && q r) xs
    same q = any-filter test q ys ∙ ap (list_any q) (sym e) ∙ sym (any-filter test q xs)
