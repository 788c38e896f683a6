-- A row of a route is told from the others of it by its key, which is its asset and its start.
use Rattle.std.proofs.Common.{◌≡◌, ◌⊎◌, inl, inr, ℕ, ◌<◌, Bool, true, false, not, List, refl, sym, ap, subst, arith, nat_eq}
use Rattle.std.specs.Prelude.{◌&&◌, ◌||◌, nat_lt}
use Rattle.std.specs.List.{AllByRecursion, list_any, list_all}
use Rattle.std.proofs.lemmas.Bool.{and_parts, and_from, or_cases, both_ways, eq-eqb, eqb-true, ltb-true}
use Rattle.sqlite_keyed.proofs.ListLemmas.{all_from_test, all_weaker}
use Rattle.lrs_measure.specs.Lists.{In, each_two}
use Rattle.lrs_measure.specs.Texts.{Name, same_name}
use Rattle.lrs_measure.proofs.Members.{any_found, all_at, two_at}
use Rattle.lrs_events.specs.declared.span.Span.{Span}
use Rattle.lrs_events.specs.Changes.{same_row, has_row}
use Rattle.lrs_events.specs.Spans.{same_side, span_before, are_apart, is_row, are_rows}
use Rattle.lrs_events.proofs.LaneLists.Ranks.{row_is, row_itself}
use Rattle.lrs_store_tables.specs.Contents.Encoders.{span_row}
use Rattle.lrs_store_tables.specs.RowChanges.{has_key_of}
use Rattle.lrs_store_commit.proofs.Laws.Lists.{any_alike, all_members}
use Rattle.lrs_store_commit.proofs.Laws.Naming.{same_itself, same_test}

-- the row of a span has its key
pub key_itself : (route : Name) (s : Span) → has_key_of route s (span_row route s) ≡ true
key_itself route s =
    and_from (nat_eq s.asset s.asset && same_name route route) (nat_eq s.from s.from)
    (and_from (nat_eq s.asset s.asset) (same_name route route) (eq-eqb s.asset s.asset refl) (same_itself route)) (eq-eqb s.from s.from refl)

-- rows of one asset that begin together are not apart
begin_together : (r s : Span) → is_row r ≡ true → is_row s ≡ true → r.asset ≡ s.asset → r.from ≡ s.from → are_apart r s ≡ false
begin_together r s row other asset from = by (are_apart r s) refl
  where
    bounds : (t : Span) → is_row t ≡ true → t.from < t.to
    bounds t h = ltb-true t.from t.to (and_parts _ _ h).0

    touch : (x y : ℕ) → nat_eq x y ≡ true → x ≡ y
    touch x y = eqb-true x y

    meets : (nat_lt r.to s.from || nat_lt s.to r.from || ((nat_eq r.to s.from || nat_eq s.to r.from) && not (same_side r.side s.side))) ≡ true → ⊥
    meets h = either (or_cases _ _ h)
      where
        ends : ((nat_eq r.to s.from || nat_eq s.to r.from) ≡ true) → ⊥
        ends k = which (or_cases _ _ k)
          where
            which : (nat_eq r.to s.from ≡ true) ⊎ (nat_eq s.to r.from ≡ true) → ⊥
            which (inl e) = omega (arith, touch r.to s.from e, bounds r row, from)
            which (inr e) = omega (arith, touch s.to r.from e, bounds s other, from)

        first : (nat_lt r.to s.from || nat_lt s.to r.from) ≡ true → ⊥
        first k = which (or_cases _ _ k)
          where
            which : (nat_lt r.to s.from ≡ true) ⊎ (nat_lt s.to r.from ≡ true) → ⊥
            which (inl e) = omega (arith, ltb-true r.to s.from e, bounds r row, from)
            which (inr e) = omega (arith, ltb-true s.to r.from e, bounds s other, from)

        either : ((nat_lt r.to s.from || nat_lt s.to r.from) ≡ true) ⊎ (((nat_eq r.to s.from || nat_eq s.to r.from) && not (same_side r.side s.side)) ≡ true) → ⊥
        either (inl k) = first k
        either (inr k) = ends (and_parts _ _ k).0

    of_one : (not (nat_eq r.asset s.asset) ≡ true) → ⊥
    of_one h = both_ways (not (nat_eq r.asset s.asset)) (ap not (eq-eqb r.asset s.asset asset)) h

    by : (b : Bool) → are_apart r s ≡ b → b ≡ false
    by false e = refl
    by true e = absurd (which (or_cases _ _ e))
      where
        which : (not (nat_eq r.asset s.asset) ≡ true) ⊎ ((same_name r.class s.class && (nat_lt r.to s.from || nat_lt s.to r.from || ((nat_eq r.to s.from || nat_eq s.to r.from) && not (same_side r.side s.side)))) ≡ true) → ⊥
        which (inl h) = of_one h
        which (inr h) = meets (and_parts _ _ h).1

are_of : (rows : List Span) → are_rows rows ≡ true → (list_all is_row rows ≡ true) × (each_two are_apart rows ≡ true)
are_of rows are =
    let both = and_parts (list_all is_row rows && each_two span_before rows) (each_two are_apart rows) are in
    ((and_parts (list_all is_row rows) (each_two span_before rows) both.0).0, both.1)

-- the rows of a sound route
module _ (rows : List Span) (are : are_rows rows ≡ true) where
  one_of_key : (r s : Span) → In r rows → In s rows → r.asset ≡ s.asset → r.from ≡ s.from → r ≡ s
  one_of_key r s m n asset from = by (two_at are_apart r s rows (are_of rows are).1 m n)
    where
      row : is_row r ≡ true
      row = all_at is_row r rows (are_of rows are).0 m

      other : is_row s ≡ true
      other = all_at is_row s rows (are_of rows are).0 n

      by : (r ≡ s) ⊎ ((are_apart r s ≡ true) ⊎ (are_apart s r ≡ true)) → r ≡ s
      by (inl e) = e
      by (inr (inl e)) = absurd (both_ways (are_apart r s) (begin_together r s row other asset from) e)
      by (inr (inr e)) = absurd (both_ways (are_apart s r) (begin_together s r other row (sym asset) (sym from)) e)

  key_alike : (route : Name) (g s : Span) → In g rows → In s rows → has_key_of route g (span_row route s) ≡ same_row g s
  key_alike route g s m n = same_test (has_key_of route g (span_row route s)) (same_row g s) to back
    where
      whole : (a b : Span) → a ≡ b → same_row a b ≡ true
      whole a b e = subst (λ x. same_row a x ≡ true) e (row_itself a)

      to : has_key_of route g (span_row route s) ≡ true → same_row g s ≡ true
      to h =
          let key = and_parts (nat_eq s.asset g.asset && same_name route route) (nat_eq s.from g.from) h in
          let asset = and_parts (nat_eq s.asset g.asset) (same_name route route) key.0 in
          whole g s (sym (one_of_key s g n m (eqb-true s.asset g.asset asset.0) (eqb-true s.from g.from key.1)))

      back : same_row g s ≡ true → has_key_of route g (span_row route s) ≡ true
      back h = subst (λ x. has_key_of route x (span_row route s) ≡ true) (sym (row_is g s h)) (key_itself route s)

  -- Of rows that are there, those with the keys of some are these.
  pub keys_are_rows : (route : Name) (gone : List Span) → list_all (has_row rows) gone ≡ true → AllByRecursion (λ s. list_any (λ g. has_key_of route g (span_row route s)) gone ≡ has_row gone s) rows
  keys_are_rows route gone there =
      all_members (λ s. list_any (λ g. has_key_of route g (span_row route s)) gone ≡ has_row gone s) rows
      (λ s n. any_alike (λ g. has_key_of route g (span_row route s)) (λ g. same_row g s) gone (all_weaker (λ g. has_row rows g ≡ true) (λ g. has_key_of route g (span_row route s) ≡ same_row g s) (λ g h. key_alike route g s (known g h) n) gone (all_from_test (has_row rows) gone there)))
    where
      known : (g : Span) → has_row rows g ≡ true → In g rows
      known g h = let found = any_found (λ t. same_row t g) rows h in subst (λ x. In x rows) (row_is found.0 g found.2) found.1
