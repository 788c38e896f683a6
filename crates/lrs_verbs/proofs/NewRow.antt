-- A row of an asset that has no row comes among the rows of a route.
use Rattle.std.proofs.Common.{◌≡◌, ℕ, ◌<◌, Bool, true, ◌⊎◌, inl, inr, List, sym, ap}
use Rattle.std.proofs.lemmas.Bool.{and_parts, and_from, or_left, or_right, cases_order, ne_eqb}
use Rattle.std.specs.Prelude.{◌||◌, ◌&&◌, not, nat_eq, nat_lt}
use Rattle.std.specs.List.{list_all}
use Rattle.lrs_measure.specs.Lists.{In}
use Rattle.lrs_measure.proofs.Members.{all_of}
use Rattle.lrs_measure.proofs.Insertions.{all-insert_by}
use Rattle.lrs_inventory.specs.Prelude.{each_two, insert_by, same_name, Span, span_before, are_rows}
use Rattle.lrs_events.specs.Spans.{same_side, are_apart, is_row}
use Rattle.lrs_events.proofs.Row.Changing.{spans_strict}
use Rattle.lrs_events.proofs.Row.Rows.{NameCases, name_cases, before, same, behind, begins_class, begins_asset, first_begins}
use Rattle.lrs_image_laws.proofs.InOrder.{each_two-insert_by, each_two-insert_among, is_comparable}

-- rows of two assets are in an order
rows_in_order : (r s : Span) → (r.asset ≡ s.asset → ⊥) → (span_before r s || span_before s r) ≡ true
rows_in_order r s other = by (name_cases r.class s.class) (cases_order r.asset s.asset)
  where
    by : NameCases r.class s.class → (r.asset ≡ s.asset) ⊎ ((r.asset < s.asset) ⊎ (s.asset < r.asset)) → (span_before r s || span_before s r) ≡ true
    by (before h) k = or_left (span_before r s) (span_before s r) (first_begins r s (begins_class h))
    by (behind h) k = or_right (span_before r s) (span_before s r) (first_begins s r (begins_class h))
    by (same c) (inl e) = absurd (other e)
    by (same c) (inr (inl l)) = or_left (span_before r s) (span_before s r) (first_begins r s (begins_asset c l))
    by (same c) (inr (inr l)) = or_right (span_before r s) (span_before s r) (first_begins s r (begins_asset (sym c) l))

-- no row is of the asset
abbrev pub IsNew : ℕ → List Span → Type 0
IsNew asset rows = (q : Span) → In q rows → q.asset ≡ asset → ⊥

module _ (row : Span) (rows : List Span) (new : IsNew row.asset rows) where
  comparable : is_comparable span_before row rows ≡ true
  comparable = all_of (λ q. span_before row q || span_before q row) rows (λ q m. rows_in_order row q (λ e. new q m (sym e)))

  abbrev off : Span → Span → Bool
  off r s = same_name r.class s.class && (nat_lt r.to s.from || nat_lt s.to r.from || ((nat_eq r.to s.from || nat_eq s.to r.from) && not (same_side r.side s.side)))

  ahead : list_all (are_apart row) rows ≡ true
  ahead = all_of (are_apart row) rows (λ q m. or_left (not (nat_eq row.asset q.asset)) (off row q) (ap not (ne_eqb row.asset q.asset (λ e. new q m (sym e)))))

  past : list_all (λ q. are_apart q row) rows ≡ true
  past = all_of (λ q. are_apart q row) rows (λ q m. or_left (not (nat_eq q.asset row.asset)) (off q row) (ap not (ne_eqb q.asset row.asset (new q m))))

  pub still_rows : is_row row ≡ true → are_rows rows ≡ true → are_rows (insert_by span_before row rows) ≡ true
  still_rows good h =
      let all = and_parts (list_all is_row rows && each_two span_before rows) (each_two are_apart rows) h in
      let two = and_parts (list_all is_row rows) (each_two span_before rows) all.0 in
      let with = insert_by span_before row rows in
      and_from (list_all is_row with && each_two span_before with) (each_two are_apart with)
      (and_from (list_all is_row with) (each_two span_before with) (all-insert_by is_row span_before row rows good two.0) (each_two-insert_by span_before spans_strict.through row rows comparable two.1))
      (each_two-insert_among are_apart span_before row rows ahead past all.1)
