-- The stretches of rows that follow one another.
use Rattle.std.proofs.Common.{◌≡◌, ℕ, ◌<◌, ◌≤◌, Bool, true, false, cond, Option, Some, None, ◌⊎◌, inl, inr, List, [], ◌∷◌, ◌++◌, refl, sym, ap, subst, ◌∙◌, arith}
use Rattle.std.specs.Prelude.{◌&&◌, nat_lt, if◌then◌else◌}
use Rattle.std.specs.List.{find}
use Rattle.std.specs.Option.{option_and_then}
use Rattle.std.proofs.lemmas.Bool.{lt-ltb, le-ltb, le-leb, lt-leb, cases_lt}
use Rattle.lrs_measure.specs.Texts.{Name}
use Rattle.lrs_measure.specs.Lists.{In}
use Rattle.lrs_events.specs.declared.span.Span.{Span}
use Rattle.lrs_report.specs.declared.columns.ValueStretch.{ValueStretch}
use Rattle.lrs_report.specs.SideValues.{FollowOn, is_at}
use Rattle.lrs_report.specs.Columns.{IsColumn, value_at, gap, stretches_from, stretches_behind}
use Rattle.lrs_report.proofs.Found.{none_found}

-- ---- gaps

gap_column : (from to len : ℕ) (rest : List ValueStretch) → from ≤ to → IsColumn to len rest → IsColumn from len (gap from to ++ rest)
gap_column from to len rest h k = by (cases_lt from to)
  where
    P : Bool → Type 0
    P b = IsColumn from len ((if b then record { to = to; value = None } ∷ [] else []) ++ rest)

    by : (from < to) ⊎ (to ≤ from) → P (nat_lt from to)
    by (inl l) = subst P (sym (lt-ltb from to l)) (l, k)
    by (inr l) =
        let Q : ℕ → Type 0 = λ n. IsColumn n len rest in
        let e : to ≡ from = omega (arith, h, l) in
        subst P (sym (le-ltb from to l)) (subst Q e k)

gap_behind : (from to j : ℕ) (rest : List ValueStretch) → to ≤ j → value_at (gap from to ++ rest) j ≡ value_at rest j
gap_behind from to j rest h = by (nat_lt from to)
  where
    by : (b : Bool) → value_at ((if b then record { to = to; value = None } ∷ [] else []) ++ rest) j ≡ value_at rest j
    by true = ap (λ b. if b then None else value_at rest j) (le-ltb j to h)
    by false = refl

gap_along : (from to j : ℕ) (rest : List ValueStretch) → from ≤ j → j < to → value_at (gap from to ++ rest) j ≡ None
gap_along from to j rest low high =
    ap (λ b. value_at ((if b then record { to = to; value = None } ∷ [] else []) ++ rest) j) (lt-ltb from to (omega (arith, low, high)))
    ∙ ap (λ b. if b then None else value_at rest j) (lt-ltb j to high)

only_gap : (from to : ℕ) → gap from to ≡ gap from to ++ []
only_gap from to = by (nat_lt from to)
  where
    some : List ValueStretch
    some = record { to = to; value = None } ∷ []

    by : (b : Bool) → if◌then◌else◌ {A = List ValueStretch} b some [] ≡ if◌then◌else◌ {A = List ValueStretch} b some [] ++ []
    by true = refl
    by false = refl

-- ---- rows and the gaps between them

follow_le : (from to : ℕ) (rows : List Span) → FollowOn from to rows → from ≤ to
follow_le from to [] h = h
follow_le from to (r ∷ rs) h = let rest = follow_le r.to to rs h.2 in let a = h.0 in let b = h.1 in omega (arith, rest, a, b)

later_than : (from to j : ℕ) (rows : List Span) → FollowOn from to rows → j < from → (r : Span) → In r rows → is_at j r ≡ false
later_than from to j [] h k r m = absurd m
later_than from to j (q ∷ qs) h k r (inl e) = ap (is_at j) e ∙ ap (λ b. b && nat_lt j q.to) (lt-leb q.from j (let a = h.0 in omega (arith, a, k)))
later_than from to j (q ∷ qs) h k r (inr m) = later_than q.to to j qs h.2 (let a = h.0 in let b = h.1 in omega (arith, a, b, k)) r m

module _ (v : ℕ → Option Name) (len : ℕ) where
  abbrev over : ℕ → List Span → Option Name
  over j rows = option_and_then (λ r. v r.asset) (find (is_at j) rows)

  pub stretches_column : (from : ℕ) (rows : List Span) → FollowOn from len rows → IsColumn from len (stretches_from v from len rows)
  stretches_column from [] h = subst (IsColumn from len) (sym (only_gap from len)) (gap_column from len len [] h refl)
  stretches_column from (r ∷ rs) h = gap_column from r.from len (record { to = r.to; value = v r.asset } ∷ stretches_from v r.to len rs) h.0 (h.1, stretches_column r.to rs h.2)

  nothing_over : (from j : ℕ) (rows : List Span) → FollowOn from len rows → j < from → over j rows ≡ None
  nothing_over from j rows h k = ap (option_and_then (λ r. v r.asset)) (none_found (is_at j) rows (later_than from len j rows h k))

  pub stretches_values : (from j : ℕ) (rows : List Span) → FollowOn from len rows → from ≤ j → j < len → value_at (stretches_from v from len rows) j ≡ over j rows
  stretches_values from j [] h low high = ap (λ ss. value_at ss j) (only_gap from len) ∙ gap_along from len j [] low high
  stretches_values from j (r ∷ rs) h low high = by (cases_lt j r.from) (cases_lt j r.to) (stretches_values r.to j rs h.2)
    where
      rest : List ValueStretch
      rest = record { to = r.to; value = v r.asset } ∷ stretches_from v r.to len rs

      by : (j < r.from) ⊎ (r.from ≤ j) → (j < r.to) ⊎ (r.to ≤ j) → (r.to ≤ j → j < len → value_at (stretches_from v r.to len rs) j ≡ over j rs) → value_at (gap from r.from ++ rest) j ≡ over j (r ∷ rs)
      by (inl k) there later =
          let b = h.1 in
          gap_along from r.from j rest low k
          ∙ sym (nothing_over r.from j (r ∷ rs) (omega arith, h.1, h.2) k)
      by (inr k) (inl l) later =
          gap_behind from r.from j rest k
          ∙ ap (λ b. if b then v r.asset else value_at (stretches_from v r.to len rs) j) (lt-ltb j r.to l)
          ∙ sym (λ i. option_and_then (λ q. v q.asset) (cond (le-leb r.from j k i && lt-ltb j r.to l i) (Some r) (find (is_at j) rs)))
      by (inr k) (inr l) later =
          gap_behind from r.from j rest k
          ∙ ap (λ b. if b then v r.asset else value_at (stretches_from v r.to len rs) j) (le-ltb j r.to l)
          ∙ later l high
          ∙ sym (λ i. option_and_then (λ q. v q.asset) (cond (le-leb r.from j k i && le-ltb j r.to l i) (Some r) (find (is_at j) rs)))

-- ---- the first stretch, and those behind it

-- a gap that begins where it ends is none
no_gap : (from to : ℕ) → to ≤ from → gap from to ≡ []
no_gap from to h = ap (λ b. if◌then◌else◌ {A = List ValueStretch} b (record { to = to; value = None } ∷ []) []) (le-ltb from to h)

some_gap : (from to : ℕ) → from < to → gap from to ≡ record { to = to; value = None } ∷ []
some_gap from to h = ap (λ b. if◌then◌else◌ {A = List ValueStretch} b (record { to = to; value = None } ∷ []) []) (lt-ltb from to h)

-- where the first row begins, or the route ends where there is none
abbrev pub next_start : ℕ → List Span → ℕ
next_start len [] = len
next_start len (r ∷ rs) = r.from

module _ (v : ℕ → Option Name) (len from : ℕ) where
  pub gap_first : (rows : List Span) → from < next_start len rows → stretches_behind v len (Some (record { to = next_start len rows; value = None })) rows ≡ stretches_from v from len rows
  gap_first [] h = ap (λ ss. record { to = len; value = None } ∷ ss) (no_gap len len (omega arith)) ∙ sym (some_gap from len h)
  gap_first (r ∷ rs) h =
      let rest : List ValueStretch = record { to = r.to; value = v r.asset } ∷ stretches_from v r.to len rs in
      ap (λ ss. record { to = r.from; value = None } ∷ (ss ++ rest)) (no_gap r.from r.from (omega arith)) ∙ sym (ap (λ ss. ss ++ rest) (some_gap from r.from h))

  pub row_first : (r : Span) (rs : List Span) → r.from ≤ from → stretches_behind v len (Some (record { to = r.to; value = v r.asset })) rs ≡ stretches_from v from len (r ∷ rs)
  row_first r rs h = sym (ap (λ ss. ss ++ record { to = r.to; value = v r.asset } ∷ stretches_from v r.to len rs) (no_gap from r.from h))

  pub none_first : len ≤ from → stretches_behind v len None [] ≡ stretches_from v from len []
  none_first h = sym (no_gap from len h)
