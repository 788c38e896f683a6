-- Canonical rows are the maximal runs of what they stand for and of what they hold.
use Rattle.std.proofs.Common.{◌≡◌, ℕ, Bool, true, false, ◌⊎◌, inl, inr, List, [], ◌∷◌, map, length, refl, sym, ap, ◌∙◌}
use Rattle.std.specs.Prelude.{◌||◌, ◌&&◌, nat_eq}
use Rattle.std.specs.List.{list_any, list_all, filter_map}
use Rattle.std.specs.Cmp.Lexicographic.{bytes_decides}
use Rattle.std.proofs.lemmas.Bool.{and_parts, eqb-true, cases_Bool}
use Rattle.lrs_measure.specs.Runs.{runs_of, same_option}
use Rattle.lrs_measure.specs.Texts.{Name, same_name}
use Rattle.lrs_events.specs.declared.side.LinkSide.{LinkSide}
use Rattle.lrs_events.specs.declared.side.LinkSide.TheVariants.{Left, Right}
use Rattle.lrs_events.specs.declared.span.Span.{Span}
use Rattle.lrs_events.specs.Canonical.{side_of, side_held, held_run, canonical_rows}
use Rattle.lrs_events.specs.Members.{between, has_member, is_member, stands_for}
use Rattle.lrs_events.specs.Spans.{same_side}
use Rattle.lrs_events.specs.Row.Members.{is_of}
use Rattle.lrs_events.specs.Row.CourseMembers.{is_held}
use Rattle.lrs_events.specs.Row.RunLaws.{row_run, rows_of_class, rows_of_asset, member_side, RowsAreRuns, RowsAreCanonical, HeldRunsAreOne, are_of_class, HeldRowsAreOne}
use Rattle.lrs_events.proofs.Row.Laid.{is_over, laid, laid_runs, any_passed}
use Rattle.lrs_events.proofs.Row.Picked.{rows_hold, sides_picked}
use Rattle.lrs_events.proofs.Row.Unique.{rows_are_one}

and_assoc : (a b c : Bool) → ((a && b) && c) ≡ (a && (b && c))
and_assoc true b c = refl
and_assoc false b c = refl

-- what rows say of an asset of a class, its rows say
member_over : (rows : List Span) (class : Name) (asset j : ℕ) (s : LinkSide) → is_member rows class asset j s ≡ is_over (rows_of_class class asset rows) j s
member_over rows class asset j s =
    sym (any_passed (is_of class asset) (λ r. between r.from r.to r.side j s) rows
    ∙ (λ i. list_any (λ r. and_assoc (same_name r.class class) (nat_eq r.asset asset) (between r.from r.to r.side j s) i) rows))

pub rows_are_runs : RowsAreRuns
rows_are_runs len rows h k class asset =
    laid_runs (member_side rows class asset) asset len (rows_of_class class asset rows)
    (laid (is_of class asset) asset len rows h k (λ r e. eqb-true r.asset asset (and_parts (same_name r.class class) (nat_eq r.asset asset) e).1))
    (λ j i. side_of (member_over rows class asset j Left i) (member_over rows class asset j Right i))

-- what rows say of an asset, its rows say
held_over : (rows : List Span) (asset j : ℕ) (s : LinkSide) → is_held rows asset j s ≡ is_over (rows_of_asset asset rows) j s
held_over rows asset j s = sym (any_passed (λ r. nat_eq r.asset asset) (λ r. between r.from r.to r.side j s) rows)

pub rows_are_canonical : RowsAreCanonical
rows_are_canonical course rows once h k asset =
    laid_runs (λ j. side_of (is_held rows asset j Left) (is_held rows asset j Right)) asset (length course) (rows_of_asset asset rows)
    (laid (λ r. nat_eq r.asset asset) asset (length course) rows h k (λ r e. eqb-true r.asset asset e))
    (λ j i. side_of (held_over rows asset j Left i) (held_over rows asset j Right i))
    ∙ ap (λ sides. filter_map held_run (runs_of (same_option same_side) sides))
    (sym ((λ i. map (side_held (λ p. rows_hold course rows asset p i)) course) ∙ sides_picked (is_held rows asset) 0 course once))

-- ---- rows that hold the same

pub held_runs_are_one : HeldRunsAreOne
held_runs_are_one course xs ys once hx wx hy wy same asset =
    rows_are_canonical course xs once hx wx asset ∙ (λ i. canonical_rows (λ p. same asset p i) course) ∙ sym (rows_are_canonical course ys once hy wy asset)

over_runs : (rows : List Span) (j : ℕ) (s : LinkSide) → is_over rows j s ≡ list_any (λ u. between u.from u.to u.value j s) (map row_run rows)
over_runs [] j s = refl
over_runs (r ∷ rs) j s = ap (λ t. between r.from r.to r.side j s || t) (over_runs rs j s)

module _ (class_of : ℕ → Name) (class : Name) (asset j : ℕ) (s : LinkSide) where
  both_or : (a b c : Bool) → ((a && b) || (a && c)) ≡ (a && (b || c))
  both_or true b c = refl
  both_or false b c = refl

  -- a row's class is that of its asset
  member_of_row : (r : Span) → same_name r.class (class_of r.asset) ≡ true → has_member r class asset j s ≡ (same_name (class_of asset) class && stands_for r asset j s)
  member_of_row r h = by (cases_Bool (nat_eq r.asset asset))
    where
      none : (a b c : Bool) → (a && (false && c)) ≡ (b && (false && c))
      none true true c = refl
      none true false c = refl
      none false true c = refl
      none false false c = refl

      by : (nat_eq r.asset asset ≡ true) ⊎ (nat_eq r.asset asset ≡ false) → has_member r class asset j s ≡ (same_name (class_of asset) class && stands_for r asset j s)
      by (inl e) =
          let c : r.class ≡ class_of asset = (bytes_decides r.class (class_of r.asset)).0 h ∙ ap class_of (eqb-true r.asset asset e) in
          λ i. same_name (c i) class && stands_for r asset j s
      by (inr e) =
          let it = between r.from r.to r.side j s in
          (λ i. same_name r.class class && (e i && it)) ∙ none (same_name r.class class) (same_name (class_of asset) class) it ∙ sym (λ i. same_name (class_of asset) class && (e i && it))

  pub member_of_asset : (rows : List Span) → are_of_class class_of rows ≡ true → is_member rows class asset j s ≡ (same_name (class_of asset) class && is_held rows asset j s)
  member_of_asset [] h = none (same_name (class_of asset) class)
    where
      none : (a : Bool) → false ≡ (a && false)
      none true = refl
      none false = refl
  member_of_asset (r ∷ rs) h =
      let parts = and_parts (same_name r.class (class_of r.asset)) (list_all (λ q. same_name q.class (class_of q.asset)) rs) h in
      (λ i. member_of_row r parts.0 i || member_of_asset rs parts.1 i) ∙ both_or (same_name (class_of asset) class) (stands_for r asset j s) (is_held rs asset j s)

pub held_rows_are_one : HeldRowsAreOne
held_rows_are_one course class_of xs ys once hx wx cx hy wy cy same =
    rows_are_one xs ys hx hy (λ class asset j s.
    member_of_asset class_of class asset j s xs cx
    ∙ ap (λ b. same_name (class_of asset) class && b) (held asset j s)
    ∙ sym (member_of_asset class_of class asset j s ys cy))
  where
    held : (asset j : ℕ) (s : LinkSide) → is_held xs asset j s ≡ is_held ys asset j s
    held asset j s =
        held_over xs asset j s ∙ over_runs (rows_of_asset asset xs) j s
        ∙ ap (λ us. list_any (λ u. between u.from u.to u.value j s) us) (held_runs_are_one course xs ys once hx wx hy wy same asset)
        ∙ sym (held_over ys asset j s ∙ over_runs (rows_of_asset asset ys) j s)
