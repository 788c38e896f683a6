-- The order of the road is an order, and no two rows of a route tie in it: so a sort makes one list of them.
use Rattle.std.proofs.Common.{◌≡◌, ℕ, Bool, true, false, cond, ◌⊎◌, inl, inr, List, [], filter, IsPermutation, append-nil, refl, sym, subst, ◌∙◌, arith}
use Rattle.std.specs.Prelude.{◌||◌, ◌&&◌, IsTrue, nat_eq, nat_lt}
use Rattle.std.specs.Cmp.{IsStrictWeakOrder}
use Rattle.std.specs.Cmp.Lexicographic.{nat_list_cmp_total}
use Rattle.std.specs.List.{list_all}
use Rattle.std.specs.List.Sorted.{IsSortedBy}
use Rattle.std.proofs.lemmas.Bool.{and_from, and_parts, both_ways, cases_Bool, eq-eqb, eqb-true, le-ltb, ltb-false, or_cases, or_left, or_right}
use Rattle.std.proofs.lemmas.List.Sorted.{IsStrictWeakOrder-by_number, ranks_by, sum_by-IsPermutation}
use Rattle.lrs_measure.specs.Lists.{each_two}
use Rattle.lrs_measure.specs.Texts.{name_before, same_name}
use Rattle.lrs_measure.proofs.EachTwo.{two_passing}
use Rattle.lrs_measure.proofs.Filters.{each_two-filter}
use Rattle.lrs_measure.proofs.Members.{all_of}
use Rattle.lrs_events.specs.Changes.{same_row}
use Rattle.lrs_events.specs.declared.side.Side.{Side}
use Rattle.lrs_events.specs.declared.side.Side.TheVariants.{L, R, B}
use Rattle.lrs_events.specs.declared.span.Span.{Span}
use Rattle.lrs_events.specs.Spans.{are_apart, are_rows, is_row, same_side, span_before}
use Rattle.lrs_machine.specs.declared.question.RowsWanted.{RowsWanted}
use Rattle.lrs_events.proofs.LaneLists.Inserted.{IsPermutation-insert_all, differs, each_two-insert_all}
use Rattle.lrs_events.proofs.LaneLists.Ranks.{IsTie, row_is, row_itself, then_ranks}
use Rattle.lrs_events.proofs.LaneLists.Strict.{same_sorted, sorted_two}
use Rattle.lrs_report_lists.specs.RoadOrder.{holder_before, in_road_order, road_before, side_before, side_rank}
use Rattle.lrs_report_lists.specs.Laws.{RowsAreToldInOrder}
use Rattle.lrs_report_lists.specs.WantedRows.{is_wanted}
use Rattle.lrs_report_lists.proofs.Length.Ranks.{name_tie}

-- ---- the order

number_tie : {X : Type 0} (key : X → ℕ) → IsTie (λ x y. nat_lt (key x) (key y)) (λ x y. nat_eq (key x) (key y))
number_tie key = record {
  not_first = λ x y h. let e = eqb-true (key x) (key y) h in le-ltb (key x) (key y) (omega (arith, e));
  not_second = λ x y h. let e = eqb-true (key x) (key y) h in le-ltb (key y) (key x) (omega (arith, e));
  tells = λ x y h k. let l = ltb-false (key x) (key y) h in let m = ltb-false (key y) (key x) k in eq-eqb (key x) (key y) (omega (arith, l, m));
}

abbrev rank_of : Span → ℕ
rank_of r = side_rank r.side

-- sides of one rank are one
same_rank : (a b : Side) → same_side a b ≡ nat_eq (side_rank a) (side_rank b)
same_rank L L = refl
same_rank L R = refl
same_rank L B = refl
same_rank R L = refl
same_rank R R = refl
same_rank R B = refl
same_rank B L = refl
same_rank B R = refl
same_rank B B = refl

side_tie : IsTie (λ (r s : Span). nat_lt (side_rank r.side) (side_rank s.side)) (λ r s. same_side r.side s.side)
side_tie = record {
  not_first = λ r s h. (number_tie rank_of).not_first r s (sym (same_rank r.side s.side) ∙ h);
  not_second = λ r s h. (number_tie rank_of).not_second r s (sym (same_rank r.side s.side) ∙ h);
  tells = λ r s h k. same_rank r.side s.side ∙ (number_tie rank_of).tells r s h k;
}

holder_ranks : IsStrictWeakOrder holder_before
holder_ranks =
    then_ranks (λ (r s : Span). name_before r.class s.class) (λ r s. same_name r.class s.class) (λ r s. nat_lt r.asset s.asset)
    (ranks_by nat_list_cmp_total (λ (r : Span). r.class)) (name_tie (λ (r : Span). r.class)) (IsStrictWeakOrder-by_number (λ (r : Span). r.asset))

side_ranks : IsStrictWeakOrder side_before
side_ranks =
    then_ranks (λ (r s : Span). nat_lt (side_rank r.side) (side_rank s.side)) (λ r s. same_side r.side s.side) holder_before
    (IsStrictWeakOrder-by_number rank_of) side_tie holder_ranks

pub road_ranks : IsStrictWeakOrder road_before
road_ranks =
    then_ranks (λ (r s : Span). nat_lt r.from s.from) (λ r s. nat_eq r.from s.from) side_before
    (IsStrictWeakOrder-by_number (λ (r : Span). r.from)) (number_tie (λ (r : Span). r.from)) side_ranks

-- ---- no two rows of a route tie

-- what one order tells or the next tells where it ties
then_differs : {X : Type 0} (a e b : X → X → Bool) → IsTie a e → (x y : X) → (b x y || b y x) ≡ true → ((a x y || (e x y && b x y)) || (a y x || (e y x && b y x))) ≡ true
then_differs a e b t x y h = by (cases_Bool (a x y)) (cases_Bool (a y x)) (or_cases (b x y) (b y x) h)
  where
    by : (a x y ≡ true) ⊎ (a x y ≡ false) → (a y x ≡ true) ⊎ (a y x ≡ false) → (b x y ≡ true) ⊎ (b y x ≡ true) → ((a x y || (e x y && b x y)) || (a y x || (e y x && b y x))) ≡ true
    by (inl p) q r = or_left (a x y || (e x y && b x y)) (a y x || (e y x && b y x)) (or_left (a x y) (e x y && b x y) p)
    by (inr p) (inl q) r = or_right (a x y || (e x y && b x y)) (a y x || (e y x && b y x)) (or_left (a y x) (e y x && b y x) q)
    by (inr p) (inr q) (inl r) = or_left (a x y || (e x y && b x y)) (a y x || (e y x && b y x)) (or_right (a x y) (e x y && b x y) (and_from (e x y) (b x y) (t.tells x y p q) r))
    by (inr p) (inr q) (inr r) = or_right (a x y || (e x y && b x y)) (a y x || (e y x && b y x)) (or_right (a y x) (e y x && b y x) (and_from (e y x) (b y x) (t.tells y x q p) r))

-- of two rows that begin together, the one that the route keeps first is of an earlier class or asset
held_before : (r s : Span) → span_before r s ≡ true → nat_lt r.from s.from ≡ false → holder_before r s ≡ true
held_before r s h n = by (or_cases (name_before r.class s.class) (same_name r.class s.class && (nat_lt r.asset s.asset || (nat_eq r.asset s.asset && nat_lt r.from s.from))) h)
  where
    asset : (nat_lt r.asset s.asset ≡ true) ⊎ ((nat_eq r.asset s.asset && nat_lt r.from s.from) ≡ true) → nat_lt r.asset s.asset ≡ true
    asset (inl e) = e
    asset (inr e) = absurd (both_ways (nat_lt r.from s.from) n (and_parts (nat_eq r.asset s.asset) (nat_lt r.from s.from) e).1)

    by : (name_before r.class s.class ≡ true) ⊎ ((same_name r.class s.class && (nat_lt r.asset s.asset || (nat_eq r.asset s.asset && nat_lt r.from s.from))) ≡ true) → holder_before r s ≡ true
    by (inl e) = or_left (name_before r.class s.class) (same_name r.class s.class && nat_lt r.asset s.asset) e
    by (inr e) =
        let both = and_parts (same_name r.class s.class) (nat_lt r.asset s.asset || (nat_eq r.asset s.asset && nat_lt r.from s.from)) e in
        or_right (name_before r.class s.class) (same_name r.class s.class && nat_lt r.asset s.asset)
        (and_from (same_name r.class s.class) (nat_lt r.asset s.asset) both.0 (asset (or_cases (nat_lt r.asset s.asset) (nat_eq r.asset s.asset && nat_lt r.from s.from) both.1)))

pub rows_differ : (r s : Span) → span_before r s ≡ true → differs road_before r s ≡ true
rows_differ r s h = by (cases_Bool (nat_lt r.from s.from))
  where
    by : (nat_lt r.from s.from ≡ true) ⊎ (nat_lt r.from s.from ≡ false) → differs road_before r s ≡ true
    by (inl p) = or_left (road_before r s) (road_before s r) (or_left (nat_lt r.from s.from) (nat_eq r.from s.from && side_before r s) p)
    by (inr n) =
        then_differs (λ (x y : Span). nat_lt x.from y.from) (λ x y. nat_eq x.from y.from) side_before (number_tie (λ (x : Span). x.from)) r s
        (then_differs (λ (x y : Span). nat_lt (side_rank x.side) (side_rank y.side)) (λ x y. same_side x.side y.side) holder_before side_tie r s
        (or_left (holder_before r s) (holder_before s r) (held_before r s h n)))

-- ---- the one list

pub same_in_order : (rows : List Span) → IsPermutation rows (in_road_order rows)
same_in_order rows = subst (λ (z : List Span). IsPermutation z (in_road_order rows)) (append-nil rows) (IsPermutation-insert_all road_before rows [])

pub each_in_order : (rows : List Span) → each_two span_before rows ≡ true → each_two road_before (in_road_order rows) ≡ true
each_in_order rows h =
    each_two-insert_all road_before road_ranks rows [] (two_passing span_before (differs road_before) rows_differ rows h) (all_of (λ r. list_all (differs road_before r) []) rows (λ r m. refl)) refl

-- what a sort makes of the rows of a route
pub sorted_by_road : (rows zs : List Span) → each_two span_before rows ≡ true → IsPermutation rows zs → IsSortedBy road_before zs → zs ≡ in_road_order rows
sorted_by_road rows zs h perm up =
    same_sorted road_before road_ranks same_row row_is row_itself (in_road_order rows) zs (each_in_order rows h) (sorted_two road_before road_ranks zs up)
    (λ p. sum_by-IsPermutation (λ r. cond (p r) 1 0) rows zs perm ∙ sym (sum_by-IsPermutation (λ r. cond (p r) 1 0) rows (in_road_order rows) (same_in_order rows)))

-- ---- the rows of a route that are asked for

pub wanted_as_kept : (w : RowsWanted) (rows : List Span) → IsTrue (are_rows rows) → each_two span_before (filter (is_wanted w) rows) ≡ true
wanted_as_kept w rows h =
    each_two-filter span_before (is_wanted w) rows
    (and_parts (list_all is_row rows) (each_two span_before rows) (and_parts (list_all is_row rows && each_two span_before rows) (each_two are_apart rows) h).0).1

pub told_in_order : RowsAreToldInOrder
told_in_order w rows h = record { same = same_in_order (filter (is_wanted w) rows); order = each_in_order (filter (is_wanted w) rows) (wanted_as_kept w rows h) }
