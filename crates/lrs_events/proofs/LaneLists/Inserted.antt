-- Lists in a strict order by one more element, or some.
use Rattle.std.proofs.Common.{◌≡◌, ℕ, ◌+◌, ◌<◌, ◌≤◌, zero, suc, Bool, true, false, cond, not, ◌⊎◌, inl, inr, List, [], ◌∷◌, ◌++◌, length, get_or, filter, drop, refl, sym, ap, subst, ◌∙◌, arith}
use Rattle.std.specs.Prelude.{◌||◌}
use Rattle.std.specs.List.{list_all}
use Rattle.std.specs.List.Sorted.{IsPermutation, IsPartitionedBy, IsSortedBy}
use Rattle.std.specs.Cmp.{IsStrictWeakOrder}
use Rattle.std.proofs.lemmas.Bool.{false≢true, both_ways, and_parts, and_from, or_cases}
use Rattle.std.proofs.lemmas.List.{drop_more, drop_all}
use Rattle.std.proofs.lemmas.List.Sorted.{IsPermutation-refl, IsPermutation-sym, IsPermutation-trans, IsPermutation-insert, IsPermutation-middle, IsPermutation-append_right, IsPermutation-append_comm, sum_by-IsPermutation}
use Rattle.lrs_measure.specs.Lists.{each_two}
use Rattle.lrs_measure.specs.OrderedLists.{place_by, insert_by, insert_all}
use Rattle.lrs_measure.proofs.Members.{all_of, all_weaker}
use Rattle.lrs_measure.proofs.Places.{passes_at}
use Rattle.lrs_measure.proofs.Filters.{filter_all, length-filter}
use Rattle.lrs_measure.proofs.Insertions.{insert_by-place, all-insert_by, length-insert_all, order_of_first}
use Rattle.lrs_events.specs.declared.span.Span.{Span}
use Rattle.lrs_events.specs.Changes.{same_row, has_row, without_rows, changed}
use Rattle.lrs_events.specs.declared.lanes.order.RowOrder.{RowOrder}
use Rattle.lrs_events.specs.LaneLists.Order.{row_before}
use Rattle.lrs_events.proofs.LaneLists.Ranks.{before_trans, row_ranks, row_is, row_itself}
use Rattle.lrs_events.proofs.LaneLists.Strict.{sorted_two, same_sorted}

module _ {X : Type 0} (before : X → X → Bool) where
  -- ---- the place of an element

  -- whether an element does not come after x
  abbrev not_after : X → X → Bool
  not_after x y = not (before x y)

  not_true : (b : Bool) → b ≡ true → not b ≡ true → ⊥
  not_true b h k = false≢true (sym (ap not h) ∙ k)

  -- The elements that x does not come before are a front of the list.
  pub parted : (x : X) (xs : List X) → each_two before (insert_by before x xs) ≡ true → IsPartitionedBy (not_after x) xs
  parted x [] h i j d le within passes = absurd (omega (arith, within))
  parted x (y ∷ ys) h zero zero d le within passes = passes
  parted x (y ∷ ys) h (suc i) zero d le within passes = absurd (omega (arith, le))
  parted x (y ∷ ys) h zero (suc j) d le within passes =
      elim (before x y) as (λ b. each_two before (cond b (x ∷ y ∷ ys) (y ∷ insert_by before x ys)) ≡ true → not b ≡ true) [
        | true ↦ λ k.
            let all = (and_parts (list_all (before x) (y ∷ ys)) (each_two before (y ∷ ys)) k).0 in
            absurd (not_true _ (passes_at (before x) (y ∷ ys) (suc j) d all within) passes)
        | false ↦ λ k. refl
      ] h
  parted x (y ∷ ys) h (suc i) (suc j) d le within passes =
      elim (before x y) as (λ b. each_two before (cond b (x ∷ y ∷ ys) (y ∷ insert_by before x ys)) ≡ true → not_after x (get_or ys i d) ≡ true) [
        | true ↦ λ k.
            let all = (and_parts (list_all (before x) (y ∷ ys)) (each_two before (y ∷ ys)) k).0 in
            absurd (not_true _ (passes_at (before x) (y ∷ ys) (suc j) d all within) passes)
        | false ↦ λ k.
            parted x ys (and_parts (list_all (before y) (insert_by before x ys)) (each_two before (insert_by before x ys)) k).1 i j d (omega (arith, le)) (omega (arith, within)) passes
      ] h

  -- ---- the same elements

  pub IsPermutation-insert_by : (x : X) (xs : List X) → IsPermutation (x ∷ xs) (insert_by before x xs)
  IsPermutation-insert_by x xs = subst (IsPermutation (x ∷ xs)) (sym (insert_by-place before x xs)) (IsPermutation-insert xs (place_by (before x) xs) x)

  pub IsPermutation-insert_all : (xs ys : List X) → IsPermutation (xs ++ ys) (insert_all before xs ys)
  IsPermutation-insert_all [] ys = IsPermutation-refl ys
  IsPermutation-insert_all (x ∷ xs) ys =
      IsPermutation-trans ((x ∷ xs) ++ ys) (xs ++ x ∷ ys) (insert_all before xs (insert_by before x ys))
      (IsPermutation-sym (xs ++ x ∷ ys) (x ∷ (xs ++ ys)) (IsPermutation-middle xs x ys))
      (IsPermutation-trans (xs ++ x ∷ ys) (xs ++ insert_by before x ys) (insert_all before xs (insert_by before x ys))
      (IsPermutation-append_right xs (x ∷ ys) (insert_by before x ys) (IsPermutation-insert_by x ys))
      (IsPermutation-insert_all xs (insert_by before x ys)))

  -- ---- what is inserted in order

  -- each stands in an order with the other
  abbrev pub differs : X → X → Bool
  differs x y = before x y || before y x

  other_holds : (a b : Bool) → a ≡ false → (a || b) ≡ true → b ≡ true
  other_holds a b fails h = by (or_cases a b h)
    where
      by : (a ≡ true) ⊎ (b ≡ true) → b ≡ true
      by (inl e) = absurd (both_ways a fails e)
      by (inr e) = e

  module _ (o : IsStrictWeakOrder before) where
    pub each_two-insert_by : (x : X) (xs : List X) → list_all (differs x) xs ≡ true → each_two before xs ≡ true → each_two before (insert_by before x xs) ≡ true
    each_two-insert_by x [] apart h = refl
    each_two-insert_by x (y ∷ ys) apart h =
        let each = and_parts (differs x y) (list_all (differs x) ys) apart in
        let rises = and_parts (list_all (before y) ys) (each_two before ys) h in
        elim (before x y) as (λ b. before x y ≡ b → each_two before (cond b (x ∷ y ∷ ys) (y ∷ insert_by before x ys)) ≡ true) [
          | true ↦ λ first. and_from (list_all (before x) (y ∷ ys)) (each_two before (y ∷ ys))
              (and_from (before x y) (list_all (before x) ys) first (all_weaker (before y) (before x) ys (λ z k. before_trans before o x y z first k) rises.0)) h
          | false ↦ λ later. and_from (list_all (before y) (insert_by before x ys)) (each_two before (insert_by before x ys))
              (all-insert_by (before y) before x ys (other_holds (before x y) (before y x) later each.0) rises.0) (each_two-insert_by x ys each.1 rises.1)
        ] refl

    each_differs : (x : X) (xs ys : List X) → list_all (differs x) xs ≡ true → list_all (λ z. list_all (differs z) ys) xs ≡ true → list_all (λ z. list_all (differs z) (insert_by before x ys)) xs ≡ true
    each_differs x [] ys apart h = refl
    each_differs x (z ∷ zs) ys apart h =
        let a = and_parts (differs x z) (list_all (differs x) zs) apart in
        let b = and_parts (list_all (differs z) ys) (list_all (λ w. list_all (differs w) ys) zs) h in
        and_from (list_all (differs z) (insert_by before x ys)) (list_all (λ w. list_all (differs w) (insert_by before x ys)) zs)
        (all-insert_by (differs z) before x ys (turned (before x z) (before z x) a.0) b.0) (each_differs x zs ys a.1 b.1)
      where
        turned : (a b : Bool) → (a || b) ≡ true → (b || a) ≡ true
        turned true true e = refl
        turned true false e = refl
        turned false true e = refl
        turned false false e = e

    -- elements that differ come into order
    pub each_two-insert_all : (xs ys : List X) → each_two differs xs ≡ true → list_all (λ x. list_all (differs x) ys) xs ≡ true → each_two before ys ≡ true → each_two before (insert_all before xs ys) ≡ true
    each_two-insert_all [] ys apart h k = k
    each_two-insert_all (x ∷ xs) ys apart h k =
        let a = and_parts (list_all (differs x) xs) (each_two differs xs) apart in
        let b = and_parts (list_all (differs x) ys) (list_all (λ z. list_all (differs z) ys) xs) h in
        each_two-insert_all xs (insert_by before x ys) a.1 (each_differs x xs ys a.0 b.1) (each_two-insert_by x ys b.0 k)

-- ---- rows

-- what is sorted of rows is what they are when one after the other comes in its place
pub sorted_rows : (order : RowOrder) (xs ys zs : List Span) → each_two (row_before order) (insert_all (row_before order) xs ys) ≡ true → IsPermutation (ys ++ xs) zs → IsSortedBy (row_before order) zs
    → zs ≡ insert_all (row_before order) xs ys
sorted_rows order xs ys zs h perm up =
    let all = insert_all (row_before order) xs ys in
    same_sorted (row_before order) (row_ranks order) same_row row_is row_itself all zs h (sorted_two (row_before order) (row_ranks order) zs up)
    (λ p. sum_by-IsPermutation (λ r. cond (p r) 1 0) (ys ++ xs) zs perm
    ∙ sym (sum_by-IsPermutation (λ r. cond (p r) 1 0) (ys ++ xs) all (IsPermutation-trans (ys ++ xs) (xs ++ ys) all (IsPermutation-append_comm ys xs) (IsPermutation-insert_all (row_before order) xs ys))))

-- rows that differ are in order when they are sorted
pub sorted_apart : (order : RowOrder) (xs zs : List Span) → each_two (λ r s. row_before order r s || row_before order s r) xs ≡ true → IsPermutation xs zs → IsSortedBy (row_before order) zs → each_two (row_before order) zs ≡ true
sorted_apart order xs zs apart perm up =
    let before = row_before order in
    let all = each_two-insert_all before (row_ranks order) xs [] apart (all_of (λ r. list_all (differs before r) []) xs (λ r m. refl)) refl in
    ap (each_two before) (sorted_rows order xs [] zs all perm up) ∙ all

-- ---- one after the other

-- one goes before the others
pub without_first : (g : Span) (gs xs : List Span) → without_rows (g ∷ gs) xs ≡ without_rows gs (filter (λ r. not (same_row g r)) xs)
without_first g gs [] = refl
without_first g gs (x ∷ xs) =
    elim (same_row g x) as (λ b. cond (not (b || has_row gs x)) (x ∷ without_rows (g ∷ gs) xs) (without_rows (g ∷ gs) xs) ≡ without_rows gs (cond (not b) (x ∷ filter (λ r. not (same_row g r)) xs) (filter (λ r. not (same_row g r)) xs))) [
      | true ↦ without_first g gs xs
      | false ↦ ap (λ ys. cond (not (has_row gs x)) (x ∷ ys) ys) (without_first g gs xs)
    ]

pub length-changed : (before : Span → Span → Bool) (gone come rows : List Span) → length (changed before gone come rows) ≤ length come + length rows
length-changed before gone come rows =
    let all = length-insert_all before come (without_rows gone rows) in
    let less = length-filter (λ r. not (has_row gone r)) rows in
    omega (arith, all, less)

-- ---- in loops

pub without_more : (gone : List Span) (i : ℕ) (g : Span) (rows new all : List Span) → i < length gone → g ≡ get_or gone i g → new ≡ filter (λ r. not (same_row g r)) rows
    → without_rows (drop i gone) rows ≡ all → without_rows (drop (i + 1) gone) new ≡ all
without_more gone i g rows new all h is e k =
    let d : drop i gone ≡ g ∷ drop (i + 1) gone = drop_more gone i g h ∙ (λ j. sym is j ∷ drop (i + 1) gone) in
    ap (without_rows (drop (i + 1) gone)) e ∙ sym (without_first g (drop (i + 1) gone) rows) ∙ (λ j. without_rows (sym d j) rows) ∙ k

pub without_done : (gone : List Span) (i : ℕ) (rows all : List Span) → length gone ≤ i → without_rows (drop i gone) rows ≡ all → rows ≡ all
without_done gone i rows all h k = sym (filter_all (λ r. not (has_row [] r)) rows (λ r m. refl)) ∙ (λ j. without_rows (sym (drop_all i gone h) j) rows) ∙ k

pub insert_order : {X : Type 0} (before : X → X → Bool) (come : List X) (i : ℕ) (x : X) (rows all : List X) → i < length come → x ≡ get_or come i x
    → insert_all before (drop i come) rows ≡ all → each_two before all ≡ true → each_two before (insert_by before x rows) ≡ true
insert_order before come i x rows all h is k up =
    let d : drop i come ≡ x ∷ drop (i + 1) come = drop_more come i x h ∙ (λ j. sym is j ∷ drop (i + 1) come) in
    order_of_first before (drop (i + 1) come) (insert_by before x rows) ((λ j. each_two before (insert_all before (sym d j) rows)) ∙ ap (each_two before) k ∙ up)
