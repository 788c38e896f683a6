-- The orders of rows are orders, and rows that are one are equal.
use Rattle.std.proofs.Common.{◌≡◌, ℕ, Bool, true, false, ◌⊎◌, inl, inr, refl, sym, ap, ◌∙◌, arith}
use Rattle.std.specs.Prelude.{◌||◌, ◌&&◌, nat_lt, nat_eq}
use Rattle.std.specs.declared.cmp.Ordering.{Ordering}
use Rattle.std.specs.declared.cmp.Ordering.TheVariants.{Less, Equal, Greater}
use Rattle.std.specs.Ordering.{is_eq, is_lt, ordering_reverse}
use Rattle.std.specs.Cmp.{IsStrictWeakOrder}
use Rattle.std.specs.Cmp.Lexicographic.{nat_list_cmp_total, bytes_decides, texts_ties}
use Rattle.std.proofs.lemmas.Bool.{false≢true, both_ways, and_parts, and_from, and_left, and_right, or_cases, or_parts, or_from, eqb-true, eq-eqb, le-ltb, ltb-false, false_from_ne_true, true_from_ne_false}
use Rattle.std.proofs.lemmas.List.Sorted.{ranks_by, IsStrictWeakOrder-by_number}
use Rattle.lrs_measure.specs.Texts.{Name, name_cmp, same_name, name_before}
use Rattle.lrs_events.specs.declared.side.Side.{Side}
use Rattle.lrs_events.specs.declared.side.Side.TheVariants.{L, R, B}
use Rattle.lrs_events.specs.declared.span.Span.{Span}
use Rattle.lrs_events.specs.Spans.{same_side, span_before}
use Rattle.lrs_events.specs.Changes.{same_row}
use Rattle.lrs_events.specs.declared.lanes.order.RowOrder.{RowOrder}
use Rattle.lrs_events.specs.declared.lanes.order.RowOrder.TheVariants.{ByAsset, ByPlace}
use Rattle.lrs_events.specs.LaneLists.Order.{row_before}

second : (c d : Bool) → (c && d) ≡ false → c ≡ true → d ≡ false
second c d h k = false_from_ne_true d (λ m. both_ways (c && d) h (and_from c d k m))

module _ {X : Type 0} (before : X → X → Bool) (o : IsStrictWeakOrder before) where
  pub itself : (x : X) → before x x ≡ false
  itself x = false_from_ne_true (before x x) (λ h. both_ways (before x x) (o.one_way x x h) h)

  pub before_trans : (x y z : X) → before x y ≡ true → before y z ≡ true → before x z ≡ true
  before_trans x y z h k = true_from_ne_false (before x z) (λ n. both_ways (before x y) (o.chain x z y n (o.one_way y z k)) h)

-- e tells where a does not
pub record IsTie {X : Type 0} (a e : X → X → Bool) : Type 0 where
  pub not_first : (x y : X) → e x y ≡ true → a x y ≡ false
  pub not_second : (x y : X) → e x y ≡ true → a y x ≡ false
  pub tells : (x y : X) → a x y ≡ false → a y x ≡ false → e x y ≡ true

-- by one order, and where it tells nothing by another
module _ {X : Type 0} (a e b : X → X → Bool) (oa : IsStrictWeakOrder a) (t : IsTie a e) (ob : IsStrictWeakOrder b) where
  abbrev then_by : X → X → Bool
  then_by x y = a x y || (e x y && b x y)

  then_one_way : (x y : X) → (a x y ≡ true) ⊎ ((e x y && b x y) ≡ true) → then_by y x ≡ false
  then_one_way x y (inl h) = or_from (a y x) (e y x && b y x) (oa.one_way x y h) (and_left (e y x) (b y x) (false_from_ne_true (e y x) (λ k. both_ways (a x y) (t.not_second y x k) h)))
  then_one_way x y (inr h) =
      let p = and_parts (e x y) (b x y) h in
      or_from (a y x) (e y x && b y x) (t.not_second x y p.0) (and_right (e y x) (b y x) (ob.one_way x y p.1))

  then_chain : (x y z : X) → then_by x y ≡ false → then_by y z ≡ false → then_by x z ≡ false
  then_chain x y z h k =
      let p = or_parts (a x y) (e x y && b x y) h in
      let q = or_parts (a y z) (e y z && b y z) k in
      or_from (a x z) (e x z && b x z) (oa.chain x y z p.0 q.0) (false_from_ne_true (e x z && b x z) (λ w.
      let both = and_parts (e x z) (b x z) w in
      let n = t.not_second x z both.0 in
      let f = second (e x y) (b x y) p.1 (t.tells x y p.0 (oa.chain y z x q.0 n)) in
      let g = second (e y z) (b y z) q.1 (t.tells y z q.0 (oa.chain z x y n p.0)) in
      both_ways (b x z) (ob.chain x y z f g) both.1))

  pub then_ranks : IsStrictWeakOrder then_by
  then_ranks = record { one_way = λ x y h. then_one_way x y (or_cases (a x y) (e x y && b x y) h); chain = then_chain }

number_tie : {X : Type 0} (key : X → ℕ) → IsTie (λ x y. nat_lt (key x) (key y)) (λ x y. nat_eq (key x) (key y))
number_tie key = record {
  not_first = λ x y h. let e = eqb-true (key x) (key y) h in le-ltb (key x) (key y) (omega (arith, e));
  not_second = λ x y h. let e = eqb-true (key x) (key y) h in le-ltb (key y) (key x) (omega (arith, e));
  tells = λ x y h k. let l = ltb-false (key x) (key y) h in let m = ltb-false (key y) (key x) k in eq-eqb (key x) (key y) (omega (arith, l, m));
}

names_rank : IsStrictWeakOrder name_before
names_rank = ranks_by nat_list_cmp_total (λ (c : Name). c)

names_tell : (c d : Name) → name_before c d ≡ false → name_before d c ≡ false → same_name c d ≡ true
names_tell c d h k = by (name_cmp c d) refl
  where
    by : (o : Ordering) → o ≡ name_cmp c d → same_name c d ≡ true
    by Less e = absurd (both_ways (name_before c d) h (ap is_lt (sym e)))
    by Equal e = texts_ties c d ∙ ap is_eq (sym e)
    by Greater e = absurd (both_ways (name_before d c) k (ap is_lt (nat_list_cmp_total.antisymm d c ∙ ap ordering_reverse (sym e))))

name_tie : {X : Type 0} (key : X → Name) → IsTie (λ x y. name_before (key x) (key y)) (λ x y. same_name (key x) (key y))
name_tie key = record {
  not_first = λ x y h. ap (λ z. name_before (key x) z) (sym ((bytes_decides (key x) (key y)).0 h)) ∙ itself name_before names_rank (key x);
  not_second = λ x y h. ap (λ z. name_before z (key x)) (sym ((bytes_decides (key x) (key y)).0 h)) ∙ itself name_before names_rank (key x);
  tells = λ x y h k. names_tell (key x) (key y) h k;
}

-- two rows of one class
pub of_one_class : (r s : Span) → same_name r.class s.class ≡ true → span_before r s ≡ (nat_lt r.asset s.asset || (nat_eq r.asset s.asset && nat_lt r.from s.from))
of_one_class r s h = λ j. (name_tie (λ (c : Name). c)).not_first r.class s.class h j || (h j && (nat_lt r.asset s.asset || (nat_eq r.asset s.asset && nat_lt r.from s.from)))

pub row_ranks : (order : RowOrder) → IsStrictWeakOrder (row_before order)
row_ranks ByAsset =
    then_ranks (λ (r s : Span). name_before r.class s.class) (λ r s. same_name r.class s.class) (λ r s. nat_lt r.asset s.asset || (nat_eq r.asset s.asset && nat_lt r.from s.from))
    (ranks_by nat_list_cmp_total (λ (r : Span). r.class)) (name_tie (λ (r : Span). r.class))
    (then_ranks (λ (r s : Span). nat_lt r.asset s.asset) (λ r s. nat_eq r.asset s.asset) (λ r s. nat_lt r.from s.from)
    (IsStrictWeakOrder-by_number (λ (r : Span). r.asset)) (number_tie (λ (r : Span). r.asset)) (IsStrictWeakOrder-by_number (λ (r : Span). r.from)))
row_ranks ByPlace =
    then_ranks (λ (r s : Span). nat_lt r.from s.from) (λ r s. nat_eq r.from s.from) (λ r s. nat_lt r.asset s.asset)
    (IsStrictWeakOrder-by_number (λ (r : Span). r.from)) (number_tie (λ (r : Span). r.from)) (IsStrictWeakOrder-by_number (λ (r : Span). r.asset))

-- ---- rows that are one

side_is : (a b : Side) → same_side a b ≡ true → a ≡ b
side_is L L h = refl
side_is R R h = refl
side_is B B h = refl
side_is L R h = absurd (false≢true h)
side_is L B h = absurd (false≢true h)
side_is R L h = absurd (false≢true h)
side_is R B h = absurd (false≢true h)
side_is B L h = absurd (false≢true h)
side_is B R h = absurd (false≢true h)

side_itself : (a : Side) → same_side a a ≡ true
side_itself L = refl
side_itself R = refl
side_itself B = refl

pub row_is : (r s : Span) → same_row r s ≡ true → r ≡ s
row_is r s h =
    let a = and_parts (same_name r.class s.class && nat_eq r.asset s.asset && nat_eq r.from s.from && nat_eq r.to s.to) (same_side r.side s.side) h in
    let b = and_parts (same_name r.class s.class && nat_eq r.asset s.asset && nat_eq r.from s.from) (nat_eq r.to s.to) a.0 in
    let c = and_parts (same_name r.class s.class && nat_eq r.asset s.asset) (nat_eq r.from s.from) b.0 in
    let d = and_parts (same_name r.class s.class) (nat_eq r.asset s.asset) c.0 in
    let class = (bytes_decides r.class s.class).0 d.0 in
    let asset = eqb-true r.asset s.asset d.1 in
    let from = eqb-true r.from s.from c.1 in
    let to = eqb-true r.to s.to b.1 in
    let side = side_is r.side s.side a.1 in
    λ i. record { asset = asset i; class = class i; from = from i; to = to i; side = side i }

pub row_itself : (r : Span) → same_row r r ≡ true
row_itself r = λ i. (bytes_decides r.class r.class).1 refl i && eq-eqb r.asset r.asset refl i && eq-eqb r.from r.from refl i && eq-eqb r.to r.to refl i && side_itself r.side i
