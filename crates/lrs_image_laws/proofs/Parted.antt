-- What rows hold on a course that is cut in two, or that goes on as another.
use Rattle.std.proofs.Common.{◌≡◌, ℕ, ◌+◌, ◌<◌, ◌≤◌, Bool, true, false, List, [], ◌∷◌, ◌++◌, take, drop, length, refl, sym, ap, ◌∙◌, arith}
use Rattle.std.specs.Prelude.{◌||◌, ◌&&◌, nat_lt}
use Rattle.std.specs.Cmp as cmp
use Rattle.std.specs.Cmp.Lexicographic.{bytes_decides}
use Rattle.std.proofs.lemmas.Bool.{and_parts, and_from, lt-ltb}
use Rattle.std.proofs.lemmas.List.{take-append-drop, length-take-le}
use Rattle.lrs_measure.specs.Texts.{Name, same_name}
use Rattle.lrs_measure.proofs.Members.{any_found, any_of}
use Rattle.lrs_element.specs.declared.link.Ground.{Ground}
use Rattle.lrs_events.specs.declared.side.LinkSide.{LinkSide}
use Rattle.lrs_events.specs.declared.side.LinkSide.TheVariants.{Left, Right}
use Rattle.lrs_events.specs.declared.span.Span.{Span}
use Rattle.lrs_events.specs.Members.{Picks, stands_for, has_member, is_member}
use Rattle.lrs_events.specs.Places.{Place, same_place, beside}
use Rattle.lrs_events.specs.Spans.{holds_by_spans}
use Rattle.lrs_events.specs.Row.CourseMembers.{is_held, is_picked}
use Rattle.lrs_events.specs.Row.Cuts.{IsCut}
use Rattle.lrs_events.specs.Row.Joins.{IsJoin}
use Rattle.lrs_events.proofs.Row.Picked.{rows_hold}

-- ---- what is said of each class is said of all

module _ (asset j : ℕ) (s : LinkSide) where
  -- what rows say that an asset holds, they say of some class
  pub member_held : (rows : List Span) (class : Name) → is_member rows class asset j s ≡ true → is_held rows asset j s ≡ true
  member_held rows class h =
      let r = any_found (λ r. has_member r class asset j s) rows h in
      any_of (λ r. stands_for r asset j s) r.0 rows r.1 (and_parts (same_name r.0.class class) (stands_for r.0 asset j s) r.2).1

  pub held_member : (rows : List Span) → is_held rows asset j s ≡ true → (class : Name) × (is_member rows class asset j s ≡ true)
  held_member rows h =
      let r = any_found (λ r. stands_for r asset j s) rows h in
      (r.0.class, any_of (λ q. has_member q r.0.class asset j s) r.0 rows r.1 (and_from (same_name r.0.class r.0.class) (stands_for r.0 asset j s) ((bytes_decides r.0.class r.0.class).1 refl) r.2))

-- ... where they say the same of every class at two places
pub held_across : (asset j k : ℕ) (s t : LinkSide) (xs ys : List Span) (b : Bool) → ((class : Name) → is_member xs class asset j s ≡ (is_member ys class asset k t && b)) → is_held xs asset j s ≡ (is_held ys asset k t && b)
held_across asset j k s t xs ys b same = cmp.both_ways (is_held xs asset j s) (is_held ys asset k t && b)
    (λ h.
    let m = held_member asset j s xs h in
    let both = and_parts (is_member ys m.0 asset k t) b (sym (same m.0) ∙ m.1) in
    and_from (is_held ys asset k t) b (member_held asset k t ys m.0 both.0) both.1)
    (λ h.
    let both = and_parts (is_held ys asset k t) b h in
    let m = held_member asset k t ys both.0 in
    member_held asset j s xs m.0 (same m.0 ∙ and_from (is_member ys m.0 asset k t) b m.1 both.1))

pub held_alike : (asset j k : ℕ) (s : LinkSide) (xs ys : List Span) (b : Bool) → ((class : Name) → is_member xs class asset j s ≡ (is_member ys class asset k s && b)) → is_held xs asset j s ≡ (is_held ys asset k s && b)
held_alike asset j k s xs ys b same = held_across asset j k s s xs ys b same

pub and_true : (b : Bool) → (b && true) ≡ b
and_true true = refl
and_true false = refl

pub held_same : (asset j k : ℕ) (s : LinkSide) (xs ys : List Span) → ((class : Name) → is_member xs class asset j s ≡ is_member ys class asset k s) → is_held xs asset j s ≡ is_held ys asset k s
held_same asset j k s xs ys same = held_alike asset j k s xs ys true (λ class. same class ∙ sym (and_true (is_member ys class asset k s))) ∙ and_true (is_held ys asset k s)

-- ---- what a test picks of two courses

or_assoc : (a b c : Bool) → ((a || b) || c) ≡ (a || (b || c))
or_assoc true b c = refl
or_assoc false b c = refl

-- tests that are one along a course pick the same of it
pub picked-within : (m n : Picks) (j : ℕ) (c : List Ground) (p : Place) → ((k : ℕ) (s : LinkSide) → j ≤ k → k < j + length c → m k s ≡ n k s) → is_picked m j c p ≡ is_picked n j c p
picked-within m n j [] p same = refl
picked-within m n j (g ∷ gs) p same =
    let rest = picked-within m n (j + 1) gs p (λ k s low high. same k s (omega arith) (omega arith)) in
    let left = same j Left (omega arith) (omega arith) in
    let right = same j Right (omega arith) (omega arith) in
    λ i. (left i && same_place p (beside g Left)) || ((right i && same_place p (beside g Right)) || rest i)

pub picked-append : (m : Picks) (j : ℕ) (c d : List Ground) (p : Place) → is_picked m j (c ++ d) p ≡ (is_picked m j c p || is_picked m (j + length c) d p)
picked-append m j [] d p = ap (λ k. is_picked m k d p) (omega arith)
picked-append m j (g ∷ gs) d p =
    let l = m j Left && same_place p (beside g Left) in
    let r = m j Right && same_place p (beside g Right) in
    ap (λ t. l || (r || t)) (picked-append m (j + 1) gs d p ∙ ap (λ k. is_picked m (j + 1) gs p || is_picked m k d p) (omega arith))
    ∙ ap (λ t. l || t) (sym (or_assoc r (is_picked m (j + 1) gs p) (is_picked m (j + length (g ∷ gs)) d p)))
    ∙ sym (or_assoc l (r || is_picked m (j + 1) gs p) (is_picked m (j + length (g ∷ gs)) d p))

pub picked-shift : (m : Picks) (by j : ℕ) (c : List Ground) (p : Place) → is_picked m (j + by) c p ≡ is_picked (λ k s. m (k + by) s) j c p
picked-shift m by j [] p = refl
picked-shift m by j (g ∷ gs) p =
    ap (λ t. (m (j + by) Left && same_place p (beside g Left)) || ((m (j + by) Right && same_place p (beside g Right)) || t))
    (ap (λ k. is_picked m k gs p) (omega arith) ∙ picked-shift m by (j + 1) gs p)

-- ---- a course in two parts

-- The parts of a course hold what the whole held.
pub cut_rows_hold : (c : List Ground) (at : ℕ) (rows front rear : List Span) → at ≤ length c → IsCut at rows front rear
    → (asset : ℕ) (p : Place) → (holds_by_spans (take at c) front asset p || holds_by_spans (drop at c) rear asset p) ≡ holds_by_spans c rows asset p
cut_rows_hold c at rows front rear within cut asset p =
    let before = picked-within (is_held front asset) (is_held rows asset) 0 (take at c) p
    (λ k s low high. held_alike asset k k s front rows (nat_lt k at) (λ class. cut.before class asset k s) ∙ ap (λ b. is_held rows asset k s && b) (lt-ltb k at (omega (arith, high, length-take-le at c within))) ∙ and_true (is_held rows asset k s)) in
    let behind = (λ i. is_picked (λ k s. held_same asset k (k + at) s rear rows (λ class. cut.behind class asset k s) i) 0 (drop at c) p) ∙ sym (picked-shift (is_held rows asset) at 0 (drop at c) p) in
    (λ i. rows_hold (take at c) front asset p i || rows_hold (drop at c) rear asset p i)
    ∙ (λ i. before i || behind i)
    ∙ ap (λ k. is_picked (is_held rows asset) 0 (take at c) p || is_picked (is_held rows asset) k (drop at c) p) (omega (arith, length-take-le at c within))
    ∙ sym (picked-append (is_held rows asset) 0 (take at c) (drop at c) p)
    ∙ ap (λ l. is_picked (is_held rows asset) 0 l p) (take-append-drop at c)
    ∙ sym (rows_hold c rows asset p)

-- One course after the other holds what each held.
pub join_rows_hold : (a b : List Ground) (first second rows : List Span) → IsJoin (length a) first second rows
    → (asset : ℕ) (p : Place) → holds_by_spans (a ++ b) rows asset p ≡ (holds_by_spans a first asset p || holds_by_spans b second asset p)
join_rows_hold a b first second rows joined asset p =
    rows_hold (a ++ b) rows asset p
    ∙ picked-append (is_held rows asset) 0 a b p
    ∙ (λ i. before i || behind i)
    ∙ sym (λ i. rows_hold a first asset p i || rows_hold b second asset p i)
  where
    before : is_picked (is_held rows asset) 0 a p ≡ is_picked (is_held first asset) 0 a p
    before = picked-within (is_held rows asset) (is_held first asset) 0 a p (λ k s low high. held_same asset k k s rows first (λ class. joined.before class asset k s (omega (arith, high))))

    behind : is_picked (is_held rows asset) (0 + length a) b p ≡ is_picked (is_held second asset) 0 b p
    behind = picked-shift (is_held rows asset) (length a) 0 b p ∙ (λ i. is_picked (λ k s. held_same asset (k + length a) k s rows second (λ class. joined.behind class asset k s) i) 0 b p)
