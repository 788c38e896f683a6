-- Canonical rows are as few as what is held on a course can be written in.
use Rattle.std.proofs.Common.{◌≡◌, ℕ, ◌+◌, ◌<◌, ◌≤◌, Bool, true, false, Option, Some, None, ◌⊎◌, inl, inr, List, [], ◌∷◌, map, length, refl, sym, ap, ◌∙◌, get_or, arith}
use Rattle.std.specs.Prelude.{◌||◌, ◌&&◌, nat_le, nat_eq, if◌then◌else◌}
use Rattle.std.specs.List.{range_with_len, list_all}
use Rattle.std.specs.Cmp.Lexicographic.{bytes_decides}
use Rattle.std.proofs.lemmas.Bool.{and_parts, and_from, eqb-true, eq-eqb, le-ltb, leb-true, cases_lt, cases_Bool}
use Rattle.std.proofs.lemmas.List.{length-map}
use Rattle.std.proofs.lemmas.List.FromFn.{get_or-map-range_with_len}
use Rattle.lrs_measure.specs.Lists.{In, each_two}
use Rattle.lrs_measure.specs.Texts.{Name, same_name}
use Rattle.lrs_measure.proofs.Members.{all_of}
use Rattle.lrs_element.specs.declared.link.Ground.{Ground}
use Rattle.lrs_events.specs.declared.side.Side.{Side}
use Rattle.lrs_events.specs.declared.side.LinkSide.{LinkSide}
use Rattle.lrs_events.specs.declared.side.LinkSide.TheVariants.{Left, Right}
use Rattle.lrs_events.specs.declared.span.Span.{Span}
use Rattle.lrs_events.specs.Canonical.{side_of, side_held}
use Rattle.lrs_events.specs.Members.{has_side, stands_for, SameMembers}
use Rattle.lrs_events.specs.Spans.{holds_by_spans}
use Rattle.lrs_events.specs.Row.Members.{are_off, begins_at}
use Rattle.lrs_events.specs.Row.CourseMembers.{is_once, is_held}
use Rattle.lrs_events.specs.Row.RunLaws.{end_within, HoldSame, are_of_class, HeldRowsAreFewest}
use Rattle.lrs_events.proofs.Row.Rows.{Pairs, rows_from}
use Rattle.lrs_events.proofs.Row.Picked.{rows_hold, sides_picked}
use Rattle.lrs_events.proofs.Row.RunLaws.{member_of_asset}
use Rattle.lrs_events.proofs.Row.Fewest.{none_is_shorter}

-- ---- what is held is what the rows say

-- whether a side or both or none have this side
abbrev has_of : Option Side → LinkSide → Bool
has_of None s = false
has_of (Some side) s = has_side side s

left_of : (left right : Bool) → has_of (side_of left right) Left ≡ left
left_of true true = refl
left_of true false = refl
left_of false true = refl
left_of false false = refl

right_of : (left right : Bool) → has_of (side_of left right) Right ≡ right
right_of true true = refl
right_of true false = refl
right_of false true = refl
right_of false false = refl

abbrev said : List Span → ℕ → ℕ → Option Side
said rows asset j = side_of (is_held rows asset j Left) (is_held rows asset j Right)

said_is : (rows : List Span) (asset j : ℕ) (s : LinkSide) → has_of (said rows asset j) s ≡ is_held rows asset j s
said_is rows asset j Left = left_of (is_held rows asset j Left) (is_held rows asset j Right)
said_is rows asset j Right = right_of (is_held rows asset j Left) (is_held rows asset j Right)

none_past : (rows : List Span) (len asset j : ℕ) (s : LinkSide) → end_within len rows ≡ true → len ≤ j → is_held rows asset j s ≡ false
none_past [] len asset j s h k = refl
none_past (r ∷ rs) len asset j s h k =
    let parts = and_parts (nat_le r.to len) (end_within len rs) h in
    let end = leb-true r.to len parts.0 in
    let off = le-ltb j r.to (omega (arith, end, k)) in
    (λ i. (nat_eq r.asset asset && ((nat_le r.from j && off i) && has_side r.side s)) || none_past rs len asset j s parts.1 k i)
    ∙ none (nat_eq r.asset asset) (nat_le r.from j) (has_side r.side s)
  where
    none : (a b c : Bool) → ((a && ((b && false) && c)) || false) ≡ false
    none true true c = refl
    none true false c = refl
    none false b c = refl

pub held_is_one : (course : List Ground) (xs ys : List Span) → is_once course ≡ true → end_within (length course) xs ≡ true → end_within (length course) ys ≡ true → HoldSame course xs ys
    → (asset j : ℕ) (s : LinkSide) → is_held xs asset j s ≡ is_held ys asset j s
held_is_one course xs ys once wx wy same asset j s = by (cases_lt j (length course))
  where
    sides : (rows : List Span) → map (side_held (holds_by_spans course rows asset)) course ≡ map (said rows asset) (range_with_len 0 (length course))
    sides rows = (λ i. map (side_held (λ p. rows_hold course rows asset p i)) course) ∙ sides_picked (is_held rows asset) 0 course once

    there : j < length course → said xs asset j ≡ said ys asset j
    there h =
        let zero_on : 0 + j ≡ j = omega arith in
        sym (get_or-map-range_with_len (said xs asset) 0 (length course) j j None h zero_on)
        ∙ ap (λ l. get_or l j None) (sym (sides xs) ∙ (λ i. map (side_held (λ p. same asset p i)) course) ∙ sides ys)
        ∙ get_or-map-range_with_len (said ys asset) 0 (length course) j j None h zero_on

    by : (j < length course) ⊎ (length course ≤ j) → is_held xs asset j s ≡ is_held ys asset j s
    by (inl h) = sym (said_is xs asset j s) ∙ ap (λ o. has_of o s) (there h) ∙ said_is ys asset j s
    by (inr h) = none_past xs (length course) asset j s wx h ∙ sym (none_past ys (length course) asset j s wy h)

-- ---- the class of an asset that has rows

abbrev class_in : List Span → ℕ → Name
class_in [] asset = []
class_in (r ∷ rs) asset = if nat_eq r.asset asset then r.class else class_in rs asset

class_is : (rows : List Span) → Pairs rows → (r : Span) → In r rows → r.class ≡ class_in rows r.asset
class_is [] h r m = absurd m
class_is (q ∷ qs) h r (inl e) = ap (λ z. z.class) e ∙ sym ((λ i. if nat_eq q.asset (e i).asset then q.class else class_in qs (e i).asset) ∙ ap (λ b. if b then q.class else class_in qs q.asset) (eq-eqb q.asset q.asset refl))
class_is (q ∷ qs) h r (inr m) = by (cases_Bool (nat_eq q.asset r.asset)) (class_is qs h.1 r m)
  where
    by : (nat_eq q.asset r.asset ≡ true) ⊎ (nat_eq q.asset r.asset ≡ false) → r.class ≡ class_in qs r.asset → r.class ≡ (if nat_eq q.asset r.asset then q.class else class_in qs r.asset)
    by (inl e) later = sym ((h.0 r m).one_class (eqb-true q.asset r.asset e)) ∙ sym (ap (λ b. if b then q.class else class_in qs r.asset) e)
    by (inr e) later = later ∙ sym (ap (λ b. if b then q.class else class_in qs r.asset) e)

-- ---- rows with those classes

abbrev classed : (ℕ → Name) → Span → Span
classed class_of r = record { asset = r.asset; class = class_of r.asset; from = r.from; to = r.to; side = r.side }

module _ (class_of : ℕ → Name) where
  are_classed : (rows : List Span) → are_of_class class_of (map (classed class_of) rows) ≡ true
  are_classed [] = refl
  are_classed (r ∷ rs) = and_from (same_name (class_of r.asset) (class_of r.asset)) (are_of_class class_of (map (classed class_of) rs)) ((bytes_decides (class_of r.asset) (class_of r.asset)).1 refl) (are_classed rs)

  held_classed : (rows : List Span) (asset j : ℕ) (s : LinkSide) → is_held (map (classed class_of) rows) asset j s ≡ is_held rows asset j s
  held_classed [] asset j s = refl
  held_classed (r ∷ rs) asset j s = ap (λ t. stands_for r asset j s || t) (held_classed rs asset j s)

  off_classed : (r : Span) (rows : List Span) → list_all (are_off (classed class_of r)) (map (classed class_of) rows) ≡ list_all (are_off r) rows
  off_classed r [] = refl
  off_classed r (q ∷ qs) = ap (λ t. are_off r q && t) (off_classed r qs)

  all_off_classed : (rows : List Span) → each_two are_off (map (classed class_of) rows) ≡ each_two are_off rows
  all_off_classed [] = refl
  all_off_classed (r ∷ rs) = λ i. off_classed r rs i && all_off_classed rs i

  begins_classed : (rows : List Span) (r : Span) → begins_at (map (classed class_of) rows) r ≡ begins_at rows r
  begins_classed [] r = refl
  begins_classed (q ∷ qs) r = ap (λ t. (nat_eq q.asset r.asset && nat_eq q.from r.from) || t) (begins_classed qs r)

pub held_rows_are_fewest : HeldRowsAreFewest
held_rows_are_fewest course xs ys once hx wx off wy same =
    let found = none_is_shorter xs others hx (all_off_classed class_of ys ∙ off) members in
    let starts = found.starts in
    let fewest = found.fewest in
    record {
      starts = sym (λ i. list_all (λ r. begins_classed class_of ys r i) xs) ∙ starts;
      fewest = omega (arith, fewest, length-map ys (classed class_of));
    }
  where
    class_of : ℕ → Name
    class_of = class_in xs

    others : List Span
    others = map (classed class_of) ys

    of_class : are_of_class class_of xs ≡ true
    of_class = all_of (λ r. same_name r.class (class_of r.asset)) xs (λ r m. (bytes_decides r.class (class_of r.asset)).1 (class_is xs (rows_from xs hx).pairs r m))

    members : SameMembers xs others
    members class asset j s =
        member_of_asset class_of class asset j s xs of_class
        ∙ ap (λ b. same_name (class_of asset) class && b) (held_is_one course xs ys once wx wy same asset j s ∙ sym (held_classed class_of ys asset j s))
        ∙ sym (member_of_asset class_of class asset j s others (are_classed class_of ys))
