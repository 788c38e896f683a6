-- Either side is at least each of both, and at most both together.
use Rattle.std.proofs.Common.{◌≡◌, ℕ, ◌+◌, ◌≤◌, Bool, true, false, cond, List, [], ◌∷◌, refl, ap, ◌∙◌, arith, filter, length}
use Rattle.std.specs.Prelude.{◌&&◌, ◌||◌, nat_lt, nat_le}
use Rattle.std.specs.List.{list_any, range_with_len, AllByRecursion}
use Rattle.std.proofs.lemmas.List.Sums.{sum_by-le-sum_by}
use Rattle.lrs_measure.specs.Texts.{Name}
use Rattle.lrs_events.specs.declared.class.Asset.{Asset}
use Rattle.lrs_events.specs.declared.side.Side.{Side}
use Rattle.lrs_events.specs.declared.side.Side.TheVariants.{L, R, B}
use Rattle.lrs_events.specs.declared.span.Span.{Span}
use Rattle.lrs_machine.specs.declared.image.RouteRow.{RouteRow}
use Rattle.lrs_report_lists.specs.WantedRows.{is_of_route}
use Rattle.lrs_report_lists.specs.declared.length_lists.table.ValueLength.{ValueLength}
use Rattle.lrs_report_lists.specs.Length.Lengths.{HasLengths, has_either, has_left, has_right, holds_at, length_of, length_on, tells}
use Rattle.lrs_report_lists.specs.Length.Laws.{AreOfTwoSides, LengthsAreOfTwoSides}
use Rattle.lrs_report_lists.proofs.Length.Counts.{sum-plus}

fewer : (b c : Bool) → (b ≡ true → c ≡ true) → cond b 1 0 ≤ cond c 1 0
fewer true c h = let e = ap {B = ℕ} (λ d. cond d 1 0) (h refl) in omega (arith, e)
fewer false c h = omega arith

no_more : (b c d : Bool) → b ≡ (c || d) → cond b 1 0 ≤ cond c 1 0 + cond d 1 0
no_more b true d h = let e = ap {B = ℕ} (λ x. cond x 1 0) h in omega (arith, e)
no_more b false d h = let e = ap {B = ℕ} (λ x. cond x 1 0) h in omega (arith, e)

two_sides : (side : Side) → has_either side ≡ (has_left side || has_right side)
two_sides L = refl
two_sides R = refl
two_sides B = refl

module _ (assets : List Asset) (class value : Name) where
  abbrev held_at : (Side → Bool) → ℕ → Span → Bool
  held_at counted j r = tells assets class value r && holds_at counted j r

  split_row : (j : ℕ) (r : Span) → held_at has_either j r ≡ (held_at has_left j r || held_at has_right j r)
  split_row j r = ap (λ b. tells assets class value r && ((nat_le r.from j && nat_lt j r.to) && b)) (two_sides r.side) ∙ by (tells assets class value r) (nat_le r.from j && nat_lt j r.to) (has_left r.side) (has_right r.side)
    where
      by : (a b c d : Bool) → (a && (b && (c || d))) ≡ ((a && (b && c)) || (a && (b && d)))
      by true true c d = refl
      by true false c d = refl
      by false b c d = refl

  split_rows : (j : ℕ) (rows : List Span) → list_any (held_at has_either j) rows ≡ (list_any (held_at has_left j) rows || list_any (held_at has_right j) rows)
  split_rows j [] = refl
  split_rows j (r ∷ rows) =
      (λ i. split_row j r i || split_rows j rows i)
      ∙ by (held_at has_left j r) (held_at has_right j r) (list_any (held_at has_left j) rows) (list_any (held_at has_right j) rows)
    where
      by : (a b c d : Bool) → ((a || b) || (c || d)) ≡ ((a || c) || (b || d))
      by true b c d = refl
      by false true true d = refl
      by false true false d = refl
      by false false c d = refl

  from_left : (a b c : Bool) → c ≡ (a || b) → a ≡ true → c ≡ true
  from_left a b c h k = h ∙ ap (λ z. z || b) k

  from_right : (a b c : Bool) → c ≡ (a || b) → b ≡ true → c ≡ true
  from_right true b c h k = h
  from_right false b c h k = h ∙ k

  abbrev counted_on : (Side → Bool) → RouteRow → ℕ
  counted_on counted e = length_on counted assets class value e

  left_on : (e : RouteRow) → counted_on has_left e ≤ counted_on has_either e
  left_on e = sum_by-le-sum_by (λ j. cond (list_any (held_at has_left j) e.spans) 1 0) (λ j. cond (list_any (held_at has_either j) e.spans) 1 0) (range_with_len 0 (length e.route.course))
      (λ j. fewer (list_any (held_at has_left j) e.spans) (list_any (held_at has_either j) e.spans) (from_left (list_any (held_at has_left j) e.spans) (list_any (held_at has_right j) e.spans) (list_any (held_at has_either j) e.spans) (split_rows j e.spans)))

  right_on : (e : RouteRow) → counted_on has_right e ≤ counted_on has_either e
  right_on e = sum_by-le-sum_by (λ j. cond (list_any (held_at has_right j) e.spans) 1 0) (λ j. cond (list_any (held_at has_either j) e.spans) 1 0) (range_with_len 0 (length e.route.course))
      (λ j. fewer (list_any (held_at has_right j) e.spans) (list_any (held_at has_either j) e.spans) (from_right (list_any (held_at has_left j) e.spans) (list_any (held_at has_right j) e.spans) (list_any (held_at has_either j) e.spans) (split_rows j e.spans)))

  both_on : (e : RouteRow) → counted_on has_either e ≤ counted_on has_left e + counted_on has_right e
  both_on e =
      let numbers = range_with_len 0 (length e.route.course) in
      let l = λ (j : ℕ). cond (list_any (held_at has_left j) e.spans) 1 0 in
      let r = λ (j : ℕ). cond (list_any (held_at has_right j) e.spans) 1 0 in
      let most = sum_by-le-sum_by (λ j. cond (list_any (held_at has_either j) e.spans) 1 0) (λ j. l j + r j) numbers
      (λ j. no_more (list_any (held_at has_either j) e.spans) (list_any (held_at has_left j) e.spans) (list_any (held_at has_right j) e.spans) (split_rows j e.spans)) in
      let plus = sum-plus l r numbers in
      omega (arith, most, plus)

  left_of : (routes : List RouteRow) → length_of has_left assets routes class value ≤ length_of has_either assets routes class value
  left_of routes = sum_by-le-sum_by (counted_on has_left) (counted_on has_either) routes left_on

  right_of : (routes : List RouteRow) → length_of has_right assets routes class value ≤ length_of has_either assets routes class value
  right_of routes = sum_by-le-sum_by (counted_on has_right) (counted_on has_either) routes right_on

  both_of : (routes : List RouteRow) → length_of has_either assets routes class value ≤ length_of has_left assets routes class value + length_of has_right assets routes class value
  both_of routes =
      let most = sum_by-le-sum_by (counted_on has_either) (λ e. counted_on has_left e + counted_on has_right e) routes both_on in
      let plus = sum-plus (counted_on has_left) (counted_on has_right) routes in
      omega (arith, most, plus)

each_of_two : (assets : List Asset) (routes : List RouteRow) (lines : List ValueLength) → AllByRecursion (HasLengths assets routes) lines → AllByRecursion AreOfTwoSides lines
each_of_two assets routes [] all = tt
each_of_two assets routes (l ∷ ls) all =
    let h = all.0 in
    let left = h.left_is in
    let right = h.right_is in
    let either = h.length_is in
    let a = left_of assets l.class l.value routes in
    let b = right_of assets l.class l.value routes in
    let c = both_of assets l.class l.value routes in
    (record { left_within = omega (arith, left, either, a); right_within = omega (arith, right, either, b); no_longer = omega (arith, left, right, either, c) }, each_of_two assets routes ls all.1)

pub of_two_sides : LengthsAreOfTwoSides
of_two_sides route i lines lengths = each_of_two i.assets (filter (is_of_route route) i.routes) lines lengths.counts
