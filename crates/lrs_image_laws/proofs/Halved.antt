-- The two parts of a route at an inner mark are routes, and its rows are rows of theirs.
use Rattle.std.proofs.Common.{◌≡◌, ℕ, ◌+◌, ◌-◌, ◌<◌, ◌≤◌, true, false, ◌⊎◌, inl, inr, List, [], ◌∷◌, map, filter, take, drop, length, Option, Some, None, refl, sym, ap, subst, ◌∙◌, arith}
use Rattle.std.specs.Prelude.{◌&&◌, not, nat_lt, nat_le, nat_eq, is_none}
use Rattle.std.specs.List.{list_any, list_all}
use Rattle.std.specs.Cmp.Lexicographic.{bytes_decides}
use Rattle.std.proofs.lemmas.Bool.{false≢true, both_ways, not-true, and_parts, and_from, ltb-true, lt-ltb, leb-true, le-leb, eqb-true, eq-eqb, cases_lt}
use Rattle.std.proofs.lemmas.List.{length-take-le, length-drop}
use Rattle.std.proofs.lemmas.List.Folds.{list_all-map}
use Rattle.lrs_measure.specs.Lists.{In, each_two, is_nothing}
use Rattle.lrs_measure.specs.Texts.{Name, same_name}
use Rattle.lrs_measure.proofs.Members.{any_found, any_of, all_at, all_of, In-filter}
use Rattle.lrs_measure.proofs.Filters.{each_two-filter}
use Rattle.lrs_element.specs.declared.link.Ground.{Ground}
use Rattle.lrs_element.specs.Course.{is_too_long}
use Rattle.lrs_element.specs.Marks.{bad_mark, last_mark, is_inner_mark, marks_to, marks_from}
use Rattle.lrs_element.proofs.Lining.{IsInner, IsLine-from_none, IsLine-front, IsLine-back, none_from_IsLine, inner_place, marks_to_is, marks_from_is}
use Rattle.lrs_element.proofs.LineLemmas.{KeepRules-from_none, ends_at}
use Rattle.lrs_element.specs.Lines.{IsLine}
use Rattle.lrs_position.specs.declared.route.Referent.{Referent}
use Rattle.lrs_position.specs.declared.route.Route.{Route}
use Rattle.lrs_position.specs.Routes.{is_route, is_route_course, have_marks, are_referents, referent_before}
use Rattle.lrs_events.specs.declared.class.Asset.{Asset}
use Rattle.lrs_events.specs.declared.side.LinkSide.{LinkSide}
use Rattle.lrs_events.specs.declared.side.LinkSide.TheVariants.{Left, Right}
use Rattle.lrs_events.specs.declared.side.Side.{Side}
use Rattle.lrs_events.specs.declared.side.Side.TheVariants.{L, R, B}
use Rattle.lrs_events.specs.declared.span.Span.{Span}
use Rattle.lrs_events.specs.Members.{has_side, between, stands_for, has_member, is_member}
use Rattle.lrs_events.specs.Spans.{are_rows, is_row, span_before, are_apart}
use Rattle.lrs_events.specs.Row.Cuts.{IsCut}
use Rattle.lrs_machine.specs.Sound.{is_span, are_spans_of}
use Rattle.lrs_machine.proofs.Pairs.{each_two-map}
use Rattle.lrs_machine.proofs.SoundImages.{and_three}
use Rattle.lrs_image_laws.specs.Splits.{back_by, is_ahead, PartsAreRoutes, PartsHaveRows}

-- ---- the parts of a route

pub some : (xs : List Ground) → 0 < length xs → not (is_nothing xs) ≡ true
some [] h = absurd (omega (arith, h))
some (x ∷ xs) h = refl

module _ (r : Route) where
  pub its_parts : (is_route_course r.course ≡ true) × (have_marks r.course r.marks ≡ true) × (are_referents (length r.course) r.refs ≡ true)
  its_parts = and_three (is_route_course r.course) (have_marks r.course r.marks) (are_referents (length r.course) r.refs) r.fits

  none_bad : bad_mark (length r.course) r.marks ≡ None
  none_bad = by (bad_mark (length r.course) r.marks) its_parts.1
    where
      by : (o : Option ℕ) → is_none o ≡ true → o ≡ None
      by None h = refl
      by (Some n) h = absurd (false≢true h)

  -- its marks rise along its course
  pub its_line : IsLine (length r.course) r.marks
  its_line = IsLine-from_none (length r.course) r.marks none_bad

module _ (r : Route) (at : ℕ) (inner : is_inner_mark r.marks at ≡ true) where
  abbrev len : ℕ
  len = length r.course

  its : (is_route_course r.course ≡ true) × (have_marks r.course r.marks ≡ true) × (are_referents len r.refs ≡ true)
  its = its_parts r

  line : IsLine len r.marks
  line = its_line r

  place : (n : ℕ) × IsInner (last_mark r.marks).chainage r.marks at n
  place = inner_place r.marks at inner

  here : IsInner len r.marks at place.0
  here = subst (λ n. IsInner n r.marks at place.0) (ends_at len r.marks (KeepRules-from_none len r.marks its.1)) place.1

  front_length : length (take at r.course) ≡ at
  front_length = length-take-le at r.course (let b = here.below in omega (arith, b))

  rear_length : length (drop at r.course) ≡ len - at
  rear_length = length-drop at r.course

  pub front_fits : is_too_long (take at r.course) ≡ false → is_route (take at r.course) (marks_to at r.marks) (filter (is_ahead at) r.refs) ≡ true
  front_fits short =
      and_from (is_route_course (take at r.course) && have_marks (take at r.course) (marks_to at r.marks)) (are_referents (length (take at r.course)) (filter (is_ahead at) r.refs))
      (and_from (is_route_course (take at r.course)) (have_marks (take at r.course) (marks_to at r.marks))
      (and_from (not (is_nothing (take at r.course))) (not (is_too_long (take at r.course))) (some (take at r.course) (let a = here.above in let e = front_length in omega (arith, a, e))) (ap not short))
      (ap (λ n. is_none (bad_mark n (marks_to at r.marks))) front_length
      ∙ ap (λ l. is_none (bad_mark at l)) (marks_to_is len r.marks at place.0 line here.mark) ∙ ap is_none (none_from_IsLine at (take (place.0 + 1) r.marks) (IsLine-front len r.marks at place.0 line here))))
      (ap (λ n. are_referents n (filter (is_ahead at) r.refs)) front_length
      ∙ and_from (each_two referent_before (filter (is_ahead at) r.refs)) (list_all (is_ahead at) (filter (is_ahead at) r.refs))
      (each_two-filter referent_before (is_ahead at) r.refs (and_parts (each_two referent_before r.refs) (list_all (λ q. nat_lt q.at len) r.refs) its.2).0)
      (all_of (is_ahead at) (filter (is_ahead at) r.refs) (λ q m. (In-filter (is_ahead at) q r.refs m).1)))

  abbrev behind : List Referent
  behind = filter (λ q. not (is_ahead at q)) r.refs

  stands : (q : Referent) → In q behind → nat_lt (q.at - at) (len - at) ≡ true
  stands q m =
      let k = In-filter (λ q. not (is_ahead at q)) q r.refs m in
      let low = ltb-true q.at len (all_at (λ (q : Referent). nat_lt q.at len) q r.refs (and_parts (each_two referent_before r.refs) (list_all (λ (q : Referent). nat_lt q.at len) r.refs) its.2).1 k.0) in
      by low (cases_lt q.at at) (not-true (is_ahead at q) k.1)
    where
      by : q.at < len → (q.at < at) ⊎ (at ≤ q.at) → is_ahead at q ≡ false → nat_lt (q.at - at) (len - at) ≡ true
      by low (inl h) fails = absurd (both_ways (is_ahead at q) fails (lt-ltb q.at at h))
      by low (inr h) fails = lt-ltb (q.at - at) (len - at) (omega (arith, low, h))

  pub rear_fits : is_too_long (drop at r.course) ≡ false → is_route (drop at r.course) (marks_from at r.marks) (map (back_by at) behind) ≡ true
  rear_fits short =
      and_from (is_route_course (drop at r.course) && have_marks (drop at r.course) (marks_from at r.marks)) (are_referents (length (drop at r.course)) (map (back_by at) behind))
      (and_from (is_route_course (drop at r.course)) (have_marks (drop at r.course) (marks_from at r.marks))
      (and_from (not (is_nothing (drop at r.course))) (not (is_too_long (drop at r.course))) (some (drop at r.course) (let a = here.below in let e = rear_length in omega (arith, a, e))) (ap not short))
      (ap (λ n. is_none (bad_mark n (marks_from at r.marks))) rear_length
      ∙ ap (λ l. is_none (bad_mark (len - at) l)) (marks_from_is len r.marks at place.0 line here.mark) ∙ ap is_none (none_from_IsLine (len - at) _ (IsLine-back len r.marks at place.0 line here))))
      (ap (λ n. are_referents n (map (back_by at) behind)) rear_length
      ∙ and_from (each_two referent_before (map (back_by at) behind)) (list_all (λ q. nat_lt q.at (len - at)) (map (back_by at) behind))
      (each_two-map referent_before (back_by at) behind ∙ each_two-filter referent_before (λ q. not (is_ahead at q)) r.refs (and_parts (each_two referent_before r.refs) (list_all (λ q. nat_lt q.at len) r.refs) its.2).0)
      (list_all-map (λ (q : Referent). nat_lt q.at (len - at)) (back_by at) behind ∙ all_of (λ (q : Referent). nat_lt (q.at - at) (len - at)) behind stands))

  pub inside : at ≤ len
  inside = let b = here.below in omega (arith, b)

pub parts_are_routes : PartsAreRoutes
parts_are_routes r at inner front rear = (inside r at inner, front_fits r at inner front, rear_fits r at inner rear)

-- ---- the parts of its rows

-- a side of a row
pub side_at : (s : Side) → (t : LinkSide) × (has_side s t ≡ true)
side_at L = (Left, refl)
side_at R = (Right, refl)
side_at B = (Left, refl)

-- what rows say at the end of a row they say by a row of its class and asset
pub record IsOf (q r : Span) (j : ℕ) : Type 0 where
  pub class : r.class ≡ q.class
  pub asset : r.asset ≡ q.asset
  pub high : j < r.to

-- a row says what it says at its last millimetre
pub its_end : (q : Span) (rows : List Span) → In q rows → q.from < q.to → is_member rows q.class q.asset (q.to - 1) (side_at q.side).0 ≡ true
its_end q rows m filled =
    let s = side_at q.side in
    any_of (λ r. has_member r q.class q.asset (q.to - 1) s.0) q rows m
    (and_from (same_name q.class q.class) (stands_for q q.asset (q.to - 1) s.0) ((bytes_decides q.class q.class).1 refl)
    (and_from (nat_eq q.asset q.asset) (between q.from q.to q.side (q.to - 1) s.0) (eq-eqb q.asset q.asset refl)
    (and_from (nat_le q.from (q.to - 1) && nat_lt (q.to - 1) q.to) (has_side q.side s.0)
    (and_from (nat_le q.from (q.to - 1)) (nat_lt (q.to - 1) q.to) (le-leb q.from (q.to - 1) (omega (arith, filled))) (lt-ltb (q.to - 1) q.to (omega (arith, filled)))) s.1)))

pub found : (q : Span) (rows : List Span) (j : ℕ) (s : LinkSide) → is_member rows q.class q.asset j s ≡ true → (r : Span) × In r rows × IsOf q r j
found q rows j s h =
    let r = any_found (λ r. has_member r q.class q.asset j s) rows h in
    let a = and_parts (same_name r.0.class q.class) (stands_for r.0 q.asset j s) r.2 in
    let b = and_parts (nat_eq r.0.asset q.asset) (between r.0.from r.0.to r.0.side j s) a.1 in
    let c = and_parts (nat_le r.0.from j && nat_lt j r.0.to) (has_side r.0.side s) b.1 in
    (r.0, r.1, record { class = (bytes_decides r.0.class q.class).0 a.0; asset = eqb-true r.0.asset q.asset b.0; high = ltb-true j r.0.to (and_parts (nat_le r.0.from j) (nat_lt j r.0.to) c.0).1 })

pub filled_in : (rows : List Span) → are_rows rows ≡ true → (q : Span) → In q rows → q.from < q.to
filled_in rows h q m =
    let all = (and_parts (list_all is_row rows) (each_two span_before rows) (and_parts (list_all is_row rows && each_two span_before rows) (each_two are_apart rows) h).0).0 in
    ltb-true q.from q.to (and_parts (nat_lt q.from q.to) _ (all_at is_row q rows all m)).0

module _ (assets : List Asset) (course : List Ground) (rows : List Span) (spans : are_spans_of assets (record { course = course; rows = rows }) ≡ true) where
  all_spans : list_all (is_span assets (length course)) rows ≡ true
  all_spans = (and_parts (are_rows rows) (list_all (is_span assets (length course)) rows) spans).1

  -- a row of the class and asset of one of the route's, that ends there
  pub is_theirs : (q r : Span) (j len : ℕ) → In r rows → IsOf q r j → (r.to ≤ length course → q.to ≤ len) → is_span assets len q ≡ true
  is_theirs q r j len m of ends =
      let both = and_parts (nat_le r.to (length course)) (list_any (λ a. nat_eq a.number r.asset && same_name a.class r.class) assets) (all_at (is_span assets (length course)) r rows all_spans m) in
      and_from (nat_le q.to len) (list_any (λ a. nat_eq a.number q.asset && same_name a.class q.class) assets) (le-leb q.to len (ends (leb-true r.to (length course) both.0)))
      ((λ k. list_any (λ a. nat_eq a.number (sym of.asset k) && same_name a.class (sym of.class k)) assets) ∙ both.1)

  -- Canonical rows that say nothing that the route's rows do not say are rows of the route.
  pub fewer_have_rows : (fewer : List Span) → are_rows fewer ≡ true → ((class : Name) (asset j : ℕ) (s : LinkSide) → is_member fewer class asset j s ≡ true → is_member rows class asset j s ≡ true)
      → are_spans_of assets (record { course = course; rows = fewer }) ≡ true
  fewer_have_rows fewer canonical said = and_from (are_rows fewer) (list_all (is_span assets (length course)) fewer) canonical
      (all_of (is_span assets (length course)) fewer (λ q m.
      let filled = filled_in fewer canonical q m in
      let s = (side_at q.side).0 in
      let r = found q rows (q.to - 1) s (said q.class q.asset (q.to - 1) s (its_end q fewer m filled)) in
      let high = r.2.high in
      is_theirs q r.0 (q.to - 1) (length course) r.1 r.2 (λ h. omega (arith, high, h, filled))))

module _ (assets : List Asset) (course : List Ground) (at : ℕ) (rows front rear : List Span) (within : at ≤ length course) (cut : IsCut at rows front rear) (spans : are_spans_of assets (record { course = course; rows = rows }) ≡ true) where
  pub front_spans : are_rows front ≡ true → are_spans_of assets (record { course = take at course; rows = front }) ≡ true
  front_spans canonical = and_from (are_rows front) (list_all (is_span assets (length (take at course))) front) canonical
      (all_of (is_span assets (length (take at course))) front (λ q m.
      let filled = filled_in front canonical q m in
      let s = (side_at q.side).0 in
      let both = and_parts (is_member rows q.class q.asset (q.to - 1) s) (nat_lt (q.to - 1) at) (sym (cut.before q.class q.asset (q.to - 1) s) ∙ its_end q front m filled) in
      let r = found q rows (q.to - 1) s both.0 in
      let low = ltb-true (q.to - 1) at both.1 in
      let e = length-take-le at course within in
      is_theirs assets course rows spans q r.0 (q.to - 1) (length (take at course)) r.1 r.2 (λ h. omega (arith, low, e))))

  pub rear_spans : are_rows rear ≡ true → are_spans_of assets (record { course = drop at course; rows = rear }) ≡ true
  rear_spans canonical = and_from (are_rows rear) (list_all (is_span assets (length (drop at course))) rear) canonical
      (all_of (is_span assets (length (drop at course))) rear (λ q m.
      let filled = filled_in rear canonical q m in
      let s = (side_at q.side).0 in
      let r = found q rows ((q.to - 1) + at) s (sym (cut.behind q.class q.asset (q.to - 1) s) ∙ its_end q rear m filled) in
      let high = r.2.high in
      let e = length-drop at course in
      is_theirs assets course rows spans q r.0 ((q.to - 1) + at) (length (drop at course)) r.1 r.2 (λ h. omega (arith, high, e, h, filled))))

pub parts_have_rows : PartsHaveRows
parts_have_rows assets course at rows front rear within canonical canonical_too cut spans = (front_spans assets course at rows front rear within cut spans canonical, rear_spans assets course at rows front rear within cut spans canonical_too)
