-- From the table of stretches to the lengths of the image, and what a sound image says of its routes.
use Rattle.std.proofs.Common.{◌≡◌, ℕ, ◌<◌, ◌≤◌, ◌^◌, Bool, true, false, not, cond, List, [], ◌∷◌, length, filter, refl, sym, ◌∙◌, arith, sum_by}
use Rattle.std.specs.Prelude.{◌&&◌, nat_eq, nat_lt, nat_le, IsPermutation}
use Rattle.std.specs.List.{list_all, count_by, range_with_len, AllByRecursion}
use Rattle.std.proofs.lemmas.Bool.{and_parts, and_from, or_parts, not-true, leb-true, ltb-false, ltb-true, le-leb}
use Rattle.std.proofs.lemmas.List.{length-map}
use Rattle.std.proofs.lemmas.List.Folds.{list_all-map}
use Rattle.std.proofs.lemmas.List.Sorted.{All-permutation, list_any-IsPermutation}
use Rattle.std.proofs.lemmas.List.Sums.{AllPass-from_list_all, list_all-from_AllPass, sum_by-cons, sum_by-le}
use Rattle.lrs_measure.specs.Limits.{longest_route, most_pieces, most_routes}
use Rattle.lrs_measure.specs.Lists.{each_two, is_nothing}
use Rattle.lrs_measure.specs.Texts.{Name}
use Rattle.lrs_measure.proofs.Members.{all_weaker}
use Rattle.lrs_element.specs.Course.{is_too_long, meets, piece_count}
use Rattle.lrs_element.specs.declared.link.Ground.{Ground}
use Rattle.lrs_events.specs.Places.{differs}
use Rattle.lrs_events.specs.Spans.{are_apart, are_rows, is_row, span_before}
use Rattle.lrs_events.specs.declared.class.Asset.{Asset}
use Rattle.lrs_events.specs.declared.side.Side.{Side}
use Rattle.lrs_events.specs.declared.span.Span.{Span}
use Rattle.lrs_machine.specs.declared.image.Image.{Image}
use Rattle.lrs_machine.specs.declared.image.RouteRow.{RouteRow}
use Rattle.lrs_machine.specs.Sound.{IsSound, RouteCourse, RouteSpans, are_spans_of, asset_before, course_before, courses_of, is_course, is_on_a_link, is_span, keeps_exclusive, spans_of}
use Rattle.lrs_image.proofs.Tables.{passes}
use Rattle.lrs_position.specs.Routes.{is_route_course}
use Rattle.lrs_report_lists.specs.declared.length_lists.entries.LengthEntry.{LengthEntry}
use Rattle.lrs_report_lists.specs.declared.length_lists.table.ValueLength.{ValueLength}
use Rattle.lrs_report_lists.specs.Length.Lengths.{AreLengthsOn, HasLengths, has_either, has_left, has_right}
use Rattle.lrs_report_lists.specs.Length.Parts.{HasHeld, IsTable, ends_by, entries_of, has_rows_on, held_by, holders_by, is_entry_of, is_held_by, is_over, lies_on, route_length}
use Rattle.lrs_report_lists.proofs.Length.Axis.{all_end, all_held, routes_told}
use Rattle.lrs_report_lists.proofs.Length.Holders.{all_holders, has_known, routes_held_by}

-- ---- the lengths

module _ (assets : List Asset) (routes : List RouteRow) (sorted : List LengthEntry) (order : each_two asset_before assets ≡ true) (on : list_all has_rows_on routes ≡ true) (known : list_all (has_known assets) routes ≡ true)
    (same : IsPermutation (entries_of assets 0 routes) sorted) where
  abbrev whole : ℕ
  whole = sum_by route_length routes

  ends : list_all (ends_by whole) sorted ≡ true
  ends = list_all-from_AllPass (ends_by whole) sorted (All-permutation (λ e. ends_by whole e ≡ true) (entries_of assets 0 routes) sorted same (AllPass-from_list_all (ends_by whole) (entries_of assets 0 routes) (all_end assets routes on)))

  held_by_assets : list_all (is_held_by assets) sorted ≡ true
  held_by_assets = list_all-from_AllPass (is_held_by assets) sorted (All-permutation (λ e. is_held_by assets e ≡ true) (entries_of assets 0 routes) sorted same (AllPass-from_list_all (is_held_by assets) (entries_of assets 0 routes) (routes_held_by assets 0 routes known)))

  same_held : (counted : Side → Bool) (class value : Name) → held_by counted class value sorted whole ≡ held_by counted class value (entries_of assets 0 routes) whole
  same_held counted class value = λ i. count_by (λ x. sym (list_any-IsPermutation (λ e. is_entry_of class value e && is_over counted x e) (entries_of assets 0 routes) sorted same) i) (range_with_len 0 whole)

  same_holders : (class value : Name) → holders_by class value sorted assets ≡ holders_by class value (entries_of assets 0 routes) assets
  same_holders class value = λ i. count_by (λ a. sym (list_any-IsPermutation (λ e. is_entry_of class value e && nat_eq e.asset a.number) (entries_of assets 0 routes) sorted same) i) assets

  lengths_each : (lines : List ValueLength) → AllByRecursion (HasHeld whole assets sorted) lines → AllByRecursion (HasLengths assets routes) lines
  lengths_each [] all = tt
  lengths_each (l ∷ ls) all = (
    record {
      left_is = all.0.left_is ∙ same_held has_left l.class l.value ∙ all_held assets l.class l.value has_left routes on;
      right_is = all.0.right_is ∙ same_held has_right l.class l.value ∙ all_held assets l.class l.value has_right routes on;
      length_is = all.0.length_is ∙ same_held has_either l.class l.value ∙ all_held assets l.class l.value has_either routes on;
      assets_is = all.0.assets_is ∙ same_holders l.class l.value ∙ all_holders assets order l.class l.value routes known;
    },
    lengths_each ls all.1,
  )

  pub lengths_are : (lines : List ValueLength) → ((n : ℕ) (assets : List Asset) → list_all (ends_by n) sorted ≡ true → each_two asset_before assets ≡ true → list_all (is_held_by assets) sorted ≡ true → IsTable n assets sorted lines) → AreLengthsOn assets routes lines
  lengths_are lines table =
      let all = table whole assets ends order held_by_assets in
      record {
        order = all.order;
        exact = λ class value.
            all.exact class value ∙ sym (list_any-IsPermutation (is_entry_of class value) (entries_of assets 0 routes) sorted same) ∙ routes_told assets class value 0 routes;
        counts = lengths_each lines all.counts;
      }

-- ---- routes of a sound image

row_lies : (assets : List Asset) (len : ℕ) (r : Span) → is_row r ≡ true → is_span assets len r ≡ true → lies_on len r ≡ true
row_lies assets len r row span =
    let rise = ltb-true r.from r.to (and_parts (nat_lt r.from r.to) (nat_le r.to longest_route) row).0 in
    let within = (and_parts (nat_le r.to len) _ span).0 in
    and_from (nat_le r.from r.to) (nat_le r.to len) (le-leb r.from r.to (omega (arith, rise))) within

rows_lie : (assets : List Asset) (len : ℕ) (rows : List Span) → list_all is_row rows ≡ true → list_all (is_span assets len) rows ≡ true → list_all (lies_on len) rows ≡ true
rows_lie assets len [] h k = refl
rows_lie assets len (r ∷ rows) h k =
    let a = and_parts (is_row r) (list_all is_row rows) h in
    let b = and_parts (is_span assets len r) (list_all (is_span assets len) rows) k in
    and_from (lies_on len r) (list_all (lies_on len) rows) (row_lies assets len r a.0 b.0) (rows_lie assets len rows a.1 b.1)

abbrev spans_on : RouteRow → RouteSpans
spans_on e = record { course = e.route.course; rows = e.spans }

abbrev course_on : RouteRow → RouteCourse
course_on e = record { route = e.route.name; entries = e.route.course }

route_lies : (assets : List Asset) (e : RouteRow) → are_spans_of assets (spans_on e) ≡ true → has_rows_on e ≡ true
route_lies assets e h =
    let both = and_parts (are_rows e.spans) (list_all (is_span assets (length e.route.course)) e.spans) h in
    let rows = and_parts (list_all is_row e.spans && each_two span_before e.spans) (each_two are_apart e.spans) both.0 in
    rows_lie assets (route_length e) e.spans (and_parts (list_all is_row e.spans) (each_two span_before e.spans) rows.0).0 both.1

spans_pass : (i : Image) → IsSound i → list_all (are_spans_of i.assets) (spans_of i) ≡ true
spans_pass i h = (and_parts (list_all (are_spans_of i.assets) (spans_of i)) (list_all (keeps_exclusive i.links i.assets (spans_of i)) i.classes) (passes i h).spans).0

-- the assets of all rows are known
pub rows_are_known : (i : Image) → IsSound i → list_all (has_known i.assets) i.routes ≡ true
rows_are_known i h =
    all_weaker (λ e. are_spans_of i.assets (spans_on e)) (has_known i.assets) i.routes
    (λ e k. (and_parts (are_rows e.spans) (list_all (is_span i.assets (length e.route.course)) e.spans) k).1)
    (sym (list_all-map (are_spans_of i.assets) spans_on i.routes) ∙ spans_pass i h)

pub rows_on_routes : (i : Image) → IsSound i → list_all has_rows_on i.routes ≡ true
rows_on_routes i h =
    all_weaker (λ e. are_spans_of i.assets (spans_on e)) has_rows_on i.routes (route_lies i.assets) (sym (list_all-map (are_spans_of i.assets) spans_on i.routes) ∙ spans_pass i h)

course_within : (course : List Ground) → is_route_course course ≡ true → length course ≤ longest_route
course_within course h =
    let long = not-true (is_too_long course) (and_parts (not (is_nothing course)) (not (is_too_long course)) h).1 in
    ltb-false longest_route (length course) (or_parts (nat_lt most_pieces (piece_count course)) (nat_lt longest_route (length course)) long).1

module _ (i : Image) (sound : IsSound i) where
  abbrev courses : List RouteCourse
  courses = courses_of i

  tests_of_courses : ((each_two course_before courses && list_all (is_course i.links) courses) ≡ true) × (nat_le (length courses) most_routes ≡ true)
  tests_of_courses =
      let order = each_two course_before courses in
      let each = list_all (is_course i.links) courses in
      let free = each_two (λ c d. not (meets c.entries d.entries)) courses in
      let few = and_parts (order && each && free) (nat_le (length courses) most_routes) (passes i sound).courses in
      ((and_parts (order && each) free few.0).0, few.1)

  each_within : list_all (λ e. nat_le (route_length e) longest_route) i.routes ≡ true
  each_within =
      let each = (and_parts (each_two course_before courses) (list_all (is_course i.links) courses) tests_of_courses.0).1 in
      all_weaker (λ e. is_course i.links (course_on e)) (λ e. nat_le (route_length e) longest_route) i.routes
      (λ e h. le-leb (route_length e) longest_route (course_within e.route.course
      (and_parts (is_route_course e.route.course) (list_all (is_on_a_link i.links) e.route.course)
      (and_parts (is_route_course e.route.course && list_all (is_on_a_link i.links) e.route.course) (each_two differs e.route.course) h).0).0))
      (sym (list_all-map (is_course i.links) course_on i.routes) ∙ each)

  pub lengths_fit : sum_by route_length i.routes < 2 ^ 64
  lengths_fit =
      let few : length i.routes ≤ 10_000 = let a = leb-true (length courses) most_routes tests_of_courses.1 in let b = length-map i.routes course_on in omega (arith, a, b) in
      let most = sum_by-le route_length longest_route i.routes (λ k d l. leb-true _ longest_route (AllPass-from_list_all (λ e. nat_le (route_length e) longest_route) i.routes each_within k d l)) in
      omega (arith, most, few)

-- ---- of some routes

pub some_rows_on : (p : RouteRow → Bool) (routes : List RouteRow) → list_all has_rows_on routes ≡ true → list_all has_rows_on (filter p routes) ≡ true
some_rows_on p [] h = refl
some_rows_on p (e ∷ es) h =
    let both = and_parts (has_rows_on e) (list_all has_rows_on es) h in
    by (p e) both.0 (some_rows_on p es both.1)
  where
    by : (b : Bool) → has_rows_on e ≡ true → list_all has_rows_on (filter p es) ≡ true → list_all has_rows_on (cond b (e ∷ filter p es) (filter p es)) ≡ true
    by true here rest = and_from (has_rows_on e) (list_all has_rows_on (filter p es)) here rest
    by false here rest = rest

pub some_no_longer : (p : RouteRow → Bool) (routes : List RouteRow) → sum_by route_length (filter p routes) ≤ sum_by route_length routes
some_no_longer p [] = omega arith
some_no_longer p (e ∷ es) = by (p e) (some_no_longer p es)
  where
    by : (b : Bool) → sum_by route_length (filter p es) ≤ sum_by route_length es → sum_by route_length (cond b (e ∷ filter p es) (filter p es)) ≤ sum_by route_length (e ∷ es)
    by true rest = let a = sum_by-cons route_length e (filter p es) in let b = sum_by-cons route_length e es in omega (arith, rest, a, b)
    by false rest = let b = sum_by-cons route_length e es in omega (arith, rest, b)
