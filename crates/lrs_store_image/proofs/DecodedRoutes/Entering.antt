-- Routes with their spans, and whether the table of spans is sound.
use Rattle.std.proofs.Common.{◌≡◌, ℕ, Bool, true, false, cond, not, List, [], ◌∷◌, map, filter, length, Option, Some, None, refl, sym, ap, ◌∙◌, IsPermutation}
use Rattle.std.specs.Prelude.{◌&&◌, ◌||◌, nat_eq, nat_le}
use Rattle.std.specs.List.{list_all}
use Rattle.std.specs.Cmp.{both_ways}
use Rattle.std.specs.Cmp.Lexicographic.{bytes_decides}
use Rattle.std.proofs.lemmas.Bool.{both_ways as clash, and_parts, eqb-true, eq-eqb, false_from_ne_true}
use Rattle.std.proofs.lemmas.List.Folds.{list_all-map}
use Rattle.std.proofs.lemmas.List.Sorted.{IsPermutation-map}
use Rattle.lrs_measure.specs.Lists.{each_two}
use Rattle.lrs_measure.specs.Texts.{Name, same_name}
use Rattle.lrs_element.specs.declared.link.Link.{Link}
use Rattle.lrs_element.specs.Course.{meets}
use Rattle.lrs_position.specs.declared.route.Route.{Route}
use Rattle.lrs_events.specs.declared.class.Class.{Class}
use Rattle.lrs_events.specs.declared.class.Asset.{Asset}
use Rattle.lrs_events.specs.declared.span.Span.{Span}
use Rattle.lrs_events.specs.Spans.{are_rows}
use Rattle.lrs_machine.specs.declared.image.RouteRow.{RouteRow}
use Rattle.lrs_machine.specs.Sound.{RouteCourse, course_before, is_course, are_courses, are_spans_of, is_span, keeps_exclusive}
use Rattle.lrs_measure.specs.Limits.{most_routes}
use Rattle.lrs_measure.proofs.Members.{all_weaker}
use Rattle.lrs_measure.proofs.Filters.{each_two-filter}
use Rattle.lrs_machine.proofs.Pairs.{each_two-map}
use Rattle.lrs_image_sound.specs.Tables.{route_courses}
use Rattle.lrs_image_sound.proofs.Sweeping.{each_two-permutation}
use Rattle.lrs_store_tables.specs.Contents.Tables.{SpanRow}
use Rattle.lrs_store_tables.specs.Contents.Decoders.{each_of, only_if, OfRoute, said_of, sorted, span_of}
use Rattle.lrs_store_tables.specs.Contents.Decoders as option
use Rattle.lrs_store_tables.specs.Contents.Content.{each_of_known, row_with, entries_of, spans_of}
use Rattle.lrs_store_image.specs.DecodedRoutes.Courses.{passing}
use Rattle.lrs_store_tables.proofs.Contents.Unordered.{IsPermutation-filter}
use Rattle.lrs_store_image.proofs.DecodedRoutes.Reading.{each_of-passing}
use Rattle.lrs_store_image.specs.DecodedRoutes.Spans.{named_before, is_one_of, agree, agree_said, canonical_entry, courses_over, are_sound}
use Rattle.lrs_store_image.proofs.DecodedRoutes.Fitting.{canonical-permutation}

some_alike : {A : Type 0} {a b : A} → ◌≡◌ {A = Option A} (Some a) (Some b) → a ≡ b
some_alike e = cc

-- ---- of one class

agree-comm : (r s : Span) → agree r s ≡ agree s r
agree-comm r s = λ j. not (numbers r.asset s.asset j) || names r.class s.class j
  where
    numbers : (m n : ℕ) → nat_eq m n ≡ nat_eq n m
    numbers m n = both_ways (nat_eq m n) (nat_eq n m) (λ t. eq-eqb n m (sym (eqb-true m n t))) (λ t. eq-eqb m n (sym (eqb-true n m t)))

    names : (a b : Name) → same_name a b ≡ same_name b a
    names a b = both_ways (same_name a b) (same_name b a) (λ t. (bytes_decides b a).1 (sym ((bytes_decides a b).0 t))) (λ t. (bytes_decides a b).1 (sym ((bytes_decides b a).0 t)))

pub agree_sorted : (xs ys : List Span) → IsPermutation xs ys → each_two agree xs ≡ true → each_two agree ys ≡ true
agree_sorted xs ys same h = sym (each_two-permutation agree agree-comm xs ys same).0 ∙ h

pub said_sorted : (xs ys : List (OfRoute Span)) → IsPermutation xs ys → each_two agree_said xs ≡ true → each_two agree_said ys ≡ true
said_sorted xs ys same h = sym (each_two-permutation agree_said (λ r s. agree-comm r.said s.said) xs ys same).0 ∙ h

pub said_of_agree : (route : Name) (said : List (OfRoute Span)) → each_two agree_said said ≡ true → each_two agree (said_of route said) ≡ true
said_of_agree route said h =
    each_two-map agree (λ (r : OfRoute Span). r.said) (filter (λ (r : OfRoute Span). same_name r.route route) said) ∙ each_two-filter agree_said (λ r. same_name r.route route) said h

-- ---- one route

module _ (route : Route) where
  abbrev mk : List Span → RouteRow
  mk rows = record { route = route; spans = rows }

  pub entry-permutation : (xs ys : List (OfRoute Span)) → IsPermutation xs ys → canonical_entry xs route ≡ canonical_entry ys route
  entry-permutation xs ys same =
      ap (λ (o : Option (List Span)). option.◌>>=◌ o (λ rows. Some (mk rows)))
      (canonical-permutation (said_of route.name xs) (said_of route.name ys)
      (IsPermutation-map (λ (r : OfRoute Span). r.said) (filter (λ (r : OfRoute Span). same_name r.route route.name) xs) (filter (λ (r : OfRoute Span). same_name r.route route.name) ys)
      (IsPermutation-filter (λ (r : OfRoute Span). same_name r.route route.name) xs ys same)))

  made : (b : Bool) (rows : List Span) → option.◌>>=◌ (only_if b rows) (λ rows. Some (mk rows)) ≡ only_if b (mk rows)
  made true rows = refl
  made false rows = refl

  entry_is : (said : List (OfRoute Span)) → canonical_entry said route ≡ only_if (are_rows (row_with said route).spans) (row_with said route)
  entry_is said = made (are_rows (row_with said route).spans) (row_with said route).spans

-- ---- all routes

abbrev own : RouteRow → Bool
own e = are_rows e.spans

each_of-same : {Row X : Type 0} (f g : Row → Option X) → ((r : Row) → f r ≡ g r) → (rs : List Row) → each_of f rs ≡ each_of g rs
each_of-same f g h [] = refl
each_of-same f g h (r ∷ rs) = λ j. option.◌>>=◌ (h r j) (λ x. option.◌>>=◌ (each_of-same f g h rs j) (λ xs. Some (x ∷ xs)))

each_of-some : {Row X : Type 0} (f : Row → X) (rs : List Row) → each_of (λ r. Some (f r)) rs ≡ Some (map f rs)
each_of-some f [] = refl
each_of-some {Row} {X} f (r ∷ rs) = ap (λ (o : Option (List X)). option.◌>>=◌ o (λ xs. Some (f r ∷ xs))) (each_of-some f rs)

module _ (said : List (OfRoute Span)) (routes : List Route) where
  abbrev entries : List RouteRow
  entries = map (row_with said) routes

  entries_are : each_of (canonical_entry said) routes ≡ only_if (list_all own entries) entries
  entries_are =
      each_of-same (canonical_entry said) (λ r. option.◌>>=◌ (Some (row_with said r)) (λ e. only_if (own e) e)) (λ r. entry_is r said) routes
      ∙ each_of-passing (λ (r : Route). Some (row_with said r)) own routes
      ∙ ap (λ (o : Option (List RouteRow)). option.◌>>=◌ o (λ es. only_if (list_all own es) es)) (each_of-some (row_with said) routes)

  found : (es : List RouteRow) → each_of (canonical_entry said) routes ≡ Some es → es ≡ entries
  found es h = by (list_all own entries) (sym entries_are ∙ h)
    where
      by : (b : Bool) → ◌≡◌ {A = Option (List RouteRow)} (only_if b entries) (Some es) → es ≡ entries
      by true k = sym (some_alike k)
      by false k = absurd (cc k)

-- entries run over what their routes run over
courses_of_entries : (said : List (OfRoute Span)) (routes : List Route) → route_courses (map (row_with said) routes) ≡ courses_over routes
courses_of_entries said [] = refl
courses_of_entries said (r ∷ rs) = ap (λ (l : List RouteCourse). record { route = r.name; entries = r.course } ∷ l) (courses_of_entries said rs)

pub courses_stay : (said : List (OfRoute Span)) (routes : List Route) (es : List RouteRow) (links : List Link) → each_of (canonical_entry said) routes ≡ Some es
    → are_courses links (courses_over routes) ≡ true → are_courses links (route_courses es) ≡ true
courses_stay said routes es links h k = ap (are_courses links) (ap route_courses (found said routes es h) ∙ courses_of_entries said routes) ∙ k

-- ---- the test of all

module _ (test : List RouteRow → Bool) where
  pub none_found : (o : Option (List RouteRow)) → None ≡ o → None ≡ passing o test
  none_found o h = ap (λ (p : Option (List RouteRow)). passing p test) h

  pub refused : (o : Option (List RouteRow)) (es : List RouteRow) → Some es ≡ o → test es ≡ false → None ≡ passing o test
  refused o es h f = ap (λ b. cond b (Some es) None) (sym f) ∙ ap (λ (p : Option (List RouteRow)). passing p test) h

  pub passed : (o : Option (List RouteRow)) (es : List RouteRow) → Some es ≡ o → test es ≡ true → Some es ≡ passing o test
  passed o es h f = ap (λ b. cond b (Some es) None) (sym f) ∙ ap (λ (p : Option (List RouteRow)). passing p test) h

  -- a test that asks for canonical rows need not be told of others
  asked_again : (es : List RouteRow) → (test es ≡ true → list_all own es ≡ true) → passing (only_if (list_all own es) es) test ≡ only_if (test es) es
  asked_again es asks = by (list_all own es) refl
    where
      by : (b : Bool) → list_all own es ≡ b → passing (only_if b es) test ≡ only_if (test es) es
      by true e = refl
      by false e = ap (λ b. cond b (Some es) None) (sym (false_from_ne_true (test es) (λ t. clash (list_all own es) e (asks t))))

module _ (links : List Link) (classes : List Class) (assets : List Asset) where
  abbrev sound : List RouteRow → Bool
  sound = are_sound links classes assets

  asks_rows : (es : List RouteRow) → sound es ≡ true → list_all own es ≡ true
  asks_rows es h =
      all_weaker (λ e. are_spans_of assets (spans_of e)) own es (λ e t. (and_parts (are_rows e.spans) (list_all (is_span assets (length e.route.course)) e.spans) t).0)
      (sym (list_all-map (are_spans_of assets) spans_of es) ∙ (and_parts (list_all (are_spans_of assets) (map spans_of es)) (list_all (keeps_exclusive links assets (map spans_of es)) classes) h).0)

  pub nothing_said : (rows : List SpanRow) (routes : List Route) → None ≡ each_of_known (span_of assets) (is_one_of routes) rows → None ≡ passing (entries_of assets rows routes) sound
  nothing_said rows routes h = ap (λ (o : Option (List (OfRoute Span))). passing (option.◌>>=◌ o (λ said. Some (map (row_with said) routes))) sound) h

  -- What is said in the order of routes makes the entries that what is said in the order of rows makes.
  pub entries_found : (rows : List SpanRow) (routes : List Route) (xs ys : List (OfRoute Span)) → Some xs ≡ each_of_known (span_of assets) (is_one_of routes) rows → IsPermutation xs ys
      → passing (each_of (canonical_entry ys) routes) sound ≡ passing (entries_of assets rows routes) sound
  entries_found rows routes xs ys h same =
      ap (λ (o : Option (List RouteRow)). passing o sound) (each_of-same (canonical_entry ys) (canonical_entry xs) (λ r. sym (entry-permutation r xs ys same)) routes ∙ entries_are xs routes)
      ∙ asked_again sound (map (row_with xs) routes) (asks_rows (map (row_with xs) routes))
      ∙ ap (λ (o : Option (List (OfRoute Span))). passing (option.◌>>=◌ o (λ said. Some (map (row_with said) routes))) sound) h

-- Routes whose courses are sound are in the order of their names.
pub courses_rise : (links : List Link) (routes : List Route) → are_courses links (courses_over routes) ≡ true → each_two named_before routes ≡ true
courses_rise links routes h =
    let courses = courses_over routes in
    let few = and_parts (each_two course_before courses && list_all (is_course links) courses && each_two (λ c d. not (meets c.entries d.entries)) courses) (nat_le (length courses) most_routes) h in
    let apart = and_parts (each_two course_before courses && list_all (is_course links) courses) (each_two (λ c d. not (meets c.entries d.entries)) courses) few.0 in
    sym (each_two-map course_before of_route routes) ∙ (and_parts (each_two course_before courses) (list_all (is_course links) courses) apart.0).0
  where
    of_route : Route → RouteCourse
    of_route r = record { route = r.name; entries = r.course }
