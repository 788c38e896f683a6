-- What each table reads of its rows in any order.
use Rattle.std.proofs.Common.{◌≡◌, ℕ, ◌+◌, Bool, true, false, cond, ◌⊎◌, inl, inr, List, [], ◌∷◌, map, filter, Option, Some, None, Ok, Err, refl, sym, ap, ap₂, ◌∙◌, arith, IsPermutation}
use Rattle.std.specs.Prelude.{◌||◌, ◌&&◌, ℤ, IsTrue, is_some, nat_eq, nat_le}
use Rattle.std.specs.List.{list_any, list_all}
use Rattle.std.specs.Cmp.Lexicographic.{bytes_decides}
use Rattle.std.proofs.lemmas.Bool.{true≢false, false≢true, both_ways, and_from, and_left, and_right, false_from_ne_true, eqb-true, leb-true, le-leb, lt-ltb}
use Rattle.std.proofs.lemmas.List.Sorted.{IsPermutation-map, list_any-IsPermutation}
use Rattle.lrs_measure.specs.Lists.{each_two, is_nothing}
use Rattle.lrs_measure.specs.OrderedLists.{insert_by}
use Rattle.lrs_measure.specs.Texts.{Name, same_name, name_before}
use Rattle.lrs_measure.proofs.Members.{all_weaker}
use Rattle.lrs_element.specs.declared.link.Link.{Link}
use Rattle.lrs_element.specs.declared.link.Ground.{Ground}
use Rattle.lrs_element.specs.declared.link.Piece.{Piece}
use Rattle.lrs_element.specs.declared.marks.Mark.{Mark}
use Rattle.lrs_position.specs.declared.route.Referent.{Referent}
use Rattle.lrs_position.specs.declared.route.Route.{Route}
use Rattle.lrs_position.specs.Routes.{is_route_course, have_marks, is_route}
use Rattle.lrs_events.specs.declared.class.Class.{Class}
use Rattle.lrs_events.specs.declared.class.Asset.{Asset}
use Rattle.lrs_events.specs.declared.span.Span.{Span}
use Rattle.lrs_events.specs.Spans.{span_before, is_row, are_apart, are_rows}
use Rattle.lrs_events.proofs.LaneLists.Inserted.{IsPermutation-insert_by}
use Rattle.lrs_events.proofs.Row.Unique.{less_one}
use Rattle.lrs_events.proofs.Row.Rows.{NameCases, name_cases, before, same, behind}
use Rattle.lrs_machine.specs.declared.image.RouteRow.{RouteRow}
use Rattle.lrs_machine.specs.declared.table.Table.TheVariants as table
use Rattle.lrs_machine.specs.Sound.{RouteCourse, are_spans_of, keeps_exclusive, are_spans}
use Rattle.lrs_image_sound.proofs.Along.{along_permutation}
use Rattle.lrs_image_sound.proofs.Rearranged.{all_alike}
use Rattle.lrs_store_tables.specs.Contents.Tables.{PieceRow, MarkRow, RefRow, SpanRow, EditRow}
use Rattle.lrs_store_tables.specs.Contents.Decoders.{if_true, only_if, each_of, each_sorted, sorted, OfRoute, said_of, Numbered, number_before, counted, piece_of, mark_of, referent_of, span_of, edit_of}
use Rattle.lrs_store_tables.specs.Contents.Decoders as option
use Rattle.lrs_store_tables.specs.Contents.Content.{read, with_name, routes_named, course_in_fewest, course_of_route, courses_of, each_of_known, Measured, is_one_of, measured_with, measured_of, referent_before, route_with, routes_of, row_with, entries_of, edits_of, spans_of, version_of}
use Rattle.lrs_store_tables.proofs.Contents.Unordered.{AreAlike, each_of-permutation, IsPermutation-filter, insert_by-comm, SortAlike, sort_alike}
use Rattle.lrs_store_tables.proofs.Contents.Orders.{names_rank, numbers_rank, referents_rank, spans_rank}

-- a step that takes the same of rows in any order
then_alike : {X Y : Type 0} (f : List X → Option Y) → ((us vs : List X) → IsPermutation us vs → f us ≡ f vs) → (a b : Option (List X)) → AreAlike a b → option.◌>>=◌ a f ≡ option.◌>>=◌ b f
then_alike f h None None k = refl
then_alike f h None (Some vs) k = absurd k
then_alike f h (Some us) None k = absurd k
then_alike f h (Some us) (Some vs) k = h us vs k

-- ---- numbered rows

module _ {X : Type 0} where
  counted_parts : (b : Bool) (x : X) (o : Option (List X)) → is_some (option.◌>>=◌ (only_if b x) (λ y. option.◌>>=◌ o (λ ys. Some (y ∷ ys)))) ≡ true → (b ≡ true) × (is_some o ≡ true)
  counted_parts true x (Some xs) h = (refl, refl)
  counted_parts true x None h = absurd (false≢true h)
  counted_parts false x o h = absurd (false≢true h)

  counted_above : (k : ℕ) (rs : List (Numbered X)) → is_some (counted k rs) ≡ true → list_all (λ (s : Numbered X). nat_le k s.n) rs ≡ true
  counted_above k [] h = refl
  counted_above k (r ∷ rs) h =
      let p = counted_parts (nat_eq r.n k) r.said (counted (k + 1) rs) h in
      let e = eqb-true r.n k p.0 in
      and_from (nat_le k r.n) (list_all (λ (s : Numbered X). nat_le k s.n) rs) (le-leb k r.n (omega (arith, e)))
      (all_weaker (λ (s : Numbered X). nat_le (k + 1) s.n) (λ (s : Numbered X). nat_le k s.n) rs (λ s l. let m = leb-true (k + 1) s.n l in le-leb k s.n (omega (arith, m))) (counted_above (k + 1) rs p.1))

  counted_rise : (k : ℕ) (rs : List (Numbered X)) → is_some (counted k rs) ≡ true → each_two number_before rs ≡ true
  counted_rise k [] h = refl
  counted_rise k (r ∷ rs) h =
      let p = counted_parts (nat_eq r.n k) r.said (counted (k + 1) rs) h in
      let e = eqb-true r.n k p.0 in
      and_from (list_all (number_before r) rs) (each_two number_before rs)
      (all_weaker (λ (s : Numbered X). nat_le (k + 1) s.n) (number_before r) rs (λ s l. let m = leb-true (k + 1) s.n l in lt-ltb r.n s.n (omega (arith, e, m))) (counted_above (k + 1) rs p.1))
      (counted_rise (k + 1) rs p.1)

  none_there : (o : Option (List X)) → is_some o ≡ false → o ≡ None
  none_there None h = refl
  none_there (Some xs) h = absurd (true≢false h)

  pub not_counted : (k : ℕ) (rs : List (Numbered X)) → each_two number_before rs ≡ false → counted k rs ≡ None
  not_counted k rs f = none_there (counted k rs) (false_from_ne_true (is_some (counted k rs)) (λ t. both_ways (each_two number_before rs) f (counted_rise k rs t)))

  pub counted_alike : (k : ℕ) (xs ys : List (Numbered X)) → IsPermutation xs ys → counted k (sorted number_before xs) ≡ counted k (sorted number_before ys)
  counted_alike k xs ys h = by (sort_alike number_before numbers_rank xs ys h)
    where
      by : SortAlike number_before numbers_rank xs ys → counted k (sorted number_before xs) ≡ counted k (sorted number_before ys)
      by (inl e) = ap (counted k) e
      by (inr f) = not_counted k (sorted number_before xs) f.0 ∙ sym (not_counted k (sorted number_before ys) f.1)

  numbered_alike : (k : ℕ) (a b : Option (List (Numbered X))) → AreAlike a b
      → option.◌>>=◌ (option.◌>>=◌ a (λ xs. Some (sorted number_before xs))) (counted k) ≡ option.◌>>=◌ (option.◌>>=◌ b (λ xs. Some (sorted number_before xs))) (counted k)
  numbered_alike k None None h = refl
  numbered_alike k None (Some ys) h = absurd h
  numbered_alike k (Some xs) None h = absurd h
  numbered_alike k (Some xs) (Some ys) h = counted_alike k xs ys h

pub edits_alike : (xs ys : List EditRow) → IsPermutation xs ys → edits_of xs ≡ edits_of ys
edits_alike xs ys h = numbered_alike 1 (each_of edit_of xs) (each_of edit_of ys) (each_of-permutation edit_of xs ys h)

-- ---- the names of routes

differ : (m n : Name) → name_before m n ≡ true → same_name m n ≡ false
differ m n h = false_from_ne_true (same_name m n) (λ k. less_one m n h ((bytes_decides m n).0 k))

differ_back : (m n : Name) → name_before m n ≡ true → same_name n m ≡ false
differ_back m n h = false_from_ne_true (same_name n m) (λ k. less_one m n h (sym ((bytes_decides n m).0 k)))

-- a name is found among others with one more where it is found without
other_found : (m n : Name) (names : List Name) → same_name m n ≡ false → list_any (same_name m) (with_name n names) ≡ list_any (same_name m) names
other_found m n names f =
    elim (list_any (same_name n) names) as (λ b. list_any (same_name m) (cond b names (insert_by name_before n names)) ≡ list_any (same_name m) names) [
      | true ↦ refl
      | false ↦ sym (list_any-IsPermutation (same_name m) (n ∷ names) (insert_by name_before n names) (IsPermutation-insert_by name_before n names)) ∙ ap (λ b. b || list_any (same_name m) names) f
    ]

module _ (m n : Name) (names : List Name) (h : name_before m n ≡ true) where
  abbrev with_m : List Name → List Name
  with_m = insert_by name_before m

  abbrev with_n : List Name → List Name
  with_n = insert_by name_before n

  by_found : (a b : Bool) → cond a (cond b names (with_n names)) (with_m (cond b names (with_n names))) ≡ cond b (cond a names (with_m names)) (with_n (cond a names (with_m names)))
  by_found true true = refl
  by_found true false = refl
  by_found false true = refl
  by_found false false = insert_by-comm name_before names_rank m n h names

  with_two : with_name m (with_name n names) ≡ with_name n (with_name m names)
  with_two =
      ap (λ a. cond a (with_name n names) (with_m (with_name n names))) (other_found m n names (differ m n h))
      ∙ by_found (list_any (same_name m) names) (list_any (same_name n) names)
      ∙ sym (ap (λ b. cond b (with_name m names) (with_n (with_name m names))) (other_found n m names (differ_back m n h)))

with_name-comm : (m n : Name) (names : List Name) → with_name m (with_name n names) ≡ with_name n (with_name m names)
with_name-comm m n names = by (name_cases m n)
  where
    by : NameCases m n → with_name m (with_name n names) ≡ with_name n (with_name m names)
    by (before h) = with_two m n names h
    by (same e) = λ j. with_name (e j) (with_name (sym e j) names)
    by (behind h) = sym (with_two n m names h)

module _ {X : Type 0} where
  routes_named-alike : (xs ys : List (OfRoute X)) → IsPermutation xs ys → routes_named xs ≡ routes_named ys
  routes_named-alike = along_permutation (λ xs ys. routes_named xs ≡ routes_named ys)
      (λ xs. refl)
      (λ x xs ys h. ap (with_name x.route) h)
      (λ x y xs. with_name-comm x.route y.route (routes_named xs))
      (λ xs ys zs h k. h ∙ k)

  said_alike : (route : Name) (xs ys : List (OfRoute X)) → IsPermutation xs ys → IsPermutation (said_of route xs) (said_of route ys)
  said_alike route xs ys h =
      let of_route : OfRoute X → Bool = λ r. same_name r.route route in
      IsPermutation-map (λ (r : OfRoute X). r.said) (filter of_route xs) (filter of_route ys) (IsPermutation-filter of_route xs ys h)

-- ---- rows of routes that are known

only_alike : {X : Type 0} (b c : Bool) (us vs : List X) → b ≡ c → IsPermutation us vs → AreAlike (only_if b us) (only_if c vs)
only_alike true true us vs e h = h
only_alike true false us vs e h = absurd (true≢false e)
only_alike false true us vs e h = absurd (false≢true e)
only_alike false false us vs e h = tt

known_alike : {Row X : Type 0} (decoded : Row → Option (OfRoute X)) (is_known : Name → Bool) (xs ys : List Row) → IsPermutation xs ys → AreAlike (each_of_known decoded is_known xs) (each_of_known decoded is_known ys)
known_alike {Row} {X} decoded is_known xs ys h = by (each_of decoded xs) (each_of decoded ys) (each_of-permutation decoded xs ys h)
  where
    by : (a b : Option (List (OfRoute X))) → AreAlike a b
        → AreAlike (option.◌>>=◌ a (λ said. only_if (list_all (λ (r : OfRoute X). is_known r.route) said) said)) (option.◌>>=◌ b (λ said. only_if (list_all (λ (r : OfRoute X). is_known r.route) said) said))
    by None None k = tt
    by None (Some vs) k = absurd k
    by (Some us) None k = absurd k
    by (Some us) (Some vs) k = only_alike (list_all (λ (r : OfRoute X). is_known r.route) us) (list_all (λ (r : OfRoute X). is_known r.route) vs) us vs (all_alike (λ (r : OfRoute X). is_known r.route) us vs k) k

-- ---- pieces

course_alike : (us vs : List (OfRoute (Numbered Piece))) → IsPermutation us vs → (route : Name) → course_of_route us route ≡ course_of_route vs route
course_alike us vs h route =
    λ j. option.◌>>=◌ (counted_alike 0 (said_of route us) (said_of route vs) (said_alike route us vs h) j)
    (λ pieces. option.◌>>=◌ (course_in_fewest pieces) (λ course. Some (let c : RouteCourse = record { route = route; entries = course } in c)))

pub courses_alike : (xs ys : List PieceRow) → IsPermutation xs ys → courses_of xs ≡ courses_of ys
courses_alike xs ys h =
    then_alike (λ said. each_of (course_of_route said) (routes_named said)) (λ us vs k j. each_of (λ route. course_alike us vs k route j) (routes_named-alike us vs k j))
    (each_of piece_of xs) (each_of piece_of ys) (each_of-permutation piece_of xs ys h)

-- ---- marks

marks_alike : (us vs : List (OfRoute (Numbered Mark))) → IsPermutation us vs → (c : RouteCourse) → measured_with us c ≡ measured_with vs c
marks_alike us vs h c =
    λ j. option.◌>>=◌ (counted_alike 0 (said_of c.route us) (said_of c.route vs) (said_alike c.route us vs h) j) (λ marks. Some (let m : Measured = record { course = c; marks = marks } in m))

pub measured_alike : (xs ys : List MarkRow) (courses : List RouteCourse) → IsPermutation xs ys → measured_of xs courses ≡ measured_of ys courses
measured_alike xs ys courses h =
    then_alike (λ said. each_of (measured_with said) courses) (λ us vs k j. each_of (λ c. marks_alike us vs k c j) courses)
    (each_of_known mark_of (is_one_of courses) xs) (each_of_known mark_of (is_one_of courses) ys) (known_alike mark_of (is_one_of courses) xs ys h)

-- ---- referents

untrue : {A : Type 0} (b : Bool) (value : IsTrue b → A) → b ≡ false → if_true b value ≡ None
untrue true value h = absurd (true≢false h)
untrue false value h = refl

module _ (m : Measured) where
  abbrev with_refs : List Referent → Option Route
  with_refs refs = if_true (is_route m.course.entries m.marks refs) (λ fits. record { name = m.course.route; course = m.course.entries; marks = m.marks; refs = refs; fits = fits })

  no_route : (refs : List Referent) → each_two referent_before refs ≡ false → with_refs refs ≡ None
  no_route refs f =
      untrue (is_route m.course.entries m.marks refs) _
      (and_right (is_route_course m.course.entries && have_marks m.course.entries m.marks) _ (and_left (each_two referent_before refs) _ f))

  route_alike : (us vs : List (OfRoute Referent)) → IsPermutation us vs → route_with us m ≡ route_with vs m
  route_alike us vs h = by (sort_alike referent_before referents_rank (said_of m.course.route us) (said_of m.course.route vs) (said_alike m.course.route us vs h))
    where
      by : SortAlike referent_before referents_rank (said_of m.course.route us) (said_of m.course.route vs) → route_with us m ≡ route_with vs m
      by (inl e) = ap with_refs e
      by (inr f) = no_route (sorted referent_before (said_of m.course.route us)) f.0 ∙ sym (no_route (sorted referent_before (said_of m.course.route vs)) f.1)

pub routes_alike : (xs ys : List RefRow) (ms : List Measured) → IsPermutation xs ys → routes_of xs ms ≡ routes_of ys ms
routes_alike xs ys ms h =
    let is_known : Name → Bool = λ route. list_any (λ (m : Measured). same_name m.course.route route) ms in
    then_alike (λ said. each_of (route_with said) ms) (λ us vs k j. each_of (λ m. route_alike m us vs k j) ms)
    (each_of_known referent_of is_known xs) (each_of_known referent_of is_known ys) (known_alike referent_of is_known xs ys h)

-- ---- spans

module _ (assets : List Asset) where
  no_rows : (course : List Ground) (rows : List Span) → each_two span_before rows ≡ false → are_spans_of assets (record { course = course; rows = rows }) ≡ false
  no_rows course rows f =
      and_left (are_rows rows) _ (and_left (list_all is_row rows && each_two span_before rows) (each_two are_apart rows) (and_right (list_all is_row rows) (each_two span_before rows) f))

  abbrev are_rows_with : List (OfRoute Span) → List Route → Bool
  are_rows_with said routes = list_all (are_spans_of assets) (map spans_of (map (row_with said) routes))

  module _ (us vs : List (OfRoute Span)) (h : IsPermutation us vs) where
    -- the routes get the same spans, or some route gets none in order
    abbrev EntriesAlike : List Route → Type 0
    EntriesAlike routes = (map (row_with us) routes ≡ map (row_with vs) routes) ⊎ ((are_rows_with us routes ≡ false) × (are_rows_with vs routes ≡ false))

    entry_alike : (r : Route) (rs : List Route) → SortAlike span_before spans_rank (said_of r.name us) (said_of r.name vs) → EntriesAlike rs → EntriesAlike (r ∷ rs)
    entry_alike r rs (inl e) (inl g) = inl (ap₂ (λ s es. (let x : RouteRow = record { route = r; spans = s } in x) ∷ es) e g)
    entry_alike r rs (inl e) (inr k) = inr (and_right (are_spans_of assets (spans_of (row_with us r))) (are_rows_with us rs) k.0, and_right (are_spans_of assets (spans_of (row_with vs r))) (are_rows_with vs rs) k.1)
    entry_alike r rs (inr f) g =
        inr (
          and_left (are_spans_of assets (spans_of (row_with us r))) (are_rows_with us rs) (no_rows r.course (sorted span_before (said_of r.name us)) f.0),
          and_left (are_spans_of assets (spans_of (row_with vs r))) (are_rows_with vs rs) (no_rows r.course (sorted span_before (said_of r.name vs)) f.1),
        )

    entries_alike : (routes : List Route) → EntriesAlike routes
    entries_alike [] = inl refl
    entries_alike (r ∷ rs) = entry_alike r rs (sort_alike span_before spans_rank (said_of r.name us) (said_of r.name vs) (said_alike r.name us vs h)) (entries_alike rs)

  module _ (links : List Link) (classes : List Class) where
    abbrev passes : List RouteRow → Bool
    passes es = are_spans links classes assets (map spans_of es)

    fails : (es : List RouteRow) → list_all (are_spans_of assets) (map spans_of es) ≡ false → read table.Span (Some es) passes ≡ Err table.Span
    fails es f = ap (λ b. cond b (Ok es) (Err table.Span)) (and_left (list_all (are_spans_of assets) (map spans_of es)) (list_all (keeps_exclusive links assets (map spans_of es)) classes) f)

    spans_read : (routes : List Route) (a b : Option (List (OfRoute Span))) → AreAlike a b
        → read table.Span (option.◌>>=◌ a (λ said. Some (map (row_with said) routes))) passes ≡ read table.Span (option.◌>>=◌ b (λ said. Some (map (row_with said) routes))) passes
    spans_read routes None None h = refl
    spans_read routes None (Some vs) h = absurd h
    spans_read routes (Some us) None h = absurd h
    spans_read routes (Some us) (Some vs) h = by (entries_alike us vs h routes)
      where
        by : EntriesAlike us vs h routes → read table.Span (Some (map (row_with us) routes)) passes ≡ read table.Span (Some (map (row_with vs) routes)) passes
        by (inl e) = ap (λ es. read table.Span (Some es) passes) e
        by (inr f) = fails (map (row_with us) routes) f.0 ∙ sym (fails (map (row_with vs) routes) f.1)

    pub spans_alike : (xs ys : List SpanRow) (routes : List Route) → IsPermutation xs ys → read table.Span (entries_of assets xs routes) passes ≡ read table.Span (entries_of assets ys routes) passes
    spans_alike xs ys routes h =
        let is_known : Name → Bool = λ name. list_any (λ (route : Route). same_name route.name name) routes in
        spans_read routes (each_of_known (span_of assets) is_known xs) (each_of_known (span_of assets) is_known ys) (known_alike (span_of assets) is_known xs ys h)

-- ---- a version, and nothing

pub nothing_alike : {X : Type 0} (xs ys : List X) → IsPermutation xs ys → is_nothing xs ≡ is_nothing ys
nothing_alike {X} = along_permutation (λ (xs ys : List X). is_nothing xs ≡ is_nothing ys) (λ xs. refl) (λ x xs ys h. refl) (λ x y xs. refl) (λ xs ys zs h k. h ∙ k)

abbrev OneVersion : List ℤ → List ℤ → Type 0
OneVersion xs ys = (version_of xs ≡ version_of ys) × (is_nothing xs ≡ is_nothing ys)

version_skip : (x : ℤ) (xs ys : List ℤ) → OneVersion xs ys → OneVersion (x ∷ xs) (x ∷ ys)
version_skip x [] [] h = (refl, refl)
version_skip x [] (y ∷ ys) h = absurd (true≢false h.1)
version_skip x (y ∷ ys) [] h = absurd (false≢true h.1)
version_skip x (y ∷ ys) (z ∷ zs) h = (refl, refl)

pub version_alike : (xs ys : List ℤ) → IsPermutation xs ys → version_of xs ≡ version_of ys
version_alike xs ys h =
    (along_permutation OneVersion (λ us. (refl, refl)) version_skip (λ x y us. (refl, refl)) (λ us vs ws k l. (k.0 ∙ l.0, k.1 ∙ l.1)) xs ys h).0
