-- The marks that rows say of known routes, and whether they fit.
use Rattle.std.proofs.Common.{◌≡◌, ℕ, Bool, true, false, List, [], ◌∷◌, map, filter, length, Option, Some, None, refl, sym, ap, ◌∙◌, IsPermutation}
use Rattle.std.specs.Prelude.{◌&&◌, not, nat_le, is_none}
use Rattle.std.specs.List.{list_any, list_all}
use Rattle.std.specs.List.Sorted.{IsSortedBy}
use Rattle.std.proofs.lemmas.Bool.{and_parts, and_from}
use Rattle.std.proofs.lemmas.List.Sorted.{IsPermutation-map}
use Rattle.lrs_measure.specs.Lists.{each_two}
use Rattle.lrs_measure.specs.Texts.{Name, same_name, name_before}
use Rattle.lrs_element.specs.declared.link.Link.{Link}
use Rattle.lrs_element.specs.declared.marks.Mark.{Mark}
use Rattle.lrs_element.specs.Course.{meets}
use Rattle.lrs_element.specs.Marks.{bad_mark}
use Rattle.lrs_position.specs.Routes.{is_route_course, have_marks}
use Rattle.lrs_events.specs.Places.{differs}
use Rattle.lrs_measure.specs.Limits.{most_routes}
use Rattle.lrs_measure.proofs.Members.{all_weaker, list_any-map}
use Rattle.lrs_machine.specs.Sound.{RouteCourse, course_before, is_course, is_on_a_link, are_courses}
use Rattle.lrs_machine.proofs.Pairs.{each_two-map}
use Rattle.lrs_store_tables.specs.Contents.Tables.{MarkRow}
use Rattle.lrs_store_tables.specs.Contents.Decoders.{each_of, only_if, OfRoute, Numbered, number_before, said_of, sorted, counted, mark_of}
use Rattle.lrs_store_tables.specs.Contents.Decoders as option
use Rattle.lrs_store_tables.specs.Contents.Content.{each_of_known, Measured, is_one_of, measured_with, measured_of}
use Rattle.lrs_store_image.specs.DecodedRoutes.Courses.{passing}
use Rattle.lrs_store_image.specs.DecodedRoutes.Marks.{is_name_of, known, are_route_courses, courses_of_measured, good_measured, are_all_measured}
use Rattle.lrs_store_tables.proofs.Contents.Unordered.{IsPermutation-filter}
use Rattle.lrs_store_image.proofs.DecodedRoutes.Grouped.{counted_alike}
use Rattle.lrs_store_image.proofs.DecodedRoutes.Searching.{names_sorted}
use Rattle.lrs_store_image.proofs.DecodedRoutes.Reading.{each_of-passing, each_of-same}

some_alike : {A : Type 0} {a b : A} → ◌≡◌ {A = Option A} (Some a) (Some b) → a ≡ b
some_alike e = cc

-- ---- rows of known routes

module _ {Row X : Type 0} (decoded : Row → Option (OfRoute X)) where
  pub each_known : (is_known : Name → Bool) (rows : List Row) → each_of (known decoded is_known) rows ≡ each_of_known decoded is_known rows
  each_known is_known rows = each_of-passing decoded (λ r. is_known r.route) rows

  pub each_known_of : {C : Type 0} (name_of : C → Name) (cs : List C) (rows : List Row) → each_of (known decoded (is_name_of (map name_of cs))) rows ≡ each_of_known decoded (λ name. list_any (λ c. same_name (name_of c) name) cs) rows
  each_known_of name_of cs rows =
      each_known (is_name_of (map name_of cs)) rows ∙ (λ j. each_of_known decoded (λ name. list_any-map (λ n. same_name n name) name_of cs j) rows)

pub said_of-permutation : {X : Type 0} (n : Name) (xs ys : List (OfRoute X)) → IsPermutation xs ys → IsPermutation (said_of n xs) (said_of n ys)
said_of-permutation {X} n xs ys same =
    IsPermutation-map (λ (r : OfRoute X). r.said) (filter (λ r. same_name r.route n) xs) (filter (λ r. same_name r.route n) ys) (IsPermutation-filter (λ r. same_name r.route n) xs ys same)

-- ---- what passes a test

module _ {X : Type 0} (test : X → Bool) where
  pub passed : (o : Option X) (x : X) → Some x ≡ passing o test → (o ≡ Some x) × (test x ≡ true)
  passed None x e = absurd (cc e)
  passed (Some y) x e = by (test y) refl e
    where
      by : (b : Bool) → test y ≡ b → ◌≡◌ {A = Option X} (Some x) (only_if b y) → (◌≡◌ {A = Option X} (Some y) (Some x)) × (test x ≡ true)
      by true h k = let same : x ≡ y = some_alike k in (ap Some (sym same), ap test same ∙ h)
      by false h k = absurd (cc k)

-- ---- each of what rows say goes back to its row

module _ {Row X : Type 0} (f : Row → Option X) (back : X → Row) (of : (r : Row) (x : X) → f r ≡ Some x → back x ≡ r) where
  step_back : (r : Row) (rs : List Row) (o : Option X) (a : Option (List X)) (xs : List X) → ((x : X) → o ≡ Some x → back x ≡ r) → ((ys : List X) → a ≡ Some ys → map back ys ≡ rs)
      → option.◌>>=◌ o (λ y. option.◌>>=◌ a (λ ys. Some (y ∷ ys))) ≡ Some xs → map back xs ≡ r ∷ rs
  step_back r rs None a xs h k e = absurd (cc e)
  step_back r rs (Some y) None xs h k e = absurd (cc e)
  step_back r rs (Some y) (Some ys) xs h k e = ap (map back) (sym (some_alike e)) ∙ (λ j. h y refl j ∷ k ys refl j)

  pub each_of-back : (rs : List Row) (xs : List X) → each_of f rs ≡ Some xs → map back xs ≡ rs
  each_of-back [] xs e = ap (map back) (sym (some_alike e))
  each_of-back (r ∷ rs) xs e = step_back r rs (f r) (each_of f rs) xs (of r) (λ ys g. each_of-back rs ys g) e

-- ---- the names of courses

pub names_rise : (cs : List RouteCourse) → are_route_courses cs ≡ true → IsSortedBy name_before (map (λ (c : RouteCourse). c.route) cs)
names_rise cs h =
    names_sorted (map (λ (c : RouteCourse). c.route) cs)
    (each_two-map name_before (λ (c : RouteCourse). c.route) cs ∙ (and_parts (each_two course_before cs) (list_all (λ c. is_route_course c.entries) cs) h).0)

-- sound courses are those of routes in the order of their names
pub route_courses : (links : List Link) (cs : List RouteCourse) → are_courses links cs ≡ true → are_route_courses cs ≡ true
route_courses links cs t =
    let apart = each_two (λ (c d : RouteCourse). not (meets c.entries d.entries)) cs in
    let most = and_parts (each_two course_before cs && list_all (is_course links) cs && apart) (nat_le (length cs) most_routes) t in
    let three = and_parts (each_two course_before cs && list_all (is_course links) cs) apart most.0 in
    let two = and_parts (each_two course_before cs) (list_all (is_course links) cs) three.0 in
    and_from (each_two course_before cs) (list_all (λ c. is_route_course c.entries) cs) two.0
    (all_weaker (is_course links) (λ c. is_route_course c.entries) cs (λ c k. (and_parts (is_route_course c.entries) (list_all (is_on_a_link links) c.entries) (and_parts (is_route_course c.entries && list_all (is_on_a_link links) c.entries) (each_two differs c.entries) k).0).0) two.1)

-- ---- the marks of one route

abbrev fit : Measured → Bool
fit m = have_marks m.course.entries m.marks

module _ (said : List (OfRoute (Numbered Mark))) (c : RouteCourse) where
  abbrev list_of : Option (List Mark)
  list_of = counted 0 (sorted number_before (said_of c.route said))

  abbrev with_list : Option (List Mark) → Option Measured
  with_list o = passing (option.◌>>=◌ o (λ marks. Some (record { course = c; marks = marks }))) fit

  pub not_counted : None ≡ list_of → None ≡ good_measured said c
  not_counted e = ap with_list e

  module _ (list : List Mark) (len : ℕ) (e : Some list ≡ list_of) (l : len ≡ length c.entries) where
    tested : (b : Bool) → is_none (bad_mark len list) ≡ b → only_if b (record { course = c; marks = list }) ≡ good_measured said c
    tested b h = ap (λ b. only_if b (record { course = c; marks = list })) (sym h ∙ ap (λ n. is_none (bad_mark n list)) l) ∙ ap with_list e

    pub fitting : (marks : List Mark) → marks ≡ list → bad_mark len list ≡ None → Some (record { course = c; marks = marks }) ≡ good_measured said c
    fitting marks same h = ap (λ z. Some (record { course = c; marks = z })) same ∙ tested true (ap is_none h)

    pub not_fitting : (i : ℕ) → bad_mark len list ≡ Some i → None ≡ good_measured said c
    not_fitting i h = tested false (ap is_none h)

  at_course : (m : Measured) (o : Option (List Mark)) → option.◌>>=◌ o (λ marks. Some (record { course = c; marks = marks })) ≡ Some m → m.course ≡ c
  at_course m None e = absurd (cc e)
  at_course m (Some marks) e = ap (λ (z : Measured). z.course) (sym (some_alike e))

  pub of_course : (m : Measured) → measured_with said c ≡ Some m → m.course ≡ c
  of_course m e = at_course m list_of e

-- ---- the marks of all

all_fit : (ms : List Measured) → list_all fit ms ≡ are_all_measured ms
all_fit [] = refl
all_fit (m ∷ ms) = ap (λ b. fit m && b) (all_fit ms)

module _ (rows : List MarkRow) (courses : List RouteCourse) where
  abbrev pub is_known : Name → Bool
  is_known = is_name_of (map (λ (c : RouteCourse). c.route) courses)

  abbrev all_with : Option (List (OfRoute (Numbered Mark))) → Option (List Measured)
  all_with o = passing (option.◌>>=◌ o (λ said. each_of (measured_with said) courses)) are_all_measured

  pub none_known : None ≡ each_of (known mark_of is_known) rows → None ≡ passing (measured_of rows courses) are_all_measured
  none_known e = ap all_with (e ∙ each_known_of mark_of (λ (c : RouteCourse). c.route) courses rows)

  good_are : (ys : List (OfRoute (Numbered Mark))) → each_of (good_measured ys) courses ≡ passing (each_of (measured_with ys) courses) are_all_measured
  good_are ys = each_of-passing (measured_with ys) fit courses ∙ (λ j. passing (each_of (measured_with ys) courses) (λ ms. all_fit ms j))

  module _ (said ys : List (OfRoute (Numbered Mark))) (same : IsPermutation said ys) where
    alike : (c : RouteCourse) → measured_with said c ≡ measured_with ys c
    alike c =
        ap (λ (o : Option (List Mark)). option.◌>>=◌ o (λ marks. Some (record { course = c; marks = marks })))
        (counted_alike 0 (said_of c.route said) (said_of c.route ys) (said_of-permutation c.route said ys same))

    pub all_known : Some said ≡ each_of (known mark_of is_known) rows → each_of (good_measured ys) courses ≡ passing (measured_of rows courses) are_all_measured
    all_known e =
        good_are ys ∙ ap (λ o. passing o are_all_measured) (sym (each_of-same (measured_with said) (measured_with ys) alike courses))
        ∙ ap all_with (e ∙ each_known_of mark_of (λ (c : RouteCourse). c.route) courses rows)

  over : (o : Option (List (OfRoute (Numbered Mark)))) (ms : List Measured) → option.◌>>=◌ o (λ said. each_of (measured_with said) courses) ≡ Some ms → courses_of_measured ms ≡ courses
  over None ms e = absurd (cc e)
  over (Some said) ms e = each_of-back (measured_with said) (λ m. m.course) (λ c m h. of_course said c m h) courses ms e

  pub same_courses : (ms : List Measured) → Some ms ≡ passing (measured_of rows courses) are_all_measured → courses_of_measured ms ≡ courses
  same_courses ms e = over (each_of_known mark_of (is_one_of courses) rows) ms (passed are_all_measured (measured_of rows courses) ms e).0

  pub all_measured : (ms : List Measured) → Some ms ≡ passing (measured_of rows courses) are_all_measured → are_all_measured ms ≡ true
  all_measured ms e = (passed are_all_measured (measured_of rows courses) ms e).1
