-- The referents that rows say of known routes, and whether they stand there.
use Rattle.std.proofs.Common.{◌≡◌, Bool, true, false, ◌⊎◌, inl, inr, IsTrue, List, [], ◌∷◌, ◌++◌, map, length, Option, Some, None, refl, sym, ap, subst, ◌∙◌, IsPermutation}
use Rattle.std.specs.Prelude.{◌&&◌, not, nat_lt}
use Rattle.std.specs.List.{list_any, list_all, flat_map}
use Rattle.std.specs.List.Sorted.{IsSortedBy}
use Rattle.std.specs.Cmp.{IsStrictWeakOrder}
use Rattle.std.specs.Cmp.Lexicographic.{nat_list_cmp_total}
use Rattle.std.proofs.Math.Path.{PathP, to_path_p}
use Rattle.std.proofs.Math.Bool.{Bool-set}
use Rattle.std.proofs.lemmas.Bool.{false≢true, both_ways, and_parts, and_from, cases_Bool, false_from_ne_true}
use Rattle.std.proofs.lemmas.List.Sorted.{ranks_by}
use Rattle.lrs_measure.specs.Lists.{each_two}
use Rattle.lrs_measure.specs.Texts.{Name, same_name, name_before}
use Rattle.lrs_position.specs.declared.route.Referent.{Referent}
use Rattle.lrs_position.specs.declared.route.Route.{Route}
use Rattle.lrs_position.specs.Routes.{is_route, is_route_course, have_marks, are_referents}
use Rattle.lrs_machine.specs.Sound.{RouteCourse}
use Rattle.lrs_machine.proofs.Pairs.{each_two-map}
use Rattle.lrs_store_tables.specs.Contents.Tables.{RefRow}
use Rattle.lrs_store_tables.specs.Contents.Decoders.{if_true, each_of, OfRoute, said_of, sorted, referent_of}
use Rattle.lrs_store_tables.specs.Contents.Decoders as option
use Rattle.lrs_store_tables.specs.Contents.Content.{each_of_known, Measured, referent_before, referents_of, route_with, routes_of}
use Rattle.lrs_store_image.specs.DecodedRoutes.Courses.{passing}
use Rattle.lrs_store_image.specs.DecodedRoutes.Marks.{is_name_of, known, are_route_courses, courses_of_measured, are_all_measured}
use Rattle.lrs_store_image.specs.DecodedRoutes.Referents.{is_measured, route_if, are_all_referred, courses_of_routes}
use Rattle.lrs_store_tables.proofs.Contents.Unordered.{sort_alike, sorted_in_order}
use Rattle.lrs_store_image.proofs.DecodedRoutes.Grouped.{sorted_strict}
use Rattle.lrs_store_image.proofs.DecodedRoutes.Reading.{each_of-same}
use Rattle.lrs_store_image.proofs.DecodedRoutes.Measuring.{each_known_of, said_of-permutation, passed, each_of-back, names_rise}

some_alike : {A : Type 0} {a b : A} → ◌≡◌ {A = Option A} (Some a) (Some b) → a ≡ b
some_alike e = cc

pub referents_rank : IsStrictWeakOrder referent_before
referents_rank = ranks_by nat_list_cmp_total (λ (r : Referent). r.name)

-- ---- a value that needs a test to pass

module _ {A : Type 0} where
  value_is : (b : Bool) (value : IsTrue b → A) (h : IsTrue b) → if_true b value ≡ Some (value h)
  value_is true value h = ap (λ p. Some (value p)) (Bool-set true true refl h)
  value_is false value h = absurd (false≢true h)

  no_value : (b : Bool) (value : IsTrue b → A) → b ≡ false → if_true b value ≡ None
  no_value true value h = absurd (false≢true (sym h))
  no_value false value h = refl

  value_from : (b : Bool) (value : IsTrue b → A) (P : A → Type 0) → ((h : IsTrue b) → P (value h)) → (x : A) → if_true b value ≡ Some x → P x
  value_from true value P f x e = subst P (some_alike e) (f refl)
  value_from false value P f x e = absurd (cc e)

-- ---- one route

-- Routes with equal parts are equal, whichever proofs they fit by.
fits_alike : (a b : Route) (course : a.course ≡ b.course) (marks : a.marks ≡ b.marks) (refs : a.refs ≡ b.refs) → PathP (λ k. is_route (course k) (marks k) (refs k) ≡ true) a.fits b.fits
fits_alike a b course marks refs = to_path_p (λ k. is_route (course k) (marks k) (refs k) ≡ true) (Bool-set (is_route b.course b.marks b.refs) true (coe 0 1 (k. is_route (course k) (marks k) (refs k) ≡ true) a.fits) b.fits)

same_route : (a b : Route) → a.name ≡ b.name → a.course ≡ b.course → a.marks ≡ b.marks → a.refs ≡ b.refs → a ≡ b
same_route a b name course marks refs = λ j. record { name = name j; course = course j; marks = marks j; refs = refs j; fits = fits_alike a b course marks refs j }

module _ (m : Measured) where
  abbrev with : (refs : List Referent) → IsTrue (is_route m.course.entries m.marks refs) → Route
  with refs fits = record { name = m.course.route; course = m.course.entries; marks = m.marks; refs = refs; fits = fits }

  pub made : (r : Route) (refs : List Referent) → r.name ≡ m.course.route → r.course ≡ m.course.entries → r.marks ≡ m.marks → r.refs ≡ refs → Some r ≡ route_if m refs
  made r refs name course marks same =
      let h : is_route m.course.entries m.marks refs ≡ true = sym (λ j. is_route (course j) (marks j) (same j)) ∙ r.fits in
      ap Some (same_route r (with refs h) name course marks same) ∙ sym (value_is (is_route m.course.entries m.marks refs) (with refs) h)

  pub not_made : (refs : List Referent) → are_referents (length m.course.entries) refs ≡ false → None ≡ route_if m refs
  not_made refs f =
      sym (no_value (is_route m.course.entries m.marks refs) (with refs) (false_from_ne_true (is_route m.course.entries m.marks refs) (λ t.
      both_ways (are_referents (length m.course.entries) refs) f (and_parts (is_route_course m.course.entries && have_marks m.course.entries m.marks) (are_referents (length m.course.entries) refs) t).1)))

  pub fits_as : (refs : List Referent) → is_measured m ≡ true → are_referents (length m.course.entries) refs ≡ true → is_route m.course.entries m.marks refs ≡ true
  fits_as refs h k = and_from (is_measured m) (are_referents (length m.course.entries) refs) h k

  unordered : (refs : List Referent) → each_two referent_before refs ≡ false → None ≡ route_if m refs
  unordered refs f = not_made refs (false_from_ne_true (are_referents (length m.course.entries) refs) (λ t.
      both_ways (each_two referent_before refs) f (and_parts (each_two referent_before refs) (list_all (λ r. nat_lt r.at (length m.course.entries)) refs) t).0))

  -- the same referents in any order, sorted, make the same route
  pub alike_refs : (xs ys : List Referent) → IsPermutation xs ys → route_if m (sorted referent_before xs) ≡ route_if m (sorted referent_before ys)
  alike_refs xs ys same = by (sort_alike referent_before referents_rank xs ys same)
    where
      by : (sorted referent_before xs ≡ sorted referent_before ys) ⊎ ((each_two referent_before (sorted referent_before xs) ≡ false) × (each_two referent_before (sorted referent_before ys) ≡ false)) → route_if m (sorted referent_before xs) ≡ route_if m (sorted referent_before ys)
      by (inl e) = ap (route_if m) e
      by (inr f) = sym (unordered (sorted referent_before xs) f.0) ∙ unordered (sorted referent_before ys) f.1

  pub sorted_refs : (xs ys : List Referent) → IsPermutation xs ys → IsSortedBy referent_before ys → route_if m ys ≡ route_if m (sorted referent_before xs)
  sorted_refs xs ys same up = by (cases_Bool (each_two referent_before ys)) ∙ sym (alike_refs xs ys same)
    where
      by : (each_two referent_before ys ≡ true) ⊎ (each_two referent_before ys ≡ false) → route_if m ys ≡ route_if m (sorted referent_before ys)
      by (inl h) = ap (route_if m) (sym (sorted_in_order referent_before ys h))
      by (inr f) =
          sym (unordered ys f) ∙ unordered (sorted referent_before ys)
          (false_from_ne_true (each_two referent_before (sorted referent_before ys)) (λ t. both_ways (each_two referent_before ys) f (sorted_strict referent_before referents_rank ys up t)))

-- ---- all routes

each_ready : (ms : List Measured) → list_all (λ c. is_route_course c.entries) (courses_of_measured ms) ≡ true → are_all_measured ms ≡ true → list_all is_measured ms ≡ true
each_ready [] h k = refl
each_ready (m ∷ ms) h k =
    let route = and_parts (is_route_course m.course.entries) (list_all (λ c. is_route_course c.entries) (courses_of_measured ms)) h in
    let marks = and_parts (have_marks m.course.entries m.marks) (are_all_measured ms) k in
    and_from (is_measured m) (list_all is_measured ms) (and_from (is_route_course m.course.entries) (have_marks m.course.entries m.marks) route.0 marks.0) (each_ready ms route.1 marks.1)

pub all_ready : (ms : List Measured) → are_route_courses (courses_of_measured ms) ≡ true → are_all_measured ms ≡ true → list_all is_measured ms ≡ true
all_ready ms h k = each_ready ms (and_parts (each_two (λ (c d : RouteCourse). name_before c.route d.route) (courses_of_measured ms)) (list_all (λ c. is_route_course c.entries) (courses_of_measured ms)) h).1 k

abbrev pub name_of : Measured → Name
name_of m = m.course.route

names_are : (ms : List Measured) → map (λ (c : RouteCourse). c.route) (courses_of_measured ms) ≡ map name_of ms
names_are [] = refl
names_are (m ∷ ms) = ap (λ l. name_of m ∷ l) (names_are ms)

pub measured_names_rise : (ms : List Measured) → are_route_courses (courses_of_measured ms) ≡ true → IsSortedBy name_before (map name_of ms)
measured_names_rise ms h = subst (IsSortedBy name_before) (names_are ms) (names_rise (courses_of_measured ms) h)

module _ (rows : List RefRow) (ms : List Measured) where
  abbrev pub is_known : Name → Bool
  is_known = is_name_of (map name_of ms)

  abbrev all_with : Option (List (OfRoute Referent)) → Option (List Route)
  all_with o = option.◌>>=◌ o (λ said. each_of (route_with said) ms)

  pub none_known : None ≡ each_of (known referent_of is_known) rows → None ≡ routes_of rows ms
  none_known e = ap all_with (e ∙ each_known_of referent_of name_of ms rows)

  pub all_known : (said ys : List (OfRoute Referent)) → IsPermutation said ys → Some said ≡ each_of (known referent_of is_known) rows → each_of (route_with ys) ms ≡ routes_of rows ms
  all_known said ys same e =
      sym (each_of-same (route_with said) (route_with ys) (λ m. alike_refs m (said_of m.course.route said) (said_of m.course.route ys) (said_of-permutation m.course.route said ys same)) ms)
      ∙ ap all_with (e ∙ each_known_of referent_of name_of ms rows)

-- ---- the names of referents

abbrev differ : Name → Name → Bool
differ k l = not (same_name k l)

own_stand : (rs : List Route) → list_all (λ r. are_referents (length r.course) r.refs) rs ≡ true
own_stand [] = refl
own_stand (r ∷ rs) =
    and_from (are_referents (length r.course) r.refs) (list_all (λ r. are_referents (length r.course) r.refs) rs)
    (and_parts (is_route_course r.course && have_marks r.course r.marks) (are_referents (length r.course) r.refs) r.fits).1 (own_stand rs)

stand_is : (rs : List Route) → list_all (λ r. are_referents r.length r.refs) (map referents_of rs) ≡ list_all (λ r. are_referents (length r.course) r.refs) rs
stand_is [] = refl
stand_is (r ∷ rs) = ap (λ b. are_referents (length r.course) r.refs && b) (stand_is rs)

all_refs : (rs : List Route) → flat_map (λ r. r.refs) (map referents_of rs) ≡ flat_map (λ r. r.refs) rs
all_refs [] = refl
all_refs (r ∷ rs) = ap (λ l. r.refs ++ l) (all_refs rs)

pub own_names : (rs : List Route) (names : List Name) (b : Bool) → names ≡ map (λ (r : Referent). r.name) (flat_map (λ r. r.refs) rs) → b ≡ each_two differ names → b ≡ are_all_referred rs
own_names rs names b are once =
    once ∙ ap (each_two differ) are ∙ each_two-map differ (λ (r : Referent). r.name) (flat_map (λ r. r.refs) rs) ∙ ap (each_two (λ a b. differ a.name b.name)) (sym (all_refs rs))
    ∙ sym (ap (λ c. c && each_two (λ a b. differ a.name b.name) (flat_map (λ r. r.refs) (map referents_of rs))) (stand_is rs ∙ own_stand rs))

-- ---- the courses stay

abbrev back : Route → Measured
back r = record { course = record { route = r.name; entries = r.course }; marks = r.marks }

courses_back : (rs : List Route) → courses_of_measured (map back rs) ≡ courses_of_routes rs
courses_back [] = refl
courses_back (r ∷ rs) = ap (λ l. record { route = r.name; entries = r.course } ∷ l) (courses_back rs)

of_measured : (said : List (OfRoute Referent)) (m : Measured) (r : Route) → route_with said m ≡ Some r → back r ≡ m
of_measured said m r e =
    let refs = sorted referent_before (said_of m.course.route said) in
    value_from (is_route m.course.entries m.marks refs) (with m refs) (λ r. back r ≡ m) (λ h. refl) r e

over : (ms : List Measured) (o : Option (List (OfRoute Referent))) (rs : List Route) → option.◌>>=◌ o (λ said. each_of (route_with said) ms) ≡ Some rs → courses_of_routes rs ≡ courses_of_measured ms
over ms None rs e = absurd (cc e)
over ms (Some said) rs e = sym (courses_back rs) ∙ ap courses_of_measured (each_of-back (route_with said) back (λ m r h. of_measured said m r h) ms rs e)

pub same_courses : (rows : List RefRow) (ms : List Measured) (rs : List Route) → Some rs ≡ passing (routes_of rows ms) are_all_referred → courses_of_routes rs ≡ courses_of_measured ms
same_courses rows ms rs e = over ms (each_of_known referent_of (λ route. list_any (λ m. same_name m.course.route route) ms) rows) rs (passed are_all_referred (routes_of rows ms) rs e).0
