-- The courses that rows of pieces say, and whether they are sound.
use Rattle.std.proofs.Common.{◌≡◌, ◌↔◌, Bool, true, false, not, List, [], ◌∷◌, ◌++◌, map, filter, length, Option, Some, None, Ok, Err, refl, sym, ap, ◌∙◌, IsPermutation}
use Rattle.std.specs.Prelude.{◌&&◌, nat_le, is_some, if◌then◌else◌}
use Rattle.std.specs.List.{list_all, flat_map}
use Rattle.std.specs.Cmp.{both_ways}
use Rattle.std.proofs.lemmas.Bool.{and_parts, and_from, not-true, false_from_ne_true}
use Rattle.std.proofs.lemmas.List.Sorted.{IsPermutation-map}
use Rattle.lrs_measure.specs.Lists.{each_two}
use Rattle.lrs_measure.specs.Texts.{Name, same_name, name_before}
use Rattle.lrs_element.specs.declared.link.Link.{Link}
use Rattle.lrs_element.specs.declared.link.Piece.{Piece}
use Rattle.lrs_element.specs.declared.link.Ground.{Ground}
use Rattle.lrs_element.specs.Course.{course_of, first_repeated, meets}
use Rattle.lrs_position.specs.Routes.{is_route_course}
use Rattle.lrs_events.specs.Places.{differs}
use Rattle.lrs_machine.specs.declared.table.Table.{Table}
use Rattle.lrs_measure.specs.Limits.{most_routes}
use Rattle.lrs_measure.proofs.Members.{all_weaker}
use Rattle.lrs_machine.specs.Sound.{RouteCourse, is_on_a_link, is_course, course_before, are_courses}
use Rattle.lrs_machine.proofs.Pairs.{each_two-map}
use Rattle.lrs_image_sound.proofs.Coursed.{courses_are_apart}
use Rattle.lrs_store_tables.specs.Contents.Tables.{PieceRow}
use Rattle.lrs_store_tables.specs.Contents.Decoders.{each_of, only_if, OfRoute, Numbered, number_before, said_of, sorted, counted, piece_of}
use Rattle.lrs_store_tables.specs.Contents.Decoders as option
use Rattle.lrs_store_tables.specs.Contents.Content.{read, routes_named, course_in_fewest, course_of_route, courses_of}
use Rattle.lrs_store_image.specs.DecodedRoutes.Courses.{is_good_course, good_course, good_route, fit_together, passing}
use Rattle.lrs_store_tables.proofs.Contents.Unordered.{IsPermutation-filter}
use Rattle.lrs_store_image.proofs.DecodedRoutes.Grouped.{counted_alike}
use Rattle.lrs_store_image.proofs.DecodedRoutes.Naming.{routes_named-permutation, routes_named_rise}

-- ---- courses that share nothing

abbrev pub own : RouteCourse → Bool
own c = each_two differs c.entries

abbrev pub share_nothing : List RouteCourse → Bool
share_nothing courses = each_two (λ c d. not (meets c.entries d.entries)) courses

abbrev grounds : List RouteCourse → List (List Ground)
grounds [] = []
grounds (c ∷ cs) = c.entries ∷ grounds cs

grounds_is : (cs : List RouteCourse) → grounds cs ≡ map (λ (c : RouteCourse). c.entries) cs
grounds_is [] = refl
grounds_is (c ∷ cs) = ap (λ l. c.entries ∷ l) (grounds_is cs)

joined : (cs : List RouteCourse) → flat_map (λ c. c.entries) cs ≡ flat_map (λ course. course) (grounds cs)
joined [] = refl
joined (c ∷ cs) = ap (λ l. c.entries ++ l) (joined cs)

all_own : (cs : List RouteCourse) → list_all own cs ≡ list_all (λ course. each_two differs course) (grounds cs)
all_own [] = refl
all_own (c ∷ cs) = ap (λ b. own c && b) (all_own cs)

pub apart_answer : (cs : List RouteCourse) (pieces : List Piece) (repeat : Bool) → list_all own cs ≡ true → course_of pieces ≡ flat_map (λ c. c.entries) cs → repeat ≡ is_some (first_repeated [] pieces) → not repeat ≡ share_nothing cs
apart_answer cs pieces repeat each run is =
    ap not is ∙ both_ways (not (is_some (first_repeated [] pieces))) (share_nothing cs)
    (λ t. meeting ∙ (and_parts (list_all (λ course. each_two differs course) (grounds cs)) (each_two (λ c d. not (meets c d)) (grounds cs)) (law.0 (not-true (is_some (first_repeated [] pieces)) t))).1)
    (λ t. ap not (law.1 (and_from (list_all (λ course. each_two differs course) (grounds cs)) (each_two (λ c d. not (meets c d)) (grounds cs)) (sym (all_own cs) ∙ each) (sym meeting ∙ t))))
  where
    law : (is_some (first_repeated [] pieces) ≡ false) ↔ ((list_all (λ course. each_two differs course) (grounds cs) && each_two (λ c d. not (meets c d)) (grounds cs)) ≡ true)
    law = courses_are_apart pieces (grounds cs) (run ∙ joined cs)

    meeting : share_nothing cs ≡ each_two (λ c d. not (meets c d)) (grounds cs)
    meeting = sym (each_two-map (λ (c d : List Ground). not (meets c d)) (λ (c : RouteCourse). c.entries) cs) ∙ ap (each_two (λ c d. not (meets c d))) (sym (grounds_is cs))

-- ---- each passes a test

module _ {Row X : Type 0} (f : Row → Option X) (t : X → Bool) where
  only : (c : Bool) (y : X) (ys : List X) → option.◌>>=◌ (only_if c ys) (λ zs. Some (y ∷ zs)) ≡ only_if c (y ∷ ys)
  only true y ys = refl
  only false y ys = refl

  first : (b : Bool) (y : X) (a m : Option (List X)) → m ≡ option.◌>>=◌ a (λ ys. only_if (list_all t ys) ys) → option.◌>>=◌ (only_if b y) (λ z. option.◌>>=◌ m (λ ys. Some (z ∷ ys))) ≡ option.◌>>=◌ a (λ ys. only_if (b && list_all t ys) (y ∷ ys))
  first true y None m e = ap (λ n. option.◌>>=◌ n (λ ys. Some (y ∷ ys))) e
  first true y (Some ys) m e = ap (λ n. option.◌>>=◌ n (λ ys. Some (y ∷ ys))) e ∙ only (list_all t ys) y ys
  first false y None m e = refl
  first false y (Some ys) m e = refl

  after : (y : X) (a : Option (List X)) → option.◌>>=◌ (option.◌>>=◌ a (λ ys. Some (y ∷ ys))) (λ zs. only_if (list_all t zs) zs) ≡ option.◌>>=◌ a (λ ys. only_if (t y && list_all t ys) (y ∷ ys))
  after y None = refl
  after y (Some ys) = refl

  glue : (o : Option X) (a m : Option (List X)) → m ≡ option.◌>>=◌ a (λ ys. only_if (list_all t ys) ys)
      → option.◌>>=◌ (option.◌>>=◌ o (λ y. only_if (t y) y)) (λ y. option.◌>>=◌ m (λ ys. Some (y ∷ ys))) ≡ option.◌>>=◌ (option.◌>>=◌ o (λ y. option.◌>>=◌ a (λ ys. Some (y ∷ ys)))) (λ zs. only_if (list_all t zs) zs)
  glue None a m e = refl
  glue (Some y) a m e = first (t y) y a m e ∙ sym (after y a)

  pub each_of-passing : (xs : List Row) → each_of (λ x. option.◌>>=◌ (f x) (λ y. only_if (t y) y)) xs ≡ option.◌>>=◌ (each_of f xs) (λ ys. only_if (list_all t ys) ys)
  each_of-passing [] = refl
  each_of-passing (x ∷ xs) = glue (f x) (each_of f xs) (each_of (λ x. option.◌>>=◌ (f x) (λ y. only_if (t y) y)) xs) (each_of-passing xs)

pub each_of-same : {Row X : Type 0} (f g : Row → Option X) → ((r : Row) → f r ≡ g r) → (rs : List Row) → each_of f rs ≡ each_of g rs
each_of-same f g h [] = refl
each_of-same f g h (r ∷ rs) = λ j. option.◌>>=◌ (h r j) (λ x. option.◌>>=◌ (each_of-same f g h rs j) (λ xs. Some (x ∷ xs)))

-- ---- what a route has of its name

some_alike : {A : Type 0} {a b : A} → ◌≡◌ {A = Option A} (Some a) (Some b) → a ≡ b
some_alike e = cc

module _ (f : Name → Option RouteCourse) (of : (n : Name) (c : RouteCourse) → f n ≡ Some c → c.route ≡ n) where
  step_keys : (n : Name) (ns : List Name) (o : Option RouteCourse) (a : Option (List RouteCourse)) (cs : List RouteCourse) → ((c : RouteCourse) → o ≡ Some c → c.route ≡ n) → ((ds : List RouteCourse) → a ≡ Some ds → map (λ (c : RouteCourse). c.route) ds ≡ ns)
      → option.◌>>=◌ o (λ x. option.◌>>=◌ a (λ xs. Some (x ∷ xs))) ≡ Some cs → map (λ (c : RouteCourse). c.route) cs ≡ n ∷ ns
  step_keys n ns None a cs h k e = absurd (cc e)
  step_keys n ns (Some x) None cs h k e = absurd (cc e)
  step_keys n ns (Some x) (Some xs) cs h k e = ap (map (λ (c : RouteCourse). c.route)) (sym (some_alike e)) ∙ (λ j. h x refl j ∷ k xs refl j)

  keys : (ns : List Name) (cs : List RouteCourse) → each_of f ns ≡ Some cs → map (λ (c : RouteCourse). c.route) cs ≡ ns
  keys [] cs e = ap (map (λ (c : RouteCourse). c.route)) (sym (some_alike e))
  keys (n ∷ ns) cs e = step_keys n ns (f n) (each_of f ns) cs (of n) (λ ds g. keys ns ds g) e

-- ---- the courses of said pieces

module _ (links : List Link) (said : List (OfRoute (Numbered Piece))) where
  abbrev of_name : Name → List Ground → RouteCourse
  of_name route course = record { route = route; entries = course }

  at_test : (route : Name) (course : List Ground) (b : Bool) → option.◌>>=◌ (only_if b course) (λ course. Some (of_name route course)) ≡ only_if b (of_name route course)
  at_test route course true = refl
  at_test route course false = refl

  at_fewest : (route : Name) (o : Option (List Ground)) → option.◌>>=◌ (option.◌>>=◌ o (λ course. only_if (is_good_course links course) course)) (λ course. Some (of_name route course))
      ≡ option.◌>>=◌ (option.◌>>=◌ o (λ course. Some (of_name route course))) (λ c. only_if (is_course links c) c)
  at_fewest route None = refl
  at_fewest route (Some course) = at_test route course (is_good_course links course)

  at_pieces : (route : Name) (o : Option (List Piece)) → option.◌>>=◌ o (λ pieces. option.◌>>=◌ (good_course links pieces) (λ course. Some (of_name route course)))
      ≡ option.◌>>=◌ (option.◌>>=◌ o (λ pieces. option.◌>>=◌ (course_in_fewest pieces) (λ course. Some (of_name route course)))) (λ c. only_if (is_course links c) c)
  at_pieces route None = refl
  at_pieces route (Some pieces) = at_fewest route (course_in_fewest pieces)

  good_is : (route : Name) → good_route links said route ≡ option.◌>>=◌ (course_of_route said route) (λ c. only_if (is_course links c) c)
  good_is route = at_pieces route (counted 0 (sorted number_before (said_of route said)))

  abbrev pub all_courses : Option (List RouteCourse)
  all_courses = each_of (course_of_route said) (routes_named said)

  good_are : each_of (good_route links said) (routes_named said) ≡ option.◌>>=◌ all_courses (λ cs. only_if (list_all (is_course links) cs) cs)
  good_are = each_of-same (good_route links said) (λ n. option.◌>>=◌ (course_of_route said n) (λ c. only_if (is_course links c) c)) good_is (routes_named said) ∙ each_of-passing (course_of_route said) (is_course links) (routes_named said)

  at_course : (n : Name) (c : RouteCourse) (o : Option (List Ground)) → option.◌>>=◌ o (λ course. Some (of_name n course)) ≡ Some c → c.route ≡ n
  at_course n c None e = absurd (cc e)
  at_course n c (Some course) e = ap (λ (z : RouteCourse). z.route) (sym (some_alike e))

  at_name : (n : Name) (c : RouteCourse) (o : Option (List Piece)) → option.◌>>=◌ o (λ pieces. option.◌>>=◌ (course_in_fewest pieces) (λ course. Some (of_name n course))) ≡ Some c → c.route ≡ n
  at_name n c None e = absurd (cc e)
  at_name n c (Some pieces) e = at_course n c (course_in_fewest pieces) e

  in_order : (cs : List RouteCourse) → all_courses ≡ Some cs → each_two course_before cs ≡ true
  in_order cs e =
      sym (each_two-map name_before (λ (c : RouteCourse). c.route) cs)
      ∙ ap (each_two name_before) (keys (course_of_route said) (λ n c g. at_name n c (counted 0 (sorted number_before (said_of n said))) g) (routes_named said) cs e) ∙ routes_named_rise said

  tested : (cs : List RouteCourse) → all_courses ≡ Some cs → list_all (is_course links) cs ≡ true → are_courses links cs ≡ (share_nothing cs && nat_le (length cs) most_routes)
  tested cs e h = λ j. in_order cs e j && h j && share_nothing cs && nat_le (length cs) most_routes

  taken : (o : Option (List RouteCourse)) (cs : List RouteCourse) → Some cs ≡ option.◌>>=◌ o (λ cs. only_if (list_all (is_course links) cs) cs) → (o ≡ Some cs) × (list_all (is_course links) cs ≡ true)
  taken None cs e = absurd (cc e)
  taken (Some ds) cs e = by (list_all (is_course links) ds) refl e
    where
      by : (b : Bool) → list_all (is_course links) ds ≡ b → ◌≡◌ {A = Option (List RouteCourse)} (Some cs) (only_if b ds) → (◌≡◌ {A = Option (List RouteCourse)} (Some ds) (Some cs)) × (list_all (is_course links) cs ≡ true)
      by true h k = let same : cs ≡ ds = some_alike k in (ap Some (sym same), ap (list_all (is_course links)) same ∙ h)
      by false h k = absurd (cc k)

  each_is : (cs : List RouteCourse) → are_courses links cs ≡ true → list_all (is_course links) cs ≡ true
  each_is cs t =
      let most = and_parts (each_two course_before cs && list_all (is_course links) cs && share_nothing cs) (nat_le (length cs) most_routes) t in
      let three = and_parts (each_two course_before cs && list_all (is_course links) cs) (share_nothing cs) most.0 in
      (and_parts (each_two course_before cs) (list_all (is_course links) cs) three.0).1

  missed : (o : Option (List RouteCourse)) → None ≡ option.◌>>=◌ o (λ cs. only_if (list_all (is_course links) cs) cs) → None ≡ passing o (are_courses links)
  missed None e = refl
  missed (Some ds) e = sym (ap (λ b. only_if b ds) (false_from_ne_true (are_courses links ds) (λ t. absurd (cc (e ∙ ap (λ b. only_if b ds) (each_is ds t))))))

  pub none_good : None ≡ each_of (good_route links said) (routes_named said) → None ≡ passing all_courses (are_courses links)
  none_good e = missed all_courses (e ∙ good_are)

  module _ (cs : List RouteCourse) (e : Some cs ≡ each_of (good_route links said) (routes_named said)) where
    both : (all_courses ≡ Some cs) × (list_all (is_course links) cs ≡ true)
    both = taken all_courses cs (e ∙ good_are)

    answer : (b : Bool) → are_courses links cs ≡ b → only_if b cs ≡ passing all_courses (are_courses links)
    answer b h = sym (ap (λ o. passing o (are_courses links)) both.0 ∙ ap (λ b. only_if b cs) h)

    pub each_once : list_all own cs ≡ true
    each_once = all_weaker (is_course links) own cs (λ c k. (and_parts (is_route_course c.entries && list_all (is_on_a_link links) c.entries) (own c) k).1) both.1

    turned : (a b : Bool) → (a && b) ≡ (b && a)
    turned true true = refl
    turned true false = refl
    turned false true = refl
    turned false false = refl

    tested_fit : are_courses links cs ≡ fit_together cs
    tested_fit = tested cs both.0 both.1 ∙ turned (share_nothing cs) (nat_le (length cs) most_routes)

    pub not_fit : fit_together cs ≡ false → None ≡ passing all_courses (are_courses links)
    not_fit h = answer false (tested_fit ∙ h)

    pub fit : fit_together cs ≡ true → Some cs ≡ passing all_courses (are_courses links)
    fit h = answer true (tested_fit ∙ h)

-- ---- the same pieces in another order

module _ (said ys : List (OfRoute (Numbered Piece))) (same : IsPermutation said ys) where
  alike_route : (n : Name) → course_of_route said n ≡ course_of_route ys n
  alike_route n =
      ap (λ o. option.◌>>=◌ o (λ pieces. option.◌>>=◌ (course_in_fewest pieces) (λ course. Some (record { route = n; entries = course }))))
      (counted_alike 0 (said_of n said) (said_of n ys) (IsPermutation-map (λ (r : OfRoute (Numbered Piece)). r.said) (filter (λ r. same_name r.route n) said) (filter (λ r. same_name r.route n) ys) (IsPermutation-filter (λ r. same_name r.route n) said ys same)))

  pub alike_courses : each_of (course_of_route said) (routes_named said) ≡ each_of (course_of_route ys) (routes_named ys)
  alike_courses = each_of-same (course_of_route said) (course_of_route ys) alike_route (routes_named said) ∙ ap (each_of (course_of_route ys)) (routes_named-permutation said ys same)

module _ (rows : List PieceRow) (test : List RouteCourse → Bool) where
  pub none_said : None ≡ each_of piece_of rows → None ≡ passing (courses_of rows) test
  none_said e = ap (λ o. passing (option.◌>>=◌ o (λ said. each_of (course_of_route said) (routes_named said))) test) e

  pub courses_said : (said ys : List (OfRoute (Numbered Piece))) → Some said ≡ each_of piece_of rows → IsPermutation said ys → passing (each_of (course_of_route ys) (routes_named ys)) test ≡ passing (courses_of rows) test
  courses_said said ys e same = ap (λ o. passing o test) (sym (alike_courses said ys same)) ∙ ap (λ o. passing (option.◌>>=◌ o (λ said. each_of (course_of_route said) (routes_named said))) test) e

-- ---- the answer

module _ {X : Type 0} (t : Table) (o : Option X) (test : X → Bool) where
  pub read_some : (x : X) → Some x ≡ passing o test → read t o test ≡ Ok x
  read_some x e = by o e
    where
      at : (y : X) (b : Bool) → ◌≡◌ {A = Option X} (Some x) (only_if b y) → (if b then Ok y else Err t) ≡ Ok x
      at y true k = ap Ok (sym (some_alike k))
      at y false k = absurd (cc k)

      by : (o : Option X) → Some x ≡ passing o test → read t o test ≡ Ok x
      by None k = absurd (cc k)
      by (Some y) k = at y (test y) k

  pub read_none : None ≡ passing o test → read t o test ≡ Err t
  read_none e = by o e
    where
      at : (y : X) (b : Bool) → ◌≡◌ {A = Option X} None (only_if b y) → (if b then Ok y else Err t) ≡ Err t
      at y true k = absurd (cc k)
      at y false k = refl

      by : (o : Option X) → None ≡ passing o test → read t o test ≡ Err t
      by None k = refl
      by (Some y) k = at y (test y) k
