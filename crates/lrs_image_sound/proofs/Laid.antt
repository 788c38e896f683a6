-- Courses, tested by their pieces.
use Rattle.std.proofs.Common.{◌≡◌, ◌↔◌, ℕ, ◌+◌, ◌-◌, ◌<◌, ◌≤◌, Bool, true, false, cond, not, List, [], ◌∷◌, ◌++◌, map, length, get_or, refl, sym, ap, subst, ◌∙◌, arith, append_assoc}
use Rattle.std.specs.Prelude.{◌&&◌, nat_eq, nat_le, nat_lt, is_some}
use Rattle.std.specs.List.{AllByRecursion, list_all, flat_map}
use Rattle.std.specs.Cmp.{both_ways}
use Rattle.std.proofs.lemmas.Bool.{false≢true, and_parts, and_from, not-true, leb-true, le-leb, ltb-true, lt-ltb}
use Rattle.std.proofs.lemmas.List.{length-map}
use Rattle.std.proofs.lemmas.List.Folds.{list_all-append}
use Rattle.lrs_measure.specs.Lists.{each_two}
use Rattle.lrs_element.specs.declared.link.Link.{Link}
use Rattle.lrs_element.specs.declared.link.Piece.{Piece}
use Rattle.lrs_element.specs.declared.link.Ground.{Ground}
use Rattle.lrs_element.specs.Course.{expand, course_of, first_repeated, meets}
use Rattle.lrs_element.specs.Pieces.{piece_len, ground_of, IsFilled}
use Rattle.lrs_element.proofs.Expanding.{length-expand, get_or-expand}
use Rattle.lrs_position.specs.Routes.{is_route_course}
use Rattle.lrs_machine.specs.declared.image.RouteRow.{RouteRow}
use Rattle.lrs_measure.specs.Limits.{most_routes}
use Rattle.lrs_measure.proofs.Members.{any_found, any_of, all_at, all_of}
use Rattle.lrs_measure.proofs.Places.{place_in, member_at}
use Rattle.lrs_events.specs.Places.{differs}
use Rattle.lrs_machine.specs.Sound.{RouteCourse, is_on_a_link, is_course, course_before, are_courses}
use Rattle.lrs_machine.proofs.Pairs.{each_two-map}
use Rattle.lrs_image_sound.specs.CourseRepeats.{ends_on_a_link, is_on_links}
use Rattle.lrs_image_sound.specs.Tables.{route_before, route_courses}
use Rattle.lrs_image_sound.proofs.Coursed.{courses_are_apart}
use Rattle.lrs_image_sound.proofs.Fitting.{fits}

module _ (links : List Link) where
  -- one piece
  piece_is : (p : Piece) → IsFilled p → ends_on_a_link links p ≡ list_all (is_on_a_link links) (expand p)
  piece_is p f = both_ways (ends_on_a_link links p) (list_all (is_on_a_link links) (expand p)) there back
    where
      inside : (fw : Bool) (a b i : ℕ) → i < b - a → cond fw (a + i) (b - 1 - i) < b
      inside true a b i h = omega (arith, h)
      inside false a b i h = omega (arith, h)

      there : ends_on_a_link links p ≡ true → list_all (is_on_a_link links) (expand p) ≡ true
      there h =
          let l = any_found (λ l. nat_eq l.number p.link && nat_le p.to l.length) links h in
          let both = and_parts (nat_eq l.0.number p.link) (nat_le p.to l.0.length) l.2 in
          let most = leb-true p.to l.0.length both.1 in
          all_of (is_on_a_link links) (expand p) (λ g m.
          let at = place_in g (expand p) m in
          let within : at.0 < piece_len p = omega (arith, at.1, length-expand p) in
          let is : ground_of p at.0 ≡ g = sym (get_or-expand p at.0 g within) ∙ at.2 g in
          subst (λ h. is_on_a_link links h ≡ true) is
          (any_of (λ l. nat_eq l.number p.link && nat_lt (ground_of p at.0).mm l.length) l.0 links l.1
          (and_from (nat_eq l.0.number p.link) (nat_lt (ground_of p at.0).mm l.0.length) both.0
          (let low = inside p.forward p.from p.to at.0 within in lt-ltb (ground_of p at.0).mm l.0.length (omega (arith, low, most))))))

      last : Bool → ℕ
      last true = p.to - 1 - p.from
      last false = 0

      last_is : (fw : Bool) → cond fw (p.from + last fw) (p.to - 1 - last fw) ≡ p.to - 1
      last_is true = let lt : p.from < p.to = f in omega (arith, lt)
      last_is false = omega arith

      last_in : (fw : Bool) → last fw < p.to - p.from
      last_in true = let lt : p.from < p.to = f in omega (arith, lt)
      last_in false = let lt : p.from < p.to = f in omega (arith, lt)

      back : list_all (is_on_a_link links) (expand p) ≡ true → ends_on_a_link links p ≡ true
      back h =
          let i : ℕ = last p.forward in
          let within : i < piece_len p = last_in p.forward in
          let inner : i < length (expand p) = omega (arith, within, length-expand p) in
          let d : Ground = ground_of p i in
          let m = member_at (expand p) i d inner in
          let on : is_on_a_link links (ground_of p i) ≡ true = subst (λ g. is_on_a_link links g ≡ true) (get_or-expand p i d within) (all_at (is_on_a_link links) (get_or (expand p) i d) (expand p) h m) in
          let l = any_found (λ l. nat_eq l.number p.link && nat_lt (ground_of p i).mm l.length) links on in
          let both = and_parts (nat_eq l.0.number p.link) (nat_lt (ground_of p i).mm l.0.length) l.2 in
          let less = ltb-true (ground_of p i).mm l.0.length both.1 in
          let is : (ground_of p i).mm ≡ p.to - 1 = last_is p.forward in
          let lt : p.from < p.to = f in
          any_of (λ l. nat_eq l.number p.link && nat_le p.to l.length) l.0 links l.1
          (and_from (nat_eq l.0.number p.link) (nat_le p.to l.0.length) both.0 (le-leb p.to l.0.length (omega (arith, less, is, lt))))

  pub pieces_are : (ps : List Piece) → AllByRecursion IsFilled ps → list_all (ends_on_a_link links) ps ≡ list_all (is_on_a_link links) (course_of ps)
  pieces_are [] f = refl
  pieces_are (p ∷ ps) f = (λ j. piece_is p f.0 j && pieces_are ps f.1 j) ∙ sym (list_all-append (is_on_a_link links) (expand p) (course_of ps))

-- ---- pieces of more than one course

pub course_of-append : (ps qs : List Piece) → course_of (ps ++ qs) ≡ course_of ps ++ course_of qs
course_of-append [] qs = refl
course_of-append (p ∷ ps) qs = ap (λ l. expand p ++ l) (course_of-append ps qs) ∙ sym (append_assoc (expand p) (course_of ps) (course_of qs))

pub all-append : {X : Type 0} (P : X → Type 0) (xs ys : List X) → AllByRecursion P xs → AllByRecursion P ys → AllByRecursion P (xs ++ ys)
all-append P [] ys h k = k
all-append P (x ∷ xs) ys h k = (h.0, all-append P xs ys h.1 k)

-- ---- all routes

abbrev of_route : RouteRow → RouteCourse
of_route e = record { route = e.route.name; entries = e.route.course }

abbrev own : List Ground → Bool
own course = each_two differs course

abbrev apart : List Ground → List Ground → Bool
apart c d = not (meets c d)

courses_joined : (routes : List RouteRow) → flat_map (λ e. e.route.course) routes ≡ flat_map (λ course. course) (map (λ (e : RouteRow). e.route.course) routes)
courses_joined [] = refl
courses_joined (e ∷ rest) = ap (λ l. e.route.course ++ l) (courses_joined rest)

module _ (links : List Link) (routes : List RouteRow) where
  ordered : each_two course_before (route_courses routes) ≡ each_two route_before routes
  ordered = each_two-map course_before of_route routes

  each_is : (rs : List RouteRow) → list_all (is_on_links links) rs ≡ true → list_all (is_course links) (route_courses rs) ≡ list_all own (map (λ (e : RouteRow). e.route.course) rs)
  each_is [] h = refl
  each_is (e ∷ rest) h =
      let both = and_parts (is_on_links links e) (list_all (is_on_links links) rest) h in
      (λ j. ((fits e).0 j && both.0 j && own e.route.course) && each_is rest both.1 j)

  pub off_is : (rs : List RouteRow) → list_all (is_course links) (route_courses rs) ≡ true → list_all (is_on_links links) rs ≡ true
  off_is [] h = refl
  off_is (e ∷ rest) h =
      let both = and_parts (is_course links (of_route e)) (list_all (is_course links) (route_courses rest)) h in
      let good = and_parts (is_route_course e.route.course && is_on_links links e) (own e.route.course) both.0 in
      and_from (is_on_links links e) (list_all (is_on_links links) rest) (and_parts (is_route_course e.route.course) (is_on_links links e) good.0).1 (off_is rest both.1)

  meeting : each_two (λ c d. not (meets c.entries d.entries)) (route_courses routes) ≡ each_two apart (map (λ (e : RouteRow). e.route.course) routes)
  meeting = each_two-map (λ c d. not (meets c.entries d.entries)) of_route routes ∙ sym (each_two-map apart (λ (e : RouteRow). e.route.course) routes)

  abbrev tested : Bool
  tested = are_courses links (route_courses routes)

  pub out_of_order : each_two route_before routes ≡ false → false ≡ tested
  out_of_order h = sym (λ j. (ordered ∙ h) j && list_all (is_course links) (route_courses routes) && each_two (λ c d. not (meets c.entries d.entries)) (route_courses routes) && nat_le (length (route_courses routes)) most_routes)

  pub off_links : list_all (is_on_links links) routes ≡ false → false ≡ tested
  off_links h = both_ways false tested (λ e. absurd (false≢true e)) (λ t.
      let most = and_parts (each_two course_before (route_courses routes) && list_all (is_course links) (route_courses routes) && each_two (λ c d. not (meets c.entries d.entries)) (route_courses routes)) (nat_le (length (route_courses routes)) most_routes) t in
      let three = and_parts (each_two course_before (route_courses routes) && list_all (is_course links) (route_courses routes)) (each_two (λ c d. not (meets c.entries d.entries)) (route_courses routes)) most.0 in
      let two = and_parts (each_two course_before (route_courses routes)) (list_all (is_course links) (route_courses routes)) three.0 in
      sym h ∙ off_is routes two.1)

  pub too_many : most_routes < length routes → false ≡ tested
  too_many h = both_ways false tested (λ e. absurd (false≢true e)) (λ t.
      let most = and_parts (each_two course_before (route_courses routes) && list_all (is_course links) (route_courses routes) && each_two (λ c d. not (meets c.entries d.entries)) (route_courses routes)) (nat_le (length (route_courses routes)) most_routes) t in
      let few = leb-true (length (route_courses routes)) most_routes most.1 in
      absurd (omega (arith, few, h, length-map routes of_route)))

  pub courses_answer : (pieces : List Piece) (repeat : Bool) → each_two route_before routes ≡ true → list_all (is_on_links links) routes ≡ true → length routes ≤ most_routes
      → course_of pieces ≡ flat_map (λ e. e.route.course) routes → repeat ≡ is_some (first_repeated [] pieces) → not repeat ≡ tested
  courses_answer pieces repeat order on few run search' =
      ap not search' ∙ both_ways (not (is_some (first_repeated [] pieces))) (list_all own courses && each_two apart courses)
      (λ t. law.0 (not-true (is_some (first_repeated [] pieces)) t)) (λ t. ap not (law.1 t))
      ∙ last (list_all own courses) (each_two apart courses) ∙ sym (λ j. (ordered ∙ order) j && each_is routes on j && meeting j && count j)
    where
      courses : List (List Ground)
      courses = map (λ (e : RouteRow). e.route.course) routes

      law : (is_some (first_repeated [] pieces) ≡ false) ↔ ((list_all own courses && each_two apart courses) ≡ true)
      law = courses_are_apart pieces courses (run ∙ courses_joined routes)

      count : nat_le (length (route_courses routes)) most_routes ≡ true
      count = le-leb (length (route_courses routes)) most_routes (omega (arith, few, length-map routes of_route))

      last : (a b : Bool) → (a && b) ≡ (a && b && true)
      last true true = refl
      last true false = refl
      last false b = refl
