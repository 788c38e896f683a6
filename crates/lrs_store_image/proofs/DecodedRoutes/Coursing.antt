-- When the pieces of a route make a course that a route can have.
use Rattle.std.proofs.Common.{◌≡◌, ℕ, ◌<◌, ◌≤◌, Bool, true, false, cond, not, ◌⊎◌, inl, inr, List, [], ◌∷◌, length, get_or, Option, Some, None, refl, sym, ap, subst, ◌∙◌, arith, append-nil}
use Rattle.std.specs.Prelude.{◌&&◌, ◌||◌, nat_eq, nat_le, nat_lt, is_some, find, position}
use Rattle.std.specs.List.{AllByRecursion, list_any, list_all, flat_map, position_or_len}
use Rattle.std.specs.Option.{option_map_or}
use Rattle.std.proofs.lemmas.Bool.{false≢true, both_ways, and_parts, and_from, or_parts, or_from, not-true, false_from_ne_true, eqb-true, leb-true, le-leb, ltb-true, ltb-false, le-ltb}
use Rattle.std.proofs.lemmas.List.Sums.{fails_before_first, passes_at_first}
use Rattle.lrs_measure.specs.Lists.{In, each_two, is_nothing}
use Rattle.lrs_measure.proofs.Members.{any_found, any_of, all_at, all_of, two_at}
use Rattle.lrs_measure.proofs.Places.{place_in, member_at}
use Rattle.lrs_element.specs.declared.link.Link.{Link}
use Rattle.lrs_element.specs.declared.link.Piece.{Piece}
use Rattle.lrs_element.specs.declared.link.Ground.{Ground}
use Rattle.lrs_element.specs.Course.{course_of, lacks_link, is_bad_piece, length_of, first_repeated, is_too_long, AreGood}
use Rattle.lrs_element.specs.Pieces.{IsFilled}
use Rattle.lrs_position.specs.Routes.{is_route_course}
use Rattle.lrs_events.specs.Places.{differs}
use Rattle.lrs_machine.specs.Sound.{link_before, are_links, is_on_a_link}
use Rattle.lrs_image_sound.specs.CourseRepeats.{ends_on_a_link}
use Rattle.lrs_image_sound.proofs.Coursed.{courses_are_apart}
use Rattle.lrs_image_sound.proofs.Laid.{pieces_are}
use Rattle.lrs_store_image.specs.DecodedRoutes.Courses.{is_good_course}

some_same : {A : Type 0} {a b : A} → ◌≡◌ {A = Option A} (Some a) (Some b) → a ≡ b
some_same e = cc

module _ {X : Type 0} (p : X → Bool) where
  find_in : (xs : List X) (x : X) → find p xs ≡ Some x → In x xs × (p x ≡ true)
  find_in [] x h = absurd (cc h)
  find_in (y ∷ ys) x h = by (p y) refl (find_in ys x) h
    where
      by : (b : Bool) → p y ≡ b → (find p ys ≡ Some x → In x ys × (p x ≡ true)) → cond b (Some y) (find p ys) ≡ Some x → In x (y ∷ ys) × (p x ≡ true)
      by true e more k = let same : y ≡ x = some_same k in (inl (sym same), ap p (sym same) ∙ e)
      by false e more k = let m = more k in (inr m.0, m.1)

  find_none : (xs : List X) → find p xs ≡ None → list_any p xs ≡ false
  find_none [] h = refl
  find_none (y ∷ ys) h = by (p y) (find_none ys) h
    where
      by : (b : Bool) → (find p ys ≡ None → list_any p ys ≡ false) → cond b (Some y) (find p ys) ≡ None → (b || list_any p ys) ≡ false
      by true more k = absurd (cc k)
      by false more k = more k

  -- the first that passes is a member
  some_at : (xs : List X) (i : ℕ) → position p xs ≡ Some i → (x : X) × In x xs × (p x ≡ true)
  some_at [] i h = absurd (cc h)
  some_at (y ∷ ys) i h = by (nat_lt (position_or_len p (y ∷ ys)) (length (y ∷ ys))) refl h
    where
      by : (b : Bool) → nat_lt (position_or_len p (y ∷ ys)) (length (y ∷ ys)) ≡ b → cond b (Some (position_or_len p (y ∷ ys))) None ≡ Some i → (x : X) × In x (y ∷ ys) × (p x ≡ true)
      by true e k =
          let n = position_or_len p (y ∷ ys) in
          let less = ltb-true n (length (y ∷ ys)) e in
          (get_or (y ∷ ys) n y, member_at (y ∷ ys) n y less, passes_at_first p (y ∷ ys) y less)
      by false e k = absurd (cc k)

  -- where there is no first, none passes
  none_at : (xs : List X) → position p xs ≡ None → (x : X) → In x xs → p x ≡ false
  none_at xs h x m =
      let at = place_in x xs m in
      let past : length xs ≤ position_or_len p xs = ltb-false (position_or_len p xs) (length xs) (false_from_ne_true (nat_lt (position_or_len p xs) (length xs)) (λ t. absurd (cc (sym (ap (λ b. cond b (Some (position_or_len p xs)) None) t) ∙ h)))) in
      let inside = at.1 in
      ap p (sym (at.2 x)) ∙ fails_before_first p xs at.0 x (omega (arith, past, inside))

in_all : {X : Type 0} (P : X → Type 0) (xs : List X) → AllByRecursion P xs → (x : X) → In x xs → P x
in_all P [] h x m = absurd m
in_all P (y ∷ ys) h x (inl e) = subst P (sym e) h.0
in_all P (y ∷ ys) h x (inr m) = in_all P ys h.1 x m

module _ (links : List Link) (order : are_links links ≡ true) where
  abbrev has : ℕ → Link → Bool
  has n l = nat_eq l.number n

  -- ---- one piece

  ends_of : (p : Piece) → lacks_link links p ≡ false → is_bad_piece links p ≡ false → ends_on_a_link links p ≡ true
  ends_of p linked good = by (find (has p.link) links) refl
    where
      by : (o : Option Link) → find (has p.link) links ≡ o → ends_on_a_link links p ≡ true
      by None e = absurd (false≢true (sym linked ∙ ap not (find_none (has p.link) links e)))
      by (Some l) e =
          let m = find_in (has p.link) links l e in
          let long : length_of links p.link ≡ l.length = ap (λ o. option_map_or (λ (l : Link). l.length) o 0) e in
          let most = ltb-false (length_of links p.link) p.to (or_parts (nat_le p.to p.from) (nat_lt (length_of links p.link) p.to) good).1 in
          any_of (λ l. nat_eq l.number p.link && nat_le p.to l.length) l links m.0 (and_from (nat_eq l.number p.link) (nat_le p.to l.length) m.1 (le-leb p.to l.length (omega (arith, most, long))))

  fine_of : (p : Piece) → p.from < p.to → ends_on_a_link links p ≡ true → (lacks_link links p ≡ false) × (is_bad_piece links p ≡ false)
  fine_of p filled ends = by (find (has p.link) links) refl
    where
      by : (o : Option Link) → find (has p.link) links ≡ o → (lacks_link links p ≡ false) × (is_bad_piece links p ≡ false)
      by None e =
          let l = any_found (λ l. nat_eq l.number p.link && nat_le p.to l.length) links ends in
          absurd (both_ways (list_any (has p.link) links) (find_none (has p.link) links e) (any_of (has p.link) l.0 links l.1 (and_parts (nat_eq l.0.number p.link) (nat_le p.to l.0.length) l.2).0))
      by (Some k) e =
          let l = any_found (λ l. nat_eq l.number p.link && nat_le p.to l.length) links ends in
          let both = and_parts (nat_eq l.0.number p.link) (nat_le p.to l.0.length) l.2 in
          let m = find_in (has p.link) links k e in
          let long : length_of links p.link ≡ k.length = ap (λ o. option_map_or (λ (l : Link). l.length) o 0) e in
          let most = leb-true p.to l.0.length both.1 in
          let one : l.0.length ≡ k.length = same l.0 k (two_at link_before l.0 k links order l.1 m.0) (eqb-true l.0.number p.link both.0) (eqb-true k.number p.link m.1) in (
            ap not (any_of (has p.link) l.0 links l.1 both.0),
            or_from (nat_le p.to p.from) (nat_lt (length_of links p.link) p.to) (false_from_ne_true (nat_le p.to p.from) (λ t. let u = leb-true p.to p.from t in absurd (omega (arith, u, filled)))) (le-ltb (length_of links p.link) p.to (omega (arith, most, long, one))),
          )
        where
          same : (l k : Link) → (l ≡ k) ⊎ ((link_before l k ≡ true) ⊎ (link_before k l ≡ true)) → l.number ≡ p.link → k.number ≡ p.link → l.length ≡ k.length
          same l k (inl e) a b = ap (λ (x : Link). x.length) e
          same l k (inr (inl t)) a b = let u = ltb-true l.number k.number t in absurd (omega (arith, u, a, b))
          same l k (inr (inr t)) a b = let u = ltb-true k.number l.number t in absurd (omega (arith, u, a, b))

  -- ---- all pieces

  all_end : (ps : List Piece) → position (lacks_link links) ps ≡ None → position (is_bad_piece links) ps ≡ None → list_all (ends_on_a_link links) ps ≡ true
  all_end ps linked good = all_of (ends_on_a_link links) ps (λ p m. ends_of p (none_at (lacks_link links) ps linked p m) (none_at (is_bad_piece links) ps good p m))

  module _ (ps : List Piece) (filled : AllByRecursion IsFilled ps) where
    abbrev course : List Ground
    course = course_of ps

    ends : is_good_course links course ≡ true → list_all (ends_on_a_link links) ps ≡ true
    ends t = pieces_are links ps filled ∙ (and_parts (is_route_course course) (list_all (is_on_a_link links) course) (and_parts (is_route_course course && list_all (is_on_a_link links) course) (each_two differs course) t).0).1

    pub not_linked : (i : ℕ) → position (lacks_link links) ps ≡ Some i → is_good_course links course ≡ false
    not_linked i h = false_from_ne_true (is_good_course links course) (λ t.
        let x = some_at (lacks_link links) ps i h in
        both_ways (lacks_link links x.0) (fine_of x.0 (in_all IsFilled ps filled x.0 x.1) (all_at (ends_on_a_link links) x.0 ps (ends t) x.1)).0 x.2)

    pub not_inside : (i : ℕ) → position (is_bad_piece links) ps ≡ Some i → is_good_course links course ≡ false
    not_inside i h = false_from_ne_true (is_good_course links course) (λ t.
        let x = some_at (is_bad_piece links) ps i h in
        both_ways (is_bad_piece links x.0) (fine_of x.0 (in_all IsFilled ps filled x.0 x.1) (all_at (ends_on_a_link links) x.0 ps (ends t) x.1)).1 x.2)

    joined : course ≡ flat_map (λ c. c) (course ∷ [])
    joined = sym (append-nil course)

    pub not_once : (i : ℕ) → first_repeated [] ps ≡ Some i → is_good_course links course ≡ false
    not_once i h = false_from_ne_true (is_good_course links course) (λ t.
        let own = (and_parts (is_route_course course && list_all (is_on_a_link links) course) (each_two differs course) t).1 in
        let once : is_some (first_repeated [] ps) ≡ false = (courses_are_apart ps (course ∷ []) joined).1 (λ j. (own j && true) && true) in
        both_ways (is_some (first_repeated [] ps)) once (ap is_some h))

    pub not_short : is_too_long course ≡ true → is_good_course links course ≡ false
    not_short h = false_from_ne_true (is_good_course links course) (λ t.
        let route = (and_parts (is_route_course course) (list_all (is_on_a_link links) course) (and_parts (is_route_course course && list_all (is_on_a_link links) course) (each_two differs course) t).0).0 in
        both_ways (is_too_long course) (not-true (is_too_long course) (and_parts (not (is_nothing course)) (not (is_too_long course)) route).1) h)

    pub good : AreGood links ps → is_nothing course ≡ false → is_good_course links course ≡ true
    good g some =
        let once : ((each_two differs course && true) && true) ≡ true = (courses_are_apart ps (course ∷ []) joined).0 (ap is_some g.once) in
        and_from (is_route_course course && list_all (is_on_a_link links) course) (each_two differs course)
        (and_from (is_route_course course) (list_all (is_on_a_link links) course) (λ j. not (some j) && not (g.limits j)) (sym (pieces_are links ps filled) ∙ all_end ps g.linked g.filled))
        (and_parts (each_two differs course) true (and_parts (each_two differs course && true) true once).0).0
