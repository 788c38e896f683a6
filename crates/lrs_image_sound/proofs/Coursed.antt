-- One search for repeats over the pieces of all routes decides that courses have each millimetre once and do not meet.
use Rattle.std.proofs.Common.{◌≡◌, ℕ, ◌+◌, ◌-◌, ◌<◌, Bool, true, false, cond, List, [], ◌∷◌, ◌++◌, get_or, Option, Some, None, refl, sym, ap, subst, ◌∙◌, arith, append_assoc}
use Rattle.std.specs.Prelude.{nat_eq, not, ◌&&◌, is_some}
use Rattle.std.specs.List.{list_any, list_all, flat_map}
use Rattle.std.specs.Option.{option_map}
use Rattle.std.proofs.lemmas.Bool.{false≢true, both_ways, not-true, and_parts, and_from, false_from_ne_true, eq-eqb, eqb-true, ne_eqb}
use Rattle.std.proofs.lemmas.List.{append-nil}
use Rattle.lrs_measure.specs.Lists.{In, each_two}
use Rattle.lrs_measure.proofs.Members.{any_found, any_of, all_at, In-flat_map, flat_map_found, all_of}
use Rattle.lrs_measure.proofs.Places.{two_places}
use Rattle.lrs_measure.proofs.EachTwo.{joined, two_front, two_rear, across_of}
use Rattle.lrs_element.specs.declared.link.Piece.{Piece}
use Rattle.lrs_element.specs.declared.link.Ground.{Ground}
use Rattle.lrs_element.specs.Course.{expand, course_of, is_at, runs_over, meets, first_repeated}
use Rattle.lrs_element.specs.Pieces.{piece_len, ground_of}
use Rattle.lrs_element.proofs.Expanding.{length-expand, get_or-expand}
use Rattle.lrs_events.specs.Places.{differs}
use Rattle.lrs_image_sound.specs.CourseRepeats.{CoursesAreApart}

-- ---- millimetres

nat_eq-comm : (m n : ℕ) → nat_eq m n ≡ nat_eq n m
nat_eq-comm m n = Rattle.std.specs.Cmp.both_ways (nat_eq m n) (nat_eq n m) (λ t. eq-eqb n m (sym (eqb-true m n t))) (λ t. eq-eqb m n (sym (eqb-true n m t)))

at_same : (g h : Ground) → is_at (g.link, g.mm) h ≡ is_at (h.link, h.mm) g
at_same g h = λ j. nat_eq-comm h.link g.link j && nat_eq-comm h.mm g.mm j

-- courses do not meet where each two of their millimetres differ
apart_from_differ : (xs ys : List Ground) → ((x y : Ground) → In x xs → In y ys → differs x y ≡ true) → meets xs ys ≡ false
apart_from_differ xs ys h = false_from_ne_true (meets xs ys) (λ t.
    let x = any_found (λ g. runs_over ys (g.link, g.mm)) xs t in
    let y = any_found (is_at (x.0.link, x.0.mm)) ys x.2 in
    both_ways (is_at (x.0.link, x.0.mm) y.0) (not-true (is_at (x.0.link, x.0.mm) y.0) (h x.0 y.0 x.1 y.1)) y.2)

differ_from_apart : (xs ys : List Ground) → meets xs ys ≡ false → (x y : Ground) → In x xs → In y ys → differs x y ≡ true
differ_from_apart xs ys h x y m n = ap not (false_from_ne_true (is_at (x.link, x.mm) y) (λ t.
    both_ways (meets xs ys) h (any_of (λ g. runs_over ys (g.link, g.mm)) x xs m (any_of (is_at (x.link, x.mm)) y ys n t))))

differs-comm : (x y : Ground) → differs x y ≡ true → differs y x ≡ true
differs-comm x y h = ap not (sym (at_same x y)) ∙ h

-- a piece has each of its millimetres once
piece_once : (p : Piece) → each_two differs (expand p) ≡ true
piece_once p = two_places differs (expand p) (λ i j d less inside.
    let last : j < piece_len p = omega (arith, length-expand p, inside) in
    let first : i < piece_len p = omega (arith, last, less) in
    subst (λ g. differs g (get_or (expand p) j d) ≡ true) (sym (get_or-expand p i d first))
    (subst (λ h. differs (ground_of p i) h ≡ true) (sym (get_or-expand p j d last)) (apart (nat_eq p.link p.link) (other p.forward p.from p.to i j less last))))
  where
    other : (f : Bool) (a b i j : ℕ) → i < j → j < b - a → nat_eq (cond f (a + j) (b - 1 - j)) (cond f (a + i) (b - 1 - i)) ≡ false
    other true a b i j h k = ne_eqb (a + j) (a + i) (λ e. absurd (omega arith))
    other false a b i j h k = ne_eqb (b - 1 - j) (b - 1 - i) (λ e. absurd (omega arith))

    apart : (b : Bool) {c : Bool} → c ≡ false → not (b && c) ≡ true
    apart b {c = c} e = by b c e
      where
        by : (b c : Bool) → c ≡ false → not (b && c) ≡ true
        by true c h = ap not h
        by false c h = refl

-- ---- the search for repeats

mapped : (o : Option ℕ) → is_some (option_map (λ i. i + 1) o) ≡ is_some o
mapped None = refl
mapped (Some i) = refl

step : (b : Bool) (o : Option ℕ) → is_some (cond b (Some 0) (option_map (λ i. i + 1) o)) ≡ false → (b ≡ false) × (is_some o ≡ false)
step true o h = absurd (false≢true (sym h))
step false o h = (refl, sym (mapped o) ∙ h)

step_back : (b : Bool) (o : Option ℕ) → b ≡ false → is_some o ≡ false → is_some (cond b (Some 0) (option_map (λ i. i + 1) o)) ≡ false
step_back true o h k = absurd (false≢true (sym h))
step_back false o h k = mapped o ∙ k

once : (before : List Ground) (pieces : List Piece) → each_two differs before ≡ true → is_some (first_repeated before pieces) ≡ false → each_two differs (before ++ course_of pieces) ≡ true
once before [] h none = subst (λ xs. each_two differs xs ≡ true) (sym (append-nil before)) h
once before (p ∷ ps) h none =
    let s = step (meets (expand p) before) (first_repeated (before ++ expand p) ps) none in
    subst (λ xs. each_two differs xs ≡ true) (append_assoc before (expand p) (course_of ps))
    (once (before ++ expand p) ps (joined differs before (expand p) h (piece_once p) (λ x y m n. differs-comm y x (differ_from_apart (expand p) before s.0 y x n m))) s.1)

no_repeat : (before : List Ground) (pieces : List Piece) → each_two differs (before ++ course_of pieces) ≡ true → is_some (first_repeated before pieces) ≡ false
no_repeat before [] h = refl
no_repeat before (p ∷ ps) h =
    let again : each_two differs ((before ++ expand p) ++ course_of ps) ≡ true = subst (λ xs. each_two differs xs ≡ true) (sym (append_assoc before (expand p) (course_of ps))) h in
    let here = two_front differs (before ++ expand p) (course_of ps) again in
    step_back (meets (expand p) before) (first_repeated (before ++ expand p) ps)
    (apart_from_differ (expand p) before (λ x y m n. differs-comm y x (across_of differs before (expand p) here y x n m))) (no_repeat (before ++ expand p) ps again)

-- ---- all routes

abbrev own : List Ground → Bool
own course = each_two differs course

abbrev apart : List Ground → List Ground → Bool
apart c d = not (meets c d)

abbrev joined_courses : List (List Ground) → List Ground
joined_courses courses = flat_map (λ course. course) courses

each_once : (courses : List (List Ground)) → each_two differs (joined_courses courses) ≡ true → (list_all own courses ≡ true) × (each_two apart courses ≡ true)
each_once [] h = (refl, refl)
each_once (c ∷ rest) h =
    let more = each_once rest (two_rear differs c (joined_courses rest) h) in
    let across = across_of differs c (joined_courses rest) h in (
      and_from (own c) (list_all own rest) (two_front differs c (joined_courses rest) h) more.0,
      and_from (list_all (apart c) rest) (each_two apart rest)
          (all_of (apart c) rest (λ d m. ap not (apart_from_differ c d (λ x y i j. across x y i (In-flat_map (λ course. course) d y rest m j))))) more.1,
    )

all_once : (courses : List (List Ground)) → list_all own courses ≡ true → each_two apart courses ≡ true → each_two differs (joined_courses courses) ≡ true
all_once [] h k = refl
all_once (c ∷ rest) h k =
    let a = and_parts (own c) (list_all own rest) h in
    let b = and_parts (list_all (apart c) rest) (each_two apart rest) k in
    joined differs c (joined_courses rest) a.0 (all_once rest a.1 b.1) (λ x y m n.
    let q = flat_map_found (λ course. course) y rest n in
    differ_from_apart c q.0 (not-true (meets c q.0) (all_at (apart c) q.0 rest b.0 q.1)) x y m q.2)

pub courses_are_apart : CoursesAreApart
courses_are_apart pieces courses run = (there, back)
  where
    there : is_some (first_repeated [] pieces) ≡ false → (list_all own courses && each_two apart courses) ≡ true
    there h =
        let e = each_once courses (ap (each_two differs) (sym run) ∙ once [] pieces refl h) in
        and_from (list_all own courses) (each_two apart courses) e.0 e.1

    back : (list_all own courses && each_two apart courses) ≡ true → is_some (first_repeated [] pieces) ≡ false
    back h =
        let both = and_parts (list_all own courses) (each_two apart courses) h in
        no_repeat [] pieces (ap (each_two differs) run ∙ all_once courses both.0 both.1)
