-- Checks of pieces and marks, and what they say of an image's links.
use Rattle.std.proofs.Common.{◌≡◌, ℕ, ◌+◌, ◌-◌, ◌<◌, ◌≤◌, Bool, true, false, cond, List, [], ◌∷◌, ◌++◌, map, length, Option, Some, None, Result, Ok, Err, refl, sym, ap, subst, ◌∙◌, arith, get_or, append_assoc}
use Rattle.std.specs.Prelude.{is_none, nat_eq, nat_lt, nat_le, not, ◌||◌, ◌&&◌, unwrap_or}
use Rattle.std.specs.List as list
use Rattle.std.specs.Option.{option_map_or, option_map}
use Rattle.std.specs.Cmp.{unsigned_tied}
use Rattle.std.specs.FinMap.{find}
use Rattle.std.proofs.lemmas.Bool.{false≢true, both_ways, and_parts, and_from, or_left, or_parts, eqb-true, lt-ltb, ltb-true, ltb-false, ne_eqb}
use Rattle.std.proofs.lemmas.List.{append-nil}
use Rattle.std.proofs.lemmas.List.Folds.{list_any_at}
use Rattle.std.proofs.lemmas.List.Quantifiers.{position-Some}
use Rattle.std.specs.List.{list_any, list_all, position}
use Rattle.std.specs.Ordering.{nat_cmp, eq_by_cmp}
use Rattle.lrs_inventory.specs.Prelude.{each_two, Link, Piece, Ground, Mark, is_route, is_route_course, have_marks, are_referents, expand, course_of, runs_over, meets, is_too_long, Cause, Image, state_of, ◌>>◌, refuse_at, differs, is_on_a_link}
use Rattle.lrs_measure.specs.Lists.{In, is_nothing}
use Rattle.lrs_measure.specs.Limits.{most_marks, greatest_measure}
use Rattle.lrs_measure.proofs.Members.{any_found, any_of, all_of, flat_map_found}
use Rattle.lrs_measure.proofs.Places.{place_in, two_places}
use Rattle.lrs_element.specs.Marks.{is_out_of_order, misses_the_end, first_bad_mark, bad_mark}
use Rattle.lrs_element.specs.Course.{is_at, lacks_link, length_of, is_bad_piece, first_repeated, AreGood}
use Rattle.lrs_element.specs.Pieces.{piece_len, ground_of}
use Rattle.lrs_element.proofs.Expanding.{length-expand, get_or-expand}
use Rattle.lrs_machine.specs.declared.answer.Cause.TheVariants as cause
use Rattle.lrs_machine.specs.Image.{link_entry}
use Rattle.lrs_machine.specs.Machine.{refuse_if}
use Rattle.lrs_inventory.specs.NewCourses.{new_course, new_marks}
use Rattle.lrs_image_laws.proofs.Appended.{each_two-append}
use Rattle.lrs_inventory.proofs.Positions.{none_passes}
use Rattle.lrs_image_laws.proofs.InOrder.{is_false}
use Rattle.lrs_image_laws.proofs.Apart.{nat_eq-comm, at_same}

-- ---- the links of an image and those of its state

abbrev has_number : ℕ → Link → Bool
has_number n l = nat_eq l.number n

tied : (n : ℕ) (l : Link) → eq_by_cmp nat_cmp n l.number ≡ has_number n l
tied n l = unsigned_tied n l.number ∙ nat_eq-comm n l.number

found_length : (n : ℕ) (links : List Link) → find nat_cmp n (map link_entry links) ≡ option_map (λ l. l.length) (list.find (has_number n) links)
found_length n [] = refl
found_length n (l ∷ ls) =
    ap (λ b. cond b (Some l.length) (find nat_cmp n (map link_entry ls))) (tied n l)
    ∙ elim (has_number n l) as (λ b. cond b (Some l.length) (find nat_cmp n (map link_entry ls)) ≡ option_map (λ l. l.length) (cond b (Some l) (list.find (has_number n) ls))) [
      | true ↦ refl
      | false ↦ found_length n ls
    ]

unlinked : (n : ℕ) (links : List Link) → is_none (option_map (λ (l : Link). l.length) (list.find (has_number n) links)) ≡ not (list_any (has_number n) links)
unlinked n [] = refl
unlinked n (l ∷ ls) =
    elim (has_number n l) as (λ b. is_none (option_map (λ (l : Link). l.length) (cond b (Some l) (list.find (has_number n) ls))) ≡ not (b || list_any (has_number n) ls)) [
      | true ↦ refl
      | false ↦ unlinked n ls
    ]

-- a link is known to the state where it is to the image
pub lacks : (links : List Link) (p : Piece) → is_none (find nat_cmp p.link (map link_entry links)) ≡ lacks_link links p
lacks links p = ap is_none (found_length p.link links) ∙ unlinked p.link links

or_none : (o : Option Link) → unwrap_or (option_map (λ (l : Link). l.length) o) 0 ≡ option_map_or (λ (l : Link). l.length) o 0
or_none None = refl
or_none (Some l) = refl

-- ... and of the same length
pub bad : (links : List Link) (p : Piece) → (nat_le p.to p.from || nat_lt (unwrap_or (find nat_cmp p.link (map link_entry links)) 0) p.to) ≡ is_bad_piece links p
bad links p = ap (λ n. nat_le p.to p.from || nat_lt n p.to) (ap (λ o. unwrap_or o 0) (found_length p.link links) ∙ or_none (list.find (has_number p.link) links))

-- ---- tests and the first place where they pass

module _ {X : Type 0} (p : X → Bool) where
  pub none_of : (xs : List X) → list_all (λ x. not (p x)) xs ≡ true → list_any p xs ≡ false
  none_of [] h = refl
  none_of (x ∷ xs) h =
      let both = and_parts (not (p x)) (list_all (λ y. not (p y)) xs) h in
      neither (p x) (list_any p xs) both.0 (none_of xs both.1)
    where
      neither : (a b : Bool) → not a ≡ true → b ≡ false → (a || b) ≡ false
      neither true b h k = absurd (false≢true h)
      neither false b h k = k

  pub no_place : (xs : List X) → position p xs ≡ None → list_any p xs ≡ false
  no_place xs h = none_of xs (none_passes p xs h)

  pub some_place : (xs : List X) (k : ℕ) → position p xs ≡ Some k → list_any p xs ≡ true
  some_place [] k h = absurd (cc h)
  some_place (x ∷ xs) k h =
      let at = position-Some p (x ∷ xs) k x h in
      list_any_at p (x ∷ xs) k x at.0 at.1

  pub fails_at : (x : X) (xs : List X) → list_any p xs ≡ false → In x xs → p x ≡ false
  fails_at x xs h m = is_false (p x) (λ t. both_ways (list_any p xs) h (any_of p x xs m t))

-- ---- the millimetres of pieces

-- a millimetre of a piece
record IsOf (p : Piece) (g : Ground) : Type 0 where
  link : g.link ≡ p.link
  below : g.mm < p.to

is_of : (p : Piece) (g : Ground) → In g (expand p) → IsOf p g
is_of p g m =
    let at = place_in g (expand p) m in
    let inside : at.0 < piece_len p = omega (arith, length-expand p, at.1) in
    let is : g ≡ ground_of p at.0 = sym (at.2 g) ∙ get_or-expand p at.0 g inside in
    let there : IsOf p (ground_of p at.0) = record { link = refl; below = by p.forward p.from p.to at.0 inside } in
    subst (IsOf p) (sym is) there
  where
    by : (f : Bool) (a b i : ℕ) → i < b - a → cond f (a + i) (b - 1 - i) < b
    by true a b i h = omega arith
    by false a b i h = omega arith

-- a piece has each of its millimetres once
piece_once : (p : Piece) → each_two differs (expand p) ≡ true
piece_once p = two_places differs (expand p) (λ i j d less inside.
    let last : j < piece_len p = omega (arith, length-expand p, inside) in
    let first : i < piece_len p = omega (arith, last, less) in
    subst (λ g. differs g (get_or (expand p) j d) ≡ true) (sym (get_or-expand p i d first))
    (subst (λ h. differs (ground_of p i) h ≡ true) (sym (get_or-expand p j d last)) (apart (nat_eq p.link p.link) (other p.forward p.from p.to i j less last))))
  where
    other : (f : Bool) (a b i j : ℕ) → i < j → j < b - a → nat_eq (cond f (a + j) (b - 1 - j)) (cond f (a + i) (b - 1 - i)) ≡ false
    other true a b i j h k = ne_eqb (a + j) (a + i) (λ e. absurd (omega arith))
    other false a b i j h k = ne_eqb (b - 1 - j) (b - 1 - i) (λ e. absurd (omega arith))

    apart : (b : Bool) {c : Bool} → c ≡ false → not (b && c) ≡ true
    apart b {c = c} e = by b c e
      where
        by : (b c : Bool) → c ≡ false → not (b && c) ≡ true
        by true c h = ap not h
        by false c h = refl

first_step : (b : Bool) (o : Option ℕ) → cond b (Some 0) (option_map (λ i. i + 1) o) ≡ None → (b ≡ false) × (o ≡ None)
first_step true o h = absurd (cc h)
first_step false None h = (refl, refl)
first_step false (Some x) h = absurd (cc h)

-- pieces of which none shares a millimetre with one before it have each of their millimetres once
pub once : (before : List Ground) (pieces : List Piece) → each_two differs before ≡ true → first_repeated before pieces ≡ None → each_two differs (before ++ course_of pieces) ≡ true
once before [] h none = subst (λ xs. each_two differs xs ≡ true) (sym (append-nil before)) h
once before (p ∷ ps) h none =
    let step = first_step (meets (expand p) before) (first_repeated (before ++ expand p) ps) none in
    subst (λ xs. each_two differs xs ≡ true) (append_assoc before (expand p) (course_of ps))
    (once (before ++ expand p) ps (each_two-append differs before (expand p) h (piece_once p) (λ x y m n.
    ap not (at_same x y ∙ fails_at (is_at (y.link, y.mm)) x before (fails_at (λ g. runs_over before (g.link, g.mm)) y (expand p) step.0 n) m))) step.1)

-- ---- good pieces run over known links

on_link : (n k : ℕ) (links : List Link) → k < length_of links n → list_any (λ l. nat_eq l.number n && nat_lt k l.length) links ≡ true
on_link n k [] h = absurd (omega (arith, h))
on_link n k (l ∷ ls) h =
    elim (has_number n l) as (λ b. k < option_map_or (λ (l : Link). l.length) (cond b (Some l) (list.find (has_number n) ls)) 0 → ((b && nat_lt k l.length) || list_any (λ l. nat_eq l.number n && nat_lt k l.length) ls) ≡ true) [
      | true ↦ λ short. or_left (nat_lt k l.length) (list_any (λ l. nat_eq l.number n && nat_lt k l.length) ls) (lt-ltb k l.length short)
      | false ↦ λ rest. on_link n k ls rest
    ] h

pub on_links : (links : List Link) (pieces : List Piece) → position (is_bad_piece links) pieces ≡ None → list_all (is_on_a_link links) (course_of pieces) ≡ true
on_links links pieces none = all_of (is_on_a_link links) (course_of pieces) (λ g m.
    let found = flat_map_found expand g pieces m in
    let p = found.0 in
    let fine = or_parts (nat_le p.to p.from) (nat_lt (length_of links p.link) p.to) (fails_at (is_bad_piece links) p pieces (no_place (is_bad_piece links) pieces none) found.1) in
    let within : p.to ≤ length_of links p.link = ltb-false (length_of links p.link) p.to fine.1 in
    let of = is_of p g found.2 in
    on_link g.link g.mm links (subst (λ n. g.mm < length_of links n) (sym of.link) (omega (arith, of.below, within))))

-- ---- free ground

-- Where no piece meets a course, what they run over does not.
pub apart_from : (pieces : List Piece) (other : List Ground) → ((p : Piece) → In p pieces → meets (expand p) other ≡ false) → meets (course_of pieces) other ≡ false
apart_from pieces other h = is_false (meets (course_of pieces) other) (λ t.
    let g = any_found (λ g. runs_over other (g.link, g.mm)) (course_of pieces) t in
    let found = flat_map_found expand g.0 pieces g.1 in
    both_ways (meets (expand found.0) other) (h found.0 found.1) (any_of (λ g. runs_over other (g.link, g.mm)) g.0 (expand found.0) found.2 g.2))

-- ---- marks

not_false : (b : Bool) → not b ≡ false → b ≡ true
not_false true h = refl
not_false false h = sym h

-- a mark that follows another is above it, and the last is at the end
above : (len : ℕ) (b m : Mark) (rest : List Mark) → first_bad_mark len (Some b) (m ∷ rest) ≡ None → (b.chainage < m.chainage) × (misses_the_end len m rest ≡ false) × (first_bad_mark len (Some m) rest ≡ None)
above len b m rest h =
    let step = first_step (is_out_of_order (Some b) m || nat_lt greatest_measure m.measure || misses_the_end len m rest) (first_bad_mark len (Some m) rest) h in
    let outer = or_parts (is_out_of_order (Some b) m || nat_lt greatest_measure m.measure) (misses_the_end len m rest) step.0 in
    let inner = or_parts (is_out_of_order (Some b) m) (nat_lt greatest_measure m.measure) outer.0 in
    let rises = and_parts (nat_lt b.chainage m.chainage) (nat_lt b.measure m.measure) (not_false (nat_lt b.chainage m.chainage && nat_lt b.measure m.measure) inner.0) in
    (ltb-true b.chainage m.chainage rises.0, outer.1, step.1)

-- so the course goes on behind the first
goes_on : (len : ℕ) (b m : Mark) (rest : List Mark) → first_bad_mark len (Some b) (m ∷ rest) ≡ None → b.chainage < len
goes_on len b m [] h =
    let a = above len b m [] h in
    let e = eqb-true m.chainage len (not_false (nat_eq m.chainage len) a.1) in
    omega (arith, e, a.0)
goes_on len b m (n ∷ ns) h =
    let a = above len b m (n ∷ ns) h in
    let further = goes_on len m n ns a.2 in
    omega (arith, a.0, further)

-- marks without a fault are those of a course that is not empty
has_ground : (len : ℕ) (marks : List Mark) → bad_mark len marks ≡ None → 0 < len
has_ground len [] h = absurd (cc h)
has_ground len (m ∷ []) h = absurd (cc h)
has_ground len (m ∷ n ∷ rest) h = by (nat_lt (length (m ∷ n ∷ rest)) 2) (nat_lt most_marks (length (m ∷ n ∷ rest))) h
  where
    by : (a b : Bool) → cond a (Some 0) (cond b (Some most_marks) (first_bad_mark len None (m ∷ n ∷ rest))) ≡ None → 0 < len
    by true b k = absurd (cc k)
    by false true k = absurd (cc k)
    by false false k =
        let step = first_step (is_out_of_order None m || nat_lt greatest_measure m.measure || misses_the_end len m (n ∷ rest)) (first_bad_mark len (Some m) (n ∷ rest)) k in
        let further = goes_on len m n rest step.1 in
        omega (arith, further)

-- Such a course and such marks are a route's.
pub fits_alone : (course : List Ground) (marks : List Mark) → is_too_long course ≡ false → bad_mark (length course) marks ≡ None → is_route course marks [] ≡ true
fits_alone course marks short good =
    and_from (is_route_course course && have_marks course marks) (are_referents (length course) [])
    (and_from (is_route_course course) (have_marks course marks) (and_from (not (is_nothing course)) (not (is_too_long course)) (some course (has_ground (length course) marks good)) (ap not short)) (ap is_none good)) refl
  where
    some : (xs : List Ground) → 0 < length xs → not (is_nothing xs) ≡ true
    some [] h = absurd (omega (arith, h))
    some (x ∷ xs) h = refl

-- ---- the checks of pieces

-- what they give, by what each finds
abbrev pub checked : Bool → Option ℕ → Option ℕ → Bool → List Ground → Result (List Ground) Cause
checked unlinked bad_piece repeated long course = (refuse_if unlinked cause.NoLink >> (refuse_at bad_piece cause.BadPiece >> refuse_at repeated cause.Taken)) >> (refuse_if long cause.TooLong >> Ok course)

module _ (i : Image) (pieces : List Piece) where
  pub new_course_is : new_course (state_of i) pieces ≡ checked (list_any (lacks_link i.links) pieces) (position (is_bad_piece i.links) pieces) (first_repeated [] pieces) (is_too_long (course_of pieces)) (course_of pieces)
  unfolding state_of
  new_course_is = λ j. checked (list_any (λ p. lacks i.links p j) pieces) (position (λ p. bad i.links p j) pieces) (first_repeated [] pieces) (is_too_long (course_of pieces)) (course_of pieces)

  pub no_link : (k : ℕ) → position (lacks_link i.links) pieces ≡ Some k → new_course (state_of i) pieces ≡ Err cause.NoLink
  no_link k found = new_course_is
      ∙ ap (λ a. checked a (position (is_bad_piece i.links) pieces) (first_repeated [] pieces) (is_too_long (course_of pieces)) (course_of pieces)) (some_place (lacks_link i.links) pieces k found)

  module _ (linked : position (lacks_link i.links) pieces ≡ None) where
    known : list_any (lacks_link i.links) pieces ≡ false
    known = no_place (lacks_link i.links) pieces linked

    pub bad_piece : (k : ℕ) → position (is_bad_piece i.links) pieces ≡ Some k → new_course (state_of i) pieces ≡ Err (cause.BadPiece k)
    bad_piece k found = new_course_is ∙ (λ j. checked (known j) (found j) (first_repeated [] pieces) (is_too_long (course_of pieces)) (course_of pieces))

    pub twice : (k : ℕ) → position (is_bad_piece i.links) pieces ≡ None → first_repeated [] pieces ≡ Some k → new_course (state_of i) pieces ≡ Err (cause.Taken k)
    twice k good found = new_course_is ∙ (λ j. checked (known j) (good j) (found j) (is_too_long (course_of pieces)) (course_of pieces))

    pub too_long : position (is_bad_piece i.links) pieces ≡ None → first_repeated [] pieces ≡ None → is_too_long (course_of pieces) ≡ true → new_course (state_of i) pieces ≡ Err cause.TooLong
    too_long good repeated long = new_course_is ∙ (λ j. checked (known j) (good j) (repeated j) (long j) (course_of pieces))

  pub good_pieces : AreGood i.links pieces → new_course (state_of i) pieces ≡ Ok (course_of pieces)
  good_pieces good = new_course_is ∙ (λ j. checked (known good.linked j) (good.filled j) (good.once j) (good.limits j) (course_of pieces))

  -- what is known of pieces of which a course is made
  pub record IsMade (ground : List Ground) : Type 0 where
    pub good : position (is_bad_piece i.links) pieces ≡ None
    pub repeated : first_repeated [] pieces ≡ None
    pub course : course_of pieces ≡ ground

  pub made_of : (course : List Ground) → new_course (state_of i) pieces ≡ Ok course → IsMade course
  made_of course h =
      by (list_any (lacks_link i.links) pieces) (position (is_bad_piece i.links) pieces) (first_repeated [] pieces) (is_too_long (course_of pieces)) refl refl (sym new_course_is ∙ h)
    where
      by : (a : Bool) (b c : Option ℕ) (d : Bool) → position (is_bad_piece i.links) pieces ≡ b → first_repeated [] pieces ≡ c → checked a b c d (course_of pieces) ≡ Ok course → IsMade course
      by true b c d eb ec k = absurd (cc k)
      by false (Some x) c d eb ec k = absurd (cc k)
      by false None (Some x) d eb ec k = absurd (cc k)
      by false None None true eb ec k = absurd (cc k)
      by false None None false eb ec k = record { good = eb; repeated = ec; course = cc }

-- ---- the checks of marks

pub good_marks : (len : ℕ) (marks : List Mark) → bad_mark len marks ≡ None → new_marks len marks ≡ Ok marks
good_marks len marks none = ap (λ o. refuse_at o cause.BadMarks >> Ok marks) none

pub bad_marks : (len : ℕ) (marks : List Mark) (k : ℕ) → bad_mark len marks ≡ Some k → new_marks len marks ≡ Err (cause.BadMarks k)
bad_marks len marks k found = ap (λ o. refuse_at o cause.BadMarks >> Ok marks) found

pub marks_of : (len : ℕ) (marks line : List Mark) → new_marks len marks ≡ Ok line → (bad_mark len marks ≡ None) × (line ≡ marks)
marks_of len marks line h = by (bad_mark len marks) refl h
  where
    by : (o : Option ℕ) → bad_mark len marks ≡ o → (refuse_at o cause.BadMarks >> Ok marks) ≡ Ok line → (bad_mark len marks ≡ None) × (line ≡ marks)
    by None e k = (e, cc)
    by (Some x) e k = absurd (cc k)

pub good_line : (len : ℕ) (marks line : List Mark) → new_marks len marks ≡ Ok line → bad_mark len line ≡ None
good_line len marks line h = let of = marks_of len marks line h in ap (bad_mark len) of.1 ∙ of.0
