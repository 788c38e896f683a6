-- The ground under rows, and what the rows of any list stand for on one route.
use Rattle.std.proofs.Common.{◌≡◌, ℕ, zero, suc, ◌+◌, ◌-◌, ◌<◌, ◌≤◌, min, max, Bool, true, false, cond, ◌⊎◌, inl, inr, List, [], ◌∷◌, map, filter, take, drop, get_or, length, refl, sym, ap, subst, ◌∙◌, arith}
use Rattle.std.specs.Prelude.{◌&&◌, ◌||◌, not, nat_eq, nat_le, slice_range}
use Rattle.std.specs.List.{list_any, list_all}
use Rattle.std.specs.Cmp.Lexicographic.{bytes_decides}
use Rattle.std.proofs.lemmas.Bool.{both_ways, not-true, and_parts, and_from, or_left, or_right, cases_Bool, cases_lt, eq-eqb, le-leb}
use Rattle.std.proofs.lemmas.List.{length-drop, get_or-drop, take_all}
use Rattle.lrs_measure.specs.Lists.{In, each_two}
use Rattle.lrs_measure.specs.Texts.{Name, same_name}
use Rattle.lrs_measure.proofs.Members.{any_of, all_at, all_of, map_found, In-filter}
use Rattle.lrs_element.specs.declared.link.Ground.{Ground}
use Rattle.lrs_element.specs.Course.{meets, runs_over, is_at}
use Rattle.lrs_events.specs.declared.span.Span.{Span}
use Rattle.lrs_events.specs.Places.{Place, places_on, is_among, lies_on}
use Rattle.lrs_events.specs.Spans.{holds_by_span, holds_by_spans}
use Rattle.lrs_events.specs.Row.Members as members
use Rattle.lrs_events.specs.Row.RunLaws.{end_within}
use Rattle.lrs_machine.specs.declared.image.RouteRow.{RouteRow}
use Rattle.lrs_machine.specs.declared.image.Image.{Image}
use Rattle.lrs_machine.specs.Image.{state_of}
use Rattle.lrs_machine.specs.Sound.{IsSound}
use Rattle.lrs_machine.proofs.Pairs.{held}
use Rattle.lrs_image_laws.proofs.Apart.{meet_at}
use Rattle.lrs_image_laws.proofs.Joining.{far_routes}
use Rattle.lrs_promises.specs.DeskLaws.InventoryRows.{Row, Courses, courses_in, ground_under, holds_by_row, are_off}
use Rattle.lrs_promises.proofs.DeskLaws.Routes.{course_is, IsNamed, NoneNamed, which}

-- ---- slices of a course

-- a slice that ends behind the course ends with it
pub clip : (c : List Ground) (a b : ℕ) → slice_range c a (min b (length c)) ≡ slice_range c a b
clip c a b = by (cases_lt (length c) b)
  where
    all : length (drop a c) ≡ length c - a
    all = length-drop a c

    by : (length c < b) ⊎ (b ≤ length c) → slice_range c a (min b (length c)) ≡ slice_range c a b
    by (inr h) = let e : min b (length c) ≡ b = omega (arith, h) in ap (slice_range c a) e
    by (inl h) =
        take_all (min b (length c) - a) (drop a c) (omega (arith, h, all))
        ∙ sym (take_all (b - a) (drop a c) (omega (arith, h, all)))

in_take : (d : Ground) (xs : List Ground) (n j : ℕ) → j < n → j < length xs → In (get_or xs j d) (take n xs)
in_take d [] n j h k = absurd (omega (arith, k))
in_take d (x ∷ xs) zero j h k = absurd (omega (arith, h))
in_take d (x ∷ xs) (suc n) zero h k = inl refl
in_take d (x ∷ xs) (suc n) (suc j) h k = inr (in_take d xs n j (omega (arith, h)) (omega (arith, k)))

abbrev pub nowhere : Ground
nowhere = record { link = 0; mm = 0; forward = true }

-- an entry between the ends of a slice is one of it
pub in_slice : (c : List Ground) (a b j : ℕ) → a ≤ j → j < b → j < length c → In (get_or c j nowhere) (slice_range c a b)
in_slice c a b j low high within =
    let all = length-drop a c in
    let on : a + (j - a) ≡ j = omega (arith, low) in
    subst (λ (g : Ground). In g (slice_range c a b)) (get_or-drop a c (j - a) nowhere ∙ ap (λ k. get_or c k nowhere) on)
    (in_take nowhere (drop a c) (b - a) (j - a) (omega (arith, low, high)) (omega (arith, low, within, all)))

meet_with : (xs ys : List Ground) (g : Ground) → In g xs → In g ys → meets xs ys ≡ true
meet_with xs ys g m n =
    any_of (λ (x : Ground). runs_over ys (x.link, x.mm)) g xs m
    (any_of (is_at (g.link, g.mm)) g ys n (and_from (nat_eq g.link g.link) (nat_eq g.mm g.mm) (eq-eqb g.link g.link refl) (eq-eqb g.mm g.mm refl)))

-- ---- rows of a route among any others

abbrev pub is_named : Name → Row → Bool
is_named route r = same_name r.route route

-- a row that ends with its course, as a row of a route
abbrev pub span_within : ℕ → Row → Span
span_within len r = record { asset = r.asset; class = []; from = r.from; to = min r.to len; side = r.side }

abbrev pub spans_named : Name → ℕ → List Row → List Span
spans_named route len rows = map (span_within len) (filter (is_named route) rows)

pub ends_named : (route : Name) (len : ℕ) (rows : List Row) → end_within len (spans_named route len rows) ≡ true
ends_named route len rows = all_of (λ q. nat_le q.to len) (spans_named route len rows) (λ q m.
    let y = map_found (span_within len) q (filter (is_named route) rows) m in
    let to : q.to ≡ min y.0.to len = ap (λ (x : Span). x.to) y.2 in
    le-leb q.to len (omega (arith, to)))

-- what a row holds lies on its course
pub row_lies : (courses : Courses) (r : Row) (a : ℕ) (p : Place) → holds_by_row courses r a p ≡ true → lies_on (courses r.route) p ≡ true
row_lies courses r a p h =
    let span : Span = record { asset = r.asset; class = []; from = r.from; to = r.to; side = r.side } in
    let k = held (courses r.route) (span ∷ []) a p (or_left (holds_by_row courses r a p) false h) in
    any_of (is_at (p.link, p.mm)) k.ground (courses r.route) k.on_course
    (and_from (nat_eq k.ground.link p.link) (nat_eq k.ground.mm p.mm) (eq-eqb k.ground.link p.link k.on_link) (eq-eqb k.ground.mm p.mm k.at))

pub row_holds : (courses : Courses) (c : List Ground) (r : Row) (a : ℕ) (p : Place) → courses r.route ≡ c → holds_by_row courses r a p ≡ holds_by_span c (span_within (length c) r) a p
row_holds courses c r a p is =
    let step = ap (λ d. slice_range d r.from r.to) is ∙ sym (clip c r.from r.to) in
    λ i. nat_eq r.asset a && is_among (places_on r.side (step i)) p

or_and : (a b c : Bool) → ((a || b) && c) ≡ ((a && c) || (b && c))
or_and true true true = refl
or_and true true false = refl
or_and true false true = refl
or_and true false false = refl
or_and false b c = refl

implied : (h l : Bool) → (h ≡ true → l ≡ true) → (h && l) ≡ h
implied true l w = w refl
implied false l w = refl

never : (h l : Bool) → (h ≡ true → l ≡ false) → (h && l) ≡ false
never true l w = w refl
never false l w = refl

module _ (i : Image) (s : IsSound i) (e : RouteRow) (m : In e i.routes) where
  abbrev there : Courses
  there = courses_in (state_of i)

  abbrev course : List Ground
  course = e.route.course

  its_course : (r : Row) → is_named e.route.name r ≡ true → there r.route ≡ course
  its_course r h = ap there ((bytes_decides r.route e.route.name).0 h) ∙ course_is i s e m

  -- a row of another route holds nothing on the course
  far_row : (r : Row) (a : ℕ) (p : Place) → is_named e.route.name r ≡ false → holds_by_row there r a p ≡ true → lies_on course p ≡ false
  far_row r a p h k = by (which i s r.route)
    where
      on : lies_on (there r.route) p ≡ true
      on = row_lies there r a p k

      by : ((f : RouteRow) × IsNamed i s r.route f) ⊎ NoneNamed i s r.route → lies_on course p ≡ false
      by (inr none) = absurd (both_ways (lies_on (there r.route) p) (ap (λ d. lies_on d p) none.course) on)
      by (inl (f, is)) = either (cases_Bool (lies_on course p))
        where
          far : meets f.route.course course ≡ false
          far = far_routes i f e s is.there m (ap (λ n. same_name n e.route.name) is.name ∙ h)

          there_too : lies_on f.route.course p ≡ true
          there_too = ap (λ d. lies_on d p) (sym (course_is i s f is.there) ∙ ap there is.name) ∙ on

          either : (lies_on course p ≡ true) ⊎ (lies_on course p ≡ false) → lies_on course p ≡ false
          either (inr off) = off
          either (inl k) = absurd (both_ways (meets f.route.course course) far (meet_at f.route.course course (p.link, p.mm) there_too k))

  -- What rows of all routes hold on the course, its own rows hold.
  pub held_there : (rows : List Row) (a : ℕ) (p : Place)
      → (list_any (λ r. holds_by_row there r a p) rows && lies_on course p) ≡ holds_by_spans course (spans_named e.route.name (length course) rows) a p
  held_there [] a p = refl
  held_there (r ∷ rs) a p =
      or_and (holds_by_row there r a p) (list_any (λ q. holds_by_row there q a p) rs) (lies_on course p)
      ∙ by (is_named e.route.name r) refl (held_there rs a p)
    where
      by : (b : Bool) → is_named e.route.name r ≡ b
          → (list_any (λ q. holds_by_row there q a p) rs && lies_on course p) ≡ holds_by_spans course (spans_named e.route.name (length course) rs) a p
          → ((holds_by_row there r a p && lies_on course p) || (list_any (λ q. holds_by_row there q a p) rs && lies_on course p))
          ≡ holds_by_spans course (map (span_within (length course)) (cond b (r ∷ filter (is_named e.route.name) rs) (filter (is_named e.route.name) rs))) a p
      by true h rest =
          let own = implied (holds_by_row there r a p) (lies_on course p) (λ k. ap (λ d. lies_on d p) (sym (its_course r h)) ∙ row_lies there r a p k)
          ∙ row_holds there course r a p (its_course r h) in
          λ k. own k || rest k
      by false h rest =
          let none = never (holds_by_row there r a p) (lies_on course p) (far_row r a p h) in
          λ k. none k || rest k

  off_pair : (r q : Row) → is_named e.route.name r ≡ true → is_named e.route.name q ≡ true → are_off there r q ≡ true
      → members.are_off (span_within (length course) r) (span_within (length course) q) ≡ true
  off_pair r q h k off = by (cases_Bool (nat_eq r.asset q.asset))
    where
      under : meets (ground_under there r) (ground_under there q) ≡ meets (slice_range course r.from r.to) (slice_range course q.from q.to)
      under = λ j. meets (slice_range (its_course r h j) r.from r.to) (slice_range (its_course q k j) q.from q.to)

      to : ℕ
      to = min (min r.to (length course)) (min q.to (length course))

      from : ℕ
      from = max r.from q.from

      apart : meets (ground_under there r) (ground_under there q) ≡ false → (from < to) ⊎ (to ≤ from) → nat_le to from ≡ true
      apart none (inr l) = le-leb to from l
      apart none (inl l) =
          absurd (both_ways (meets (ground_under there r) (ground_under there q)) none (under ∙ meet_with (slice_range course r.from r.to) (slice_range course q.from q.to) (get_or course from nowhere)
          (in_slice course r.from r.to from (omega arith) (omega (arith, l)) (omega (arith, l)))
          (in_slice course q.from q.to from (omega arith) (omega (arith, l)) (omega (arith, l)))))

      by : (nat_eq r.asset q.asset ≡ true) ⊎ (nat_eq r.asset q.asset ≡ false) → (not (nat_eq r.asset q.asset) || nat_le to from) ≡ true
      by (inr other) = or_left (not (nat_eq r.asset q.asset)) (nat_le to from) (ap not other)
      by (inl same) =
          let both = not-true (nat_eq r.asset q.asset && meets (ground_under there r) (ground_under there q)) off in
          or_right (not (nat_eq r.asset q.asset)) (nat_le to from)
          (apart (sym (ap (λ b. b && meets (ground_under there r) (ground_under there q)) same) ∙ both) (cases_lt from to))

  -- its rows are off one another where all are
  pub off_there : (rows : List Row) → each_two (are_off there) rows ≡ true → each_two members.are_off (spans_named e.route.name (length course) rows) ≡ true
  off_there [] h = refl
  off_there (r ∷ rs) h = by (is_named e.route.name r) refl (off_there rs both.1)
    where
      both : (list_all (are_off there r) rs ≡ true) × (each_two (are_off there) rs ≡ true)
      both = and_parts (list_all (are_off there r) rs) (each_two (are_off there) rs) h

      by : (b : Bool) → is_named e.route.name r ≡ b → each_two members.are_off (spans_named e.route.name (length course) rs) ≡ true
          → each_two members.are_off (map (span_within (length course)) (cond b (r ∷ filter (is_named e.route.name) rs) (filter (is_named e.route.name) rs))) ≡ true
      by false k rest = rest
      by true k rest =
          and_from (list_all (members.are_off (span_within (length course) r)) (spans_named e.route.name (length course) rs)) (each_two members.are_off (spans_named e.route.name (length course) rs))
          (all_of (members.are_off (span_within (length course) r)) (spans_named e.route.name (length course) rs) (λ q n.
          let y = map_found (span_within (length course)) q (filter (is_named e.route.name) rs) n in
          let its = In-filter (is_named e.route.name) y.0 rs y.1 in
          ap (members.are_off (span_within (length course) r)) y.2 ∙ off_pair r y.0 k its.1 (all_at (are_off there r) y.0 rs both.0 its.0)))
          rest
