-- The rows of a sound image stand for what it holds, and no asset has two of them over one millimetre.
use Rattle.std.proofs.Common.{◌≡◌, ℕ, zero, suc, ◌+◌, ◌-◌, ◌<◌, ◌≤◌, Bool, true, false, ◌⊎◌, inl, inr, List, [], ◌∷◌, drop, get_or, length, refl, sym, ap, ◌∙◌, arith}
use Rattle.std.specs.Prelude.{◌&&◌, ◌||◌, not, nat_eq, nat_le, nat_lt, slice_range}
use Rattle.std.specs.List.{list_any, list_all, flat_map}
use Rattle.std.proofs.lemmas.Bool.{both_ways, and_parts, and_from, cases_Bool, eqb-true, eq-eqb, ltb-true}
use Rattle.std.proofs.lemmas.List.{length-drop, length-take, get_or-take, get_or-drop}
use Rattle.std.proofs.lemmas.List.Folds.{list_any-append}
use Rattle.lrs_measure.specs.Limits.{longest_route}
use Rattle.lrs_measure.specs.Lists.{In, each_two}
use Rattle.lrs_measure.specs.Texts.{same_name}
use Rattle.lrs_measure.proofs.Members.{any_found, any_of, all_at, map_found, flat_map_found, In-take, In-drop, list_any-map}
use Rattle.lrs_measure.proofs.EachTwo.{joined, each_two_from}
use Rattle.lrs_element.specs.declared.link.Ground.{Ground}
use Rattle.lrs_element.specs.Course.{meets, runs_over, is_at}
use Rattle.lrs_events.specs.declared.span.Span.{Span}
use Rattle.lrs_events.specs.Places.{Place, differs}
use Rattle.lrs_events.specs.Spans.{are_apart, is_row, holds_by_span}
use Rattle.lrs_events.proofs.Row.Unique.{IsApart, ahead, behind, touches, apart, kept}
use Rattle.lrs_machine.specs.declared.image.RouteRow.{RouteRow}
use Rattle.lrs_machine.specs.declared.image.Image.{Image}
use Rattle.lrs_machine.specs.Image.{state_of, holds_on}
use Rattle.lrs_machine.specs.Sound.{IsSound, route_before}
use Rattle.lrs_machine.proofs.Pairs.{each_two-map}
use Rattle.lrs_image.proofs.Tables.{routes_in_order}
use Rattle.lrs_image_laws.proofs.Holding.{alone}
use Rattle.lrs_image_laws.proofs.Joining.{far_routes}
use Rattle.lrs_image_laws.proofs.Naming.{earlier_name}
use Rattle.lrs_promises.proofs.DeskLaws.OwnRows.{its_rows}
use Rattle.lrs_promises.specs.DeskLaws.InventoryRows.{Row, row_on, rows_of_inventory, Courses, courses_in, ground_under, holds_by_row, StandsFor, are_off, Tells, begin_alike, HoldAlike, RowsStand, RowsBeginApart, AsMany}
use Rattle.lrs_promises.proofs.DeskLaws.Routes.{named, course_is}
use Rattle.lrs_promises.proofs.DeskLaws.Under.{nowhere}
use Rattle.lrs_promises.proofs.DeskLaws.Fewest.{none_is_shorter}

-- ---- each two of lists one after the other

module _ {X : Type 0} (test : X → X → Bool) where
  each_flat : {E : Type 0} (f : E → List X) (before : E → E → Bool) (es : List E) → each_two before es ≡ true → ((e : E) → In e es → each_two test (f e) ≡ true)
      → ((e d : E) → In e es → In d es → before e d ≡ true → (x y : X) → In x (f e) → In y (f d) → test x y ≡ true) → each_two test (flat_map f es) ≡ true
  each_flat f before [] h own cross = refl
  each_flat f before (e ∷ es) h own cross =
      let both = and_parts (list_all (before e) es) (each_two before es) h in
      joined test (f e) (flat_map f es) (own e (inl refl)) (each_flat f before es both.1 (λ d m. own d (inr m)) (λ c d m n. cross c d (inr m) (inr n)))
      (λ x y m n. let d = flat_map_found f y es n in cross e d.0 (inl refl) (inr d.1) (all_at (before e) d.0 es both.0 d.1) x y m d.2)

-- ---- entries of a course

in_all : (c : List Ground) (j : ℕ) → j < length c → In (get_or c j nowhere) c
in_all [] j h = absurd (omega (arith, h))
in_all (x ∷ xs) zero h = inl refl
in_all (x ∷ xs) (suc j) h = inr (in_all xs j (omega (arith, h)))

two_entries : (c : List Ground) (j k : ℕ) → each_two differs c ≡ true → j < k → k < length c → differs (get_or c j nowhere) (get_or c k nowhere) ≡ true
two_entries [] j k once h l = absurd (omega (arith, l))
two_entries (x ∷ xs) j zero once h l = absurd (omega (arith, h))
two_entries (x ∷ xs) zero (suc k) once h l = all_at (differs x) (get_or xs k nowhere) xs (and_parts (list_all (differs x) xs) (each_two differs xs) once).0 (in_all xs k (omega (arith, l)))
two_entries (x ∷ xs) (suc j) (suc k) once h l = two_entries xs j k (and_parts (list_all (differs x) xs) (each_two differs xs) once).1 (omega (arith, h)) (omega (arith, l))

record IsEntry (c : List Ground) (g : Ground) (j : ℕ) : Type 0 where
  pub within : j < length c
  pub is : get_or c j nowhere ≡ g

entry : (c : List Ground) (g : Ground) → In g c → (j : ℕ) × IsEntry c g j
entry [] g m = absurd m
entry (x ∷ xs) g (inl e) = (0, record { within = omega arith; is = sym e })
entry (x ∷ xs) g (inr m) = let k = entry xs g m in let w = k.1.within in (suc k.0, record { within = omega (arith, w); is = k.1.is })

record IsBetween (c : List Ground) (a b : ℕ) (g : Ground) (j : ℕ) : Type 0 where
  pub low : a ≤ j
  pub high : j < b
  pub within : j < length c
  pub is : get_or c j nowhere ≡ g

entry_between : (c : List Ground) (a b : ℕ) (g : Ground) → In g (slice_range c a b) → (j : ℕ) × IsBetween c a b g j
entry_between c a b g m =
    let k = entry (slice_range c a b) g m in
    let w = k.1.within in
    let t = length-take (b - a) (drop a c) in
    let d = length-drop a c in
    let first : k.0 < b - a = omega (arith, w, t) in (
      a + k.0,
      record {
        low = omega arith;
        high = omega (arith, first);
        within = omega (arith, w, t, d);
        is = sym (get_or-drop a c k.0 nowhere) ∙ sym (get_or-take (b - a) (drop a c) k.0 nowhere first) ∙ k.1.is;
      },
    )

-- slices that are not over one chainage do not meet
slices_off : (c : List Ground) (a b d e : ℕ) → each_two differs c ≡ true → (b ≤ d) ⊎ (e ≤ a) → meets (slice_range c a b) (slice_range c d e) ≡ false
slices_off c a b d e once off = either (cases_Bool (meets (slice_range c a b) (slice_range c d e)))
  where
    none : (g h : Ground) → is_at (g.link, g.mm) h ≡ true → In g (slice_range c a b) → In h (slice_range c d e) → (b ≤ d) ⊎ (e ≤ a) → ⊥
    none g h at m n (inl l) =
        let j = entry_between c a b g m in
        let k = entry_between c d e h n in
        let x = j.1.high in let y = k.1.low in
        let apart : differs (get_or c j.0 nowhere) (get_or c k.0 nowhere) ≡ differs g h = λ i. differs (j.1.is i) (k.1.is i) in
        both_ways (differs g h) (ap not at) (sym apart ∙ two_entries c j.0 k.0 once (omega (arith, l, x, y)) k.1.within)
    none g h at m n (inr l) =
        let j = entry_between c a b g m in
        let k = entry_between c d e h n in
        let x = k.1.high in let y = j.1.low in
        let apart : differs (get_or c k.0 nowhere) (get_or c j.0 nowhere) ≡ differs h g = λ i. differs (k.1.is i) (j.1.is i) in
        let parts = and_parts (nat_eq h.link g.link) (nat_eq h.mm g.mm) at in
        let back : is_at (h.link, h.mm) g ≡ true =
        and_from (nat_eq g.link h.link) (nat_eq g.mm h.mm) (eq-eqb g.link h.link (sym (eqb-true h.link g.link parts.0))) (eq-eqb g.mm h.mm (sym (eqb-true h.mm g.mm parts.1))) in
        both_ways (differs h g) (ap not back) (sym apart ∙ two_entries c k.0 j.0 once (omega (arith, l, x, y)) j.1.within)

    either : (meets (slice_range c a b) (slice_range c d e) ≡ true) ⊎ (meets (slice_range c a b) (slice_range c d e) ≡ false) → meets (slice_range c a b) (slice_range c d e) ≡ false
    either (inr h) = h
    either (inl h) =
        let g = any_found (λ (x : Ground). runs_over (slice_range c d e) (x.link, x.mm)) (slice_range c a b) h in
        let k = any_found (is_at (g.0.link, g.0.mm)) (slice_range c d e) g.2 in
        absurd (none g.0 k.0 k.2 g.1 k.1 off)

-- parts of courses that do not meet
parts_off : (c d : List Ground) (a b e f : ℕ) → meets c d ≡ false → meets (slice_range c a b) (slice_range d e f) ≡ false
parts_off c d a b e f far = either (cases_Bool (meets (slice_range c a b) (slice_range d e f)))
  where
    in_part : (x : List Ground) (g : Ground) (l m : ℕ) → In g (slice_range x l m) → In g x
    in_part x g l m n = In-drop g l x (In-take g (m - l) (drop l x) n)

    either : (meets (slice_range c a b) (slice_range d e f) ≡ true) ⊎ (meets (slice_range c a b) (slice_range d e f) ≡ false) → meets (slice_range c a b) (slice_range d e f) ≡ false
    either (inr h) = h
    either (inl h) =
        let g = any_found (λ (x : Ground). runs_over (slice_range d e f) (x.link, x.mm)) (slice_range c a b) h in
        let k = any_found (is_at (g.0.link, g.0.mm)) (slice_range d e f) g.2 in
        absurd (both_ways (meets c d) far
        (any_of (λ (x : Ground). runs_over d (x.link, x.mm)) g.0 c (in_part c g.0 a b g.1) (any_of (is_at (g.0.link, g.0.mm)) k.0 d (in_part d k.0 e f k.1) k.2)))

-- ---- rows of one route

disjoint : (r q : Span) → are_apart r q ≡ true → r.asset ≡ q.asset → (r.to ≤ q.from) ⊎ (q.to ≤ r.from)
disjoint r q h e = by (apart r q h e)
  where
    by : IsApart r q → (r.to ≤ q.from) ⊎ (q.to ≤ r.from)
    by (ahead k) = inl (omega (arith, k))
    by (behind k) = inr (omega (arith, k))
    by (touches (inl k) s) = inl (omega (arith, k))
    by (touches (inr k) s) = inr (omega (arith, k))

module _ (i : Image) (s : IsSound i) where
  abbrev there : Courses
  there = courses_in (state_of i)

  module _ (e : RouteRow) (m : In e i.routes) where
    under : (r : Span) → ground_under there (row_on e.route.name r) ≡ slice_range e.route.course r.from r.to
    under r = ap (λ c. slice_range c r.from r.to) (course_is i s e m)

    off_two : (r q : Span) → are_apart r q ≡ true → are_off there (row_on e.route.name r) (row_on e.route.name q) ≡ true
    off_two r q h = by (cases_Bool (nat_eq r.asset q.asset))
      where
        meeting : Bool
        meeting = meets (ground_under there (row_on e.route.name r)) (ground_under there (row_on e.route.name q))

        none : (b c : Bool) → c ≡ false → not (b && c) ≡ true
        none true c k = ap not k
        none false c k = refl

        by : (nat_eq r.asset q.asset ≡ true) ⊎ (nat_eq r.asset q.asset ≡ false) → not (nat_eq r.asset q.asset && meeting) ≡ true
        by (inr k) = ap (λ b. not (b && meeting)) k
        by (inl k) =
            none (nat_eq r.asset q.asset) meeting
            ((λ j. meets (under r j) (under q j)) ∙ slices_off e.route.course r.from r.to q.from q.to (alone i e s m).once (disjoint r q h (eqb-true r.asset q.asset k)))

    off_own : each_two (are_off there) (named e) ≡ true
    off_own =
        each_two-map (are_off there) (row_on e.route.name) e.spans
        ∙ each_two_from are_apart (λ r q. are_off there (row_on e.route.name r) (row_on e.route.name q)) e.spans (λ r q k l. off_two r q) (kept e.spans (its_rows i s e m)).apart

    begin_two : (r q : Span) → r.from < r.to → q.from < q.to → are_apart r q ≡ true → not (begin_alike (row_on e.route.name r) (row_on e.route.name q)) ≡ true
    begin_two r q f g h = by (cases_Bool (begin_alike (row_on e.route.name r) (row_on e.route.name q)))
      where
        clash : r.from ≡ q.from → (r.to ≤ q.from) ⊎ (q.to ≤ r.from) → ⊥
        clash k (inl l) = omega (arith, k, l, f, g)
        clash k (inr l) = omega (arith, k, l, f, g)

        by : (begin_alike (row_on e.route.name r) (row_on e.route.name q) ≡ true) ⊎ (begin_alike (row_on e.route.name r) (row_on e.route.name q) ≡ false)
            → not (begin_alike (row_on e.route.name r) (row_on e.route.name q)) ≡ true
        by (inr k) = ap not k
        by (inl k) =
            let a = and_parts (same_name e.route.name e.route.name && nat_eq r.asset q.asset) (nat_eq r.from q.from) k in
            let b = and_parts (same_name e.route.name e.route.name) (nat_eq r.asset q.asset) a.0 in
            absurd (clash (eqb-true r.from q.from a.1) (disjoint r q h (eqb-true r.asset q.asset b.1)))

    full : (r : Span) → In r e.spans → r.from < r.to
    full r k = ltb-true r.from r.to (and_parts (nat_lt r.from r.to) (nat_le r.to longest_route) (all_at is_row r e.spans (kept e.spans (its_rows i s e m)).each k)).0

    begin_own : each_two (λ r q. not (begin_alike r q)) (named e) ≡ true
    begin_own =
        each_two-map (λ r q. not (begin_alike r q)) (row_on e.route.name) e.spans
        ∙ each_two_from are_apart (λ r q. not (begin_alike (row_on e.route.name r) (row_on e.route.name q))) e.spans (λ r q k l. begin_two r q (full r k) (full q l)) (kept e.spans (its_rows i s e m)).apart

    stands_own : (a : ℕ) (p : Place) → list_any (λ r. holds_by_row there r a p) (named e) ≡ holds_on e a p
    stands_own a p =
        list_any-map (λ r. holds_by_row there r a p) (row_on e.route.name) e.spans
        ∙ ap (λ c. list_any (λ q. holds_by_span c q a p) e.spans) (course_is i s e m)

  -- ---- rows of two routes

  off_far : (e d : RouteRow) → In e i.routes → In d i.routes → route_before e d ≡ true → (x y : Row) → In x (named e) → In y (named d) → are_off there x y ≡ true
  off_far e d m n before x y k l =
      let r = map_found (row_on e.route.name) x e.spans k in
      let q = map_found (row_on d.route.name) y d.spans l in
      let far = far_routes i e d s m n (earlier_name e.route.name d.route.name before) in
      let off = (λ j. meets (under e m r.0 j) (under d n q.0 j)) ∙ parts_off e.route.course d.route.course r.0.from r.0.to q.0.from q.0.to far in
      (λ j. are_off there (r.2 j) (q.2 j)) ∙ ap (λ b. not (nat_eq r.0.asset q.0.asset && b)) off ∙ none (nat_eq r.0.asset q.0.asset)
    where
      none : (b : Bool) → not (b && false) ≡ true
      none true = refl
      none false = refl

  begin_far : (e d : RouteRow) → In e i.routes → In d i.routes → route_before e d ≡ true → (x y : Row) → In x (named e) → In y (named d) → not (begin_alike x y) ≡ true
  begin_far e d m n before x y k l =
      let r = map_found (row_on e.route.name) x e.spans k in
      let q = map_found (row_on d.route.name) y d.spans l in
      (λ j. not (begin_alike (r.2 j) (q.2 j)))
      ∙ ap (λ b. not ((b && nat_eq r.0.asset q.0.asset) && nat_eq r.0.from q.0.from)) (earlier_name e.route.name d.route.name before)

  stands_all : (es : List RouteRow) → ((e : RouteRow) → In e es → In e i.routes) → (a : ℕ) (p : Place) → list_any (λ r. holds_by_row there r a p) (flat_map named es) ≡ list_any (λ e. holds_on e a p) es
  stands_all [] w a p = refl
  stands_all (e ∷ es) w a p =
      list_any-append (λ r. holds_by_row there r a p) (named e) (flat_map named es)
      ∙ (λ j. stands_own e (w e (inl refl)) a p j || stands_all es (λ d m. w d (inr m)) a p j)

  stands : StandsFor there (rows_of_inventory i) (state_of i).holds
  unfolding state_of
  stands a p = stands_all i.routes (λ e m. m) a p

pub rows_stand : RowsStand
rows_stand i s = record {
  stands = stands i s;
  off = each_flat (are_off (courses_in (state_of i))) named route_before i.routes (routes_in_order i s) (off_own i s) (off_far i s);
}

pub rows_begin_apart : RowsBeginApart
rows_begin_apart i s = each_flat (λ r q. not (begin_alike r q)) named route_before i.routes (routes_in_order i s) (begin_own i s) (begin_far i s)

-- ---- two images that hold alike

other_tells : (i j : Image) → IsSound j → HoldAlike (state_of i) (state_of j) → Tells (rows_of_inventory j) (state_of i)
other_tells i j t alike = record {
  stands = λ a p. (λ k. list_any (λ r. holds_by_row (λ route. alike.courses route k) r a p) (rows_of_inventory j)) ∙ (rows_stand j t).stands a p ∙ sym (alike.holds a p);
  off = (λ k. each_two (are_off (λ route. alike.courses route k)) (rows_of_inventory j)) ∙ (rows_stand j t).off;
}

back : (i j : Image) → HoldAlike (state_of i) (state_of j) → HoldAlike (state_of j) (state_of i)
back i j alike = record { courses = λ route. sym (alike.courses route); holds = λ a p. sym (alike.holds a p) }

pub as_many : AsMany
as_many i j s t alike =
    let one = (none_is_shorter i (rows_of_inventory j) s (other_tells i j t alike)).fewest in
    let two = (none_is_shorter j (rows_of_inventory i) t (other_tells j i s (back i j alike))).fewest in
    omega (arith, one, two)
