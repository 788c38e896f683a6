-- Who holds a place of a route is told by the route's own rows.
use Rattle.std.proofs.Common.{◌≡◌, ℕ, zero, suc, ◌+◌, Bool, true, false, ◌⊎◌, inl, inr, List, [], ◌∷◌, map, length, Option, Some, None, refl, sym, ap, ◌∙◌, arith}
use Rattle.std.specs.Prelude.{◌||◌, ◌&&◌, not, nat_eq, nat_le, slice_get}
use Rattle.std.specs.List.{list_any, list_all, range_with_len}
use Rattle.std.proofs.lemmas.Bool.{both_ways, not-true, and_parts, and_from, cases_Bool, eq-eqb}
use Rattle.lrs_measure.specs.Lists.{In, each_two}
use Rattle.lrs_element.specs.declared.link.Ground.{Ground}
use Rattle.lrs_element.specs.Course.{meets, runs_over, is_at}
use Rattle.lrs_position.specs.Routes.{is_route_course}
use Rattle.lrs_events.specs.declared.side.Side.{Side}
use Rattle.lrs_events.specs.declared.side.LinkSide.{LinkSide}
use Rattle.lrs_events.specs.declared.side.LinkSide.TheVariants.{Left, Right}
use Rattle.lrs_events.specs.declared.span.Span.{Span}
use Rattle.lrs_events.specs.Canonical.{side_of, side_held}
use Rattle.lrs_events.specs.Members.{Picks, has_side}
use Rattle.lrs_events.specs.Places.{beside, differs}
use Rattle.lrs_events.specs.Spans.{holds_by_spans}
use Rattle.lrs_events.specs.Row.CourseMembers.{is_held, is_picked, is_once}
use Rattle.lrs_events.proofs.Row.Picked.{rows_hold, sides_picked}
use Rattle.lrs_machine.specs.declared.image.RouteRow.{RouteRow}
use Rattle.lrs_machine.specs.declared.image.Image.{Image}
use Rattle.lrs_measure.specs.Limits.{most_routes}
use Rattle.lrs_measure.proofs.Members.{any_of, all_at, In-map}
use Rattle.lrs_machine.specs.Image.{state_of, holds_on}
use Rattle.lrs_machine.specs.Sound.{IsSound, RouteCourse, course_before, courses_of, is_course, is_on_a_link}
use Rattle.lrs_machine.proofs.Pairs.{held, each_two-map}
use Rattle.lrs_machine.proofs.SoundImages.{and_three}
use Rattle.lrs_image.proofs.Tables.{passes}
use Rattle.lrs_image_laws.proofs.Apart.{apart_too}
use Rattle.lrs_image_laws.proofs.FromReferents.{run_over, apart_courses}

-- ---- the sides of an entry

on_left : Option Side → Bool
on_left None = false
on_left (Some side) = has_side side Left

on_right : Option Side → Bool
on_right None = false
on_right (Some side) = has_side side Right

left_is : (a b : Bool) → on_left (side_of a b) ≡ a
unfolding on_left
left_is true true = refl
left_is true false = refl
left_is false true = refl
left_is false false = refl

right_is : (a b : Bool) → on_right (side_of a b) ≡ b
unfolding on_right
right_is true true = refl
right_is true false = refl
right_is false true = refl
right_is false false = refl

firsts : {X : Type 0} (x y : X) (xs ys : List X) → x ∷ xs ≡ y ∷ ys → x ≡ y
firsts x y xs ys h = cc

rests : {X : Type 0} (x y : X) (xs ys : List X) → x ∷ xs ≡ y ∷ ys → xs ≡ ys
rests x y xs ys h = cc

some_is : {X : Type 0} (x y : X) → Some x ≡ Some y → y ≡ x
some_is x y h = cc

-- what one list has at an entry the other has too
at_entry : {X : Type 0} (f : Ground → X) (h : ℕ → X) (c : List Ground) (k j : ℕ) (g : Ground) → map f c ≡ map h (range_with_len k (length c)) → slice_get c j ≡ Some g → f g ≡ h (k + j)
at_entry f h [] k j g same is = absurd (cc is)
at_entry f h (x ∷ xs) k zero g same is = ap f (some_is x g is) ∙ firsts (f x) (h k) _ _ same ∙ ap h (omega arith)
at_entry f h (x ∷ xs) k (suc j) g same is = at_entry f h xs (k + 1) j g (rests (f x) (h k) _ _ same) is ∙ ap h (omega arith)

-- at an entry's place, what is picked is what is picked of the entry
pub picked_at : (m : Picks) (c : List Ground) (j : ℕ) (g : Ground) (s : LinkSide) → is_once c ≡ true → slice_get c j ≡ Some g → is_picked m 0 c (beside g s) ≡ m j s
picked_at m c j g s once is = by s
  where
    both : side_of (is_picked m 0 c (beside g Left)) (is_picked m 0 c (beside g Right)) ≡ side_of (m j Left) (m j Right)
    both = at_entry (side_held (is_picked m 0 c)) (λ k. side_of (m k Left) (m k Right)) c 0 j g (sides_picked m 0 c once) is ∙ ap (λ k. side_of (m k Left) (m k Right)) (omega arith)

    by : (s : LinkSide) → is_picked m 0 c (beside g s) ≡ m j s
    by Left = sym (left_is (is_picked m 0 c (beside g Left)) (is_picked m 0 c (beside g Right))) ∙ ap on_left both ∙ left_is (m j Left) (m j Right)
    by Right = sym (right_is (is_picked m 0 c (beside g Left)) (is_picked m 0 c (beside g Right))) ∙ ap on_right both ∙ right_is (m j Left) (m j Right)

-- ---- all routes

-- a test that only one route passes is that of the route
pub only_at : (f : RouteRow → Bool) (r : RouteRow) (routes : List RouteRow) → each_two apart_courses routes ≡ true → In r routes
    → ((y : RouteRow) → meets r.route.course y.route.course ≡ false → f y ≡ false) → list_any f routes ≡ f r
only_at f r [] apart m w = absurd m
only_at f r (y ∷ ys) apart (inl e) w =
    let both = and_parts (list_all (apart_courses y) ys) (each_two apart_courses ys) apart in
    ap (λ b. f y || b) (none ys (λ z k. w z (ap (λ q. meets q.route.course z.route.course) e ∙ not-true (meets y.route.course z.route.course) (all_at (apart_courses y) z ys both.0 k))))
    ∙ or_nothing (f y) ∙ ap f (sym e)
  where
    or_nothing : (b : Bool) → (b || false) ≡ b
    or_nothing true = refl
    or_nothing false = refl

    none : (zs : List RouteRow) → ((z : RouteRow) → In z zs → f z ≡ false) → list_any f zs ≡ false
    none [] k = refl
    none (z ∷ zs) k = λ i. k z (inl refl) i || none zs (λ q n. k q (inr n)) i
only_at f r (y ∷ ys) apart (inr m) w =
    let both = and_parts (list_all (apart_courses y) ys) (each_two apart_courses ys) apart in
    let far = not-true (meets y.route.course r.route.course) (all_at (apart_courses y) r ys both.0 m) in
    λ i. w y (apart_too y.route.course r.route.course far) i || only_at f r ys both.1 m w i

-- a course that does not meet the route's holds nothing there
not_held_far : (r y : RouteRow) (j : ℕ) (g : Ground) (s : LinkSide) (a : ℕ) → slice_get r.route.course j ≡ Some g → meets r.route.course y.route.course ≡ false → holds_on y a (beside g s) ≡ false
not_held_far r y j g s a h far = by (cases_Bool (holds_on y a (beside g s)))
  where
    by : (holds_on y a (beside g s) ≡ true) ⊎ (holds_on y a (beside g s) ≡ false) → holds_on y a (beside g s) ≡ false
    by (inr e) = e
    by (inl e) =
        let k = held y.route.course y.spans a (beside g s) e in
        let at : is_at (g.link, g.mm) k.ground ≡ true = and_from (nat_eq k.ground.link g.link) (nat_eq k.ground.mm g.mm) (eq-eqb k.ground.link g.link k.on_link) (eq-eqb k.ground.mm g.mm k.at) in
        let over = any_of (is_at (g.link, g.mm)) k.ground y.route.course k.on_course at in
        absurd (both_ways (meets y.route.course r.route.course) (apart_too r.route.course y.route.course far)
        (any_of (λ (x : Ground). runs_over r.route.course (x.link, x.mm)) k.ground y.route.course k.on_course
        ((λ i. runs_over r.route.course (k.on_link i, k.at i)) ∙ run_over r.route.course j g h)))

-- A sound image's route has no millimetre twice, and meets no other.
pub record IsAlone (i : Image) (r : RouteRow) : Type 0 where
  pub once : each_two differs r.route.course ≡ true
  pub on_links : list_all (is_on_a_link i.links) r.route.course ≡ true
  pub apart : each_two apart_courses i.routes ≡ true

pub alone : (i : Image) (r : RouteRow) → IsSound i → In r i.routes → IsAlone i r
alone i r sound m =
    let p = passes i sound in
    let course : RouteRow → RouteCourse = λ e. record { route = e.route.name; entries = e.route.course } in
    let outer = and_parts (each_two course_before (courses_of i) && list_all (is_course i.links) (courses_of i) && each_two (λ c d. not (meets c.entries d.entries)) (courses_of i)) (nat_le (length (courses_of i)) most_routes) p.courses in
    let tests = and_three (each_two course_before (courses_of i)) (list_all (is_course i.links) (courses_of i)) (each_two (λ c d. not (meets c.entries d.entries)) (courses_of i)) outer.0 in
    let its = and_three (is_route_course r.route.course) (list_all (is_on_a_link i.links) r.route.course) (each_two differs r.route.course) (all_at (is_course i.links) (course r) (courses_of i) tests.1 (In-map course r i.routes m)) in
    record { once = its.2; on_links = its.1; apart = sym (each_two-map (λ c d. not (meets c.entries d.entries)) course i.routes) ∙ tests.2 }

-- rows say at an entry what they hold beside it
pub rows_held_at : (c : List Ground) (rows : List Span) (j : ℕ) (g : Ground) (s : LinkSide) → is_once c ≡ true → slice_get c j ≡ Some g → (asset : ℕ) → holds_by_spans c rows asset (beside g s) ≡ is_held rows asset j s
rows_held_at c rows j g s once h a = rows_hold c rows a (beside g s) ∙ picked_at (is_held rows a) c j g s once h

-- Of routes that do not meet, the rows of the one that runs there tell who holds a place.
pub held_among : (r : RouteRow) (routes : List RouteRow) → each_two apart_courses routes ≡ true → In r routes → each_two differs r.route.course ≡ true → (j : ℕ) (g : Ground) (s : LinkSide) → slice_get r.route.course j ≡ Some g
    → (asset : ℕ) → list_any (λ e. holds_on e asset (beside g s)) routes ≡ is_held r.spans asset j s
held_among r routes apart m once j g s h a =
    only_at (λ e. holds_on e a (beside g s)) r routes apart m (λ y far. not_held_far r y j g s a h far)
    ∙ rows_held_at r.route.course r.spans j g s once h a

pub held_at : (i : Image) (r : RouteRow) → IsSound i → In r i.routes → (j : ℕ) (g : Ground) (s : LinkSide) → slice_get r.route.course j ≡ Some g
    → (asset : ℕ) → (state_of i).holds asset (beside g s) ≡ is_held r.spans asset j s
unfolding state_of
held_at i r sound m j g s h a = let it = alone i r sound m in held_among r i.routes it.apart m it.once j g s h a
