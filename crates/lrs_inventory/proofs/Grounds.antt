-- The index of ground beside the routes, and as ground comes, goes and passes.
use Rattle.std.proofs.Common.{◌≡◌, ℕ, ◌+◌, ◌<◌, Bool, true, false, cond, List, [], ◌∷◌, ◌++◌, length, take, drop, get_or, Option, Some, None, refl, sym, ap, subst, ◌∙◌, append-nil, ⊎_elim}
use Rattle.std.specs.List.{find, position, list_any, list_all, flat_map}
use Rattle.std.proofs.lemmas.Bool.{and_parts, and_from, both_ways, not-true, or_cases, false≢true, eq-eqb}
use Rattle.std.proofs.lemmas.List.{take_more, take-append-drop}
use Rattle.std.proofs.lemmas.List.Concat.{flat_map-append}
use Rattle.std.proofs.lemmas.List.Folds.{list_any-append, find-append}
use Rattle.std.specs.Prelude.{◌||◌, ◌&&◌, not, nat_le, nat_eq, is_some, map}
use Rattle.std.specs.Option.{option_map, option_or}
use Rattle.lrs_inventory.specs.Prelude.{each_two, Name, Link, Piece, Ground, Millimetre, course_of, expand, meets, runs_over, Stretches, is_run_once, IsGroundOf, is_route_course, differs, Image, RouteRow, route_entry, state_of, RouteCourse, is_on_a_link, IsSound}
use Rattle.lrs_element.specs.Course.{is_at}
use Rattle.lrs_position.specs.Index.Ground.{route_over, is_shared, HasGained, AreWhole, StaysWhole}
use Rattle.lrs_position.specs.Index.MetRoutes.{RunsBetween}
use Rattle.lrs_position.proofs.Index.Sharing.{same_test}
use Rattle.lrs_position.proofs.Index.Once.{once_both, front}
use Rattle.lrs_position.proofs.Index.Pieces.{across, behind}
use Rattle.lrs_measure.specs.Limits.{most_routes}
use Rattle.lrs_measure.proofs.Members.{any_found, any_of, list_any-map}
use Rattle.lrs_machine.specs.Machine.{is_taken}
use Rattle.lrs_machine.specs.Sound.{course_before, is_course, courses_of}
use Rattle.lrs_image.proofs.Tables.{passes}
use Rattle.lrs_inventory.specs.declared.plan.GroundChange.{GroundChange}
use Rattle.lrs_inventory.specs.Changes.{CanChange, route_on}
use Rattle.lrs_inventory.specs.Indexes.{IsReady}
use Rattle.lrs_image_laws.proofs.InOrder.{is_false, none_found}

-- a route of the state has ground of the piece where one of the image has
pub taken_is : (i : Image) (p : Piece) → is_taken (state_of i) (expand p) ≡ list_any (λ e. meets (expand p) e.route.course) i.routes
unfolding state_of
taken_is i p = list_any-map (λ route. meets (expand p) route.1.course) route_entry i.routes

-- ---- a sound image runs over each millimetre once

abbrev pub ground_of : List RouteRow → List Ground
ground_of es = flat_map (λ e. e.route.course) es

abbrev course_entry : RouteRow → RouteCourse
course_entry e = record { route = e.route.name; entries = e.route.course }

abbrev apart : RouteCourse → RouteCourse → Bool
apart c d = not (meets c.entries d.entries)

meets-append : (xs ys zs : List Ground) → meets xs ys ≡ false → meets xs zs ≡ false → meets xs (ys ++ zs) ≡ false
meets-append xs ys zs h k = is_false (meets xs (ys ++ zs)) (λ t.
    let a = any_found (λ g. runs_over (ys ++ zs) (g.link, g.mm)) xs t in
    let m : Millimetre = (a.0.link, a.0.mm) in
    ⊎_elim
    (λ (e : runs_over ys m ≡ true). both_ways _ h (any_of (λ g. runs_over ys (g.link, g.mm)) a.0 xs a.1 e))
    (λ (e : runs_over zs m ≡ true). both_ways _ k (any_of (λ g. runs_over zs (g.link, g.mm)) a.0 xs a.1 e))
    (or_cases (runs_over ys m) (runs_over zs m) (sym (list_any-append (is_at m) ys zs) ∙ a.2)))

meets_none : (xs : List Ground) → meets xs [] ≡ false
meets_none xs = is_false (meets xs []) (λ t. let a = any_found (λ g. runs_over [] (g.link, g.mm)) xs t in absurd (cc a.2))

apart_from_all : (c : RouteCourse) (es : List RouteRow) → list_all (apart c) (map course_entry es) ≡ true → meets c.entries (ground_of es) ≡ false
apart_from_all c [] h = meets_none c.entries
apart_from_all c (e ∷ es) h =
    let u = and_parts (apart c (course_entry e)) (list_all (apart c) (map course_entry es)) h in
    meets-append c.entries e.route.course (ground_of es) (not-true _ u.0) (apart_from_all c es u.1)

once_of : (links : List Link) (es : List RouteRow) → list_all (is_course links) (map course_entry es) ≡ true → each_two apart (map course_entry es) ≡ true → is_run_once (ground_of es) ≡ true
once_of links [] h k = refl
once_of links (e ∷ es) h k =
    let u = and_parts (is_course links (course_entry e)) (list_all (is_course links) (map course_entry es)) h in
    let v = and_parts (list_all (apart (course_entry e)) (map course_entry es)) (each_two apart (map course_entry es)) k in
    let own = and_parts (is_route_course e.route.course && list_all (is_on_a_link links) e.route.course) (each_two differs e.route.course) u.0 in
    once_both e.route.course (ground_of es) own.1 (once_of links es u.1 v.1) (apart_from_all (course_entry e) es v.0)

pub run_once : (i : Image) → IsSound i → is_run_once (ground_of i.routes) ≡ true
run_once i s =
    let cs = courses_of i in
    let outer = and_parts (each_two course_before cs && list_all (is_course i.links) cs && each_two apart cs) (nat_le (length cs) most_routes) (passes i s).courses in
    let inner = and_parts (each_two course_before cs && list_all (is_course i.links) cs) (each_two apart cs) outer.0 in
    let first = and_parts (each_two course_before cs) (list_all (is_course i.links) cs) inner.0 in
    once_of i.links i.routes first.1 inner.1

-- ---- which route runs over a millimetre

-- where no route runs
none_over : (es : List RouteRow) (m : Millimetre) → runs_over (ground_of es) m ≡ false → route_on es m ≡ None
none_over es m h = ap (option_map (λ (e : RouteRow). e.route.name)) (none_found (λ e. runs_over e.route.course m) es (sym (over_routes es m) ∙ h))
  where
    over_routes : (es : List RouteRow) (m : Millimetre) → runs_over (ground_of es) m ≡ list_any (λ e. runs_over e.route.course m) es
    over_routes [] m = refl
    over_routes (e ∷ es) m = list_any-append (is_at m) e.route.course (ground_of es) ∙ ap (λ (b : Bool). runs_over e.route.course m || b) (over_routes es m)

some_over : (es : List RouteRow) (m : Millimetre) → is_some (route_on es m) ≡ list_any (λ e. runs_over e.route.course m) es
some_over [] m = refl
some_over (e ∷ es) m =
    elim (runs_over e.route.course m) as (λ b. is_some (option_map (λ (e : RouteRow). e.route.name) (cond b (Some e) (find (λ e. runs_over e.route.course m) es))) ≡ (b || list_any (λ e. runs_over e.route.course m) es)) [
      | true ↦ refl
      | false ↦ some_over es m
    ]

-- a millimetre is where it is
here : (g : Ground) → is_at (g.link, g.mm) g ≡ true
here g = and_from (nat_eq g.link g.link) (nat_eq g.mm g.mm) (eq-eqb g.link g.link refl) (eq-eqb g.mm g.mm refl)

-- No route runs over ground of which each millimetre is free.
pub free_where : (kept : Stretches) (xs : List Ground) → ((m : Millimetre) → runs_over xs m ≡ true → route_over kept m ≡ None) → is_shared kept xs ≡ false
free_where kept xs h = is_false (is_shared kept xs) (λ t.
    let g = any_found (λ g. is_some (route_over kept (g.link, g.mm))) xs t in
    both_ways (is_some (route_over kept (g.0.link, g.0.mm))) (ap (λ (o : Option Name). is_some o) (h (g.0.link, g.0.mm) (any_of (is_at (g.0.link, g.0.mm)) g.0 xs g.1 (here g.0)))) g.2)

-- ---- one route after another

module _ (es : List RouteRow) (i : ℕ) (e : RouteRow) (lt : i < length es) (is : e ≡ get_or es i e) where
  one_more : take (i + 1) es ≡ take i es ++ e ∷ []
  one_more = take_more es i e lt ∙ ap (λ (x : RouteRow). take i es ++ x ∷ []) (sym is)

  ground_more : ground_of (take (i + 1) es) ≡ ground_of (take i es) ++ e.route.course
  ground_more = ap ground_of one_more ∙ flat_map-append (λ (e : RouteRow). e.route.course) (take i es) (e ∷ []) ∙ ap (λ (xs : List Ground). ground_of (take i es) ++ xs) (append-nil e.route.course)

  next_once : is_run_once (ground_of es) ≡ true → is_run_once (ground_of (take i es) ++ e.route.course) ≡ true
  next_once h = subst (λ (xs : List Ground). is_run_once xs ≡ true) ground_more
      (front (ground_of (take (i + 1) es)) (ground_of (drop (i + 1) es))
      (subst (λ (xs : List Ground). is_run_once xs ≡ true) (ap ground_of (sym (take-append-drop (i + 1) es)) ∙ flat_map-append (λ (e : RouteRow). e.route.course) (take (i + 1) es) (drop (i + 1) es)) h))

  pub own_once : is_run_once (ground_of es) ≡ true → is_run_once e.route.course ≡ true
  own_once h = behind (ground_of (take i es)) e.route.course (next_once h)

  -- where it runs no earlier one does
  none_before : is_run_once (ground_of es) ≡ true → (m : Millimetre) → runs_over e.route.course m ≡ true → route_on (take i es) m ≡ None
  none_before h m run = none_over (take i es) m (is_false (runs_over (ground_of (take i es)) m) (λ t. across m (ground_of (take i es)) e.route.course (next_once h) t run))

  module _ (old : Stretches) (at : IsGroundOf (λ e. e.route.name) (λ e. e.route.course) old (take i es)) (once : is_run_once (ground_of es) ≡ true) where
    pub own_free : is_shared old e.route.course ≡ false
    own_free = free_where old e.route.course (λ m run. at.at m ∙ none_before once m run)

    pub next_ground : (new : Stretches) (ps : List Piece) → course_of ps ≡ e.route.course → HasGained old new e.route.name ps → IsGroundOf (λ e. e.route.name) (λ e. e.route.course) new (take (i + 1) es)
    next_ground new ps same g = record {
      at = λ m.
          g.over m
          ∙ ap (λ (xs : List Ground). cond (runs_over xs m) (Some e.route.name) (route_over old m)) same
          ∙ ap (cond (runs_over e.route.course m) (Some e.route.name)) (at.at m)
          ∙ by (runs_over e.route.course m) (find (λ e. runs_over e.route.course m) (take i es)) (none_before once m)
          ∙ ap (option_map (λ (e : RouteRow). e.route.name)) (sym (ap (find (λ e. runs_over e.route.course m)) one_more ∙ find-append (λ e. runs_over e.route.course m) (take i es) (e ∷ [])));
    }
      where
        by : (b : Bool) (o : Option RouteRow) → (b ≡ true → option_map (λ (e : RouteRow). e.route.name) o ≡ None)
            → cond b (Some e.route.name) (option_map (λ (e : RouteRow). e.route.name) o) ≡ option_map (λ (e : RouteRow). e.route.name) (option_or o (cond b (Some e) None))
        by true None h = refl
        by true (Some d) h = absurd (cc (h refl))
        by false None h = refl
        by false (Some d) h = refl

-- ---- what shares ground with a route

swapped : {X Y : Type 0} (f : X → Y → Bool) (xs : List X) (ys : List Y) → list_any (λ x. list_any (f x) ys) xs ≡ true → list_any (λ y. list_any (λ x. f x y) xs) ys ≡ true
swapped f xs ys t =
    let a = any_found (λ x. list_any (f x) ys) xs t in
    let b = any_found (f a.0) ys a.2 in
    any_of (λ y. list_any (λ x. f x y) xs) b.0 ys b.1 (any_of (λ x. f x b.0) a.0 xs a.1 b.2)

shared_is : (kept : Stretches) (es : List RouteRow) (xs : List Ground) → IsGroundOf (λ e. e.route.name) (λ e. e.route.course) kept es → is_shared kept xs ≡ list_any (λ e. meets xs e.route.course) es
shared_is kept es xs at =
    (λ j. list_any (λ g. (ap (λ (o : Option Name). is_some o) (at.at (g.link, g.mm)) ∙ some_over es (g.link, g.mm)) j) xs)
    ∙ same_test _ _ (swapped (λ g e. runs_over e.route.course (g.link, g.mm)) xs es) (swapped (λ e g. runs_over e.route.course (g.link, g.mm)) es xs)

-- the first piece on ground over which a route runs is the first that is taken
pub first_is_taken : (kept : Stretches) (i seen : Image) (ps : List Piece) → i ≡ seen → IsGroundOf (λ e. e.route.name) (λ e. e.route.course) kept i.routes
    → position (λ p. is_shared kept (expand p)) ps ≡ position (λ p. is_taken (state_of seen) (expand p)) ps
first_is_taken kept i seen ps is at =
    (λ j. position (λ p. (shared_is kept i.routes (expand p) at ∙ sym (taken_is i p)) j) ps)
    ∙ ap (λ (k : Image). position (λ p. is_taken (state_of k) (expand p)) ps) is

-- the index tells the same of which routes are met
module _ (kept : Stretches) (i seen : Image) (is : i ≡ seen) (held : IsGroundOf (λ e. e.route.name) (λ e. e.route.course) kept i.routes) (link from to : ℕ) (route : Name) where
  tell_same : (m : Millimetre) → route_over kept m ≡ route_on seen.routes m
  tell_same m = held.at m ∙ ap (λ (k : Image). route_on k.routes m) is

  pub met_by_index : RunsBetween (route_on seen.routes) link from to route → RunsBetween (route_over kept) link from to route
  met_by_index met = record { mm = met.mm; low = met.low; high = met.high; runs = tell_same (link, met.mm) ∙ met.runs }

  pub met_by_routes : RunsBetween (route_over kept) link from to route → RunsBetween (route_on seen.routes) link from to route
  met_by_routes met = record { mm = met.mm; low = met.low; high = met.high; runs = sym (tell_same (link, met.mm)) ∙ met.runs }

-- ---- ground that comes, goes and passes

-- What is run over by some route and what by none have no millimetre in common.
parted : (on : Millimetre → Option Name) (xs ys : List Ground) → ((m : Millimetre) → runs_over xs m ≡ true → is_some (on m) ≡ true) → ((m : Millimetre) → runs_over ys m ≡ true → on m ≡ None) → meets xs ys ≡ false
parted on xs ys some none = is_false (meets xs ys) (λ t.
    let g = any_found (λ g. runs_over ys (g.link, g.mm)) xs t in
    let m : Millimetre = (g.0.link, g.0.mm) in
    false≢true (sym (ap (λ (o : Option Name). is_some o) (none m g.2)) ∙ some m (any_of (is_at m) g.0 xs g.1 (here g.0))))

module _ (g : GroundChange) (old : Stretches) (can : CanChange g (route_over old)) where
  pub come_free : (cut : Stretches) → ((m : Millimetre) → route_over cut m ≡ route_over old m) → is_shared cut (course_of g.come) ≡ false
  come_free cut same = free_where cut (course_of g.come) (λ m run. same m ∙ can.come m run)

  pub ready : (first cut new : Stretches) → ((m : Millimetre) → route_over first m ≡ route_over old m) → AreWhole first g.gone
      → ((m : Millimetre) → route_over cut m ≡ route_over first m) → StaysWhole first cut → AreWhole cut g.passed
      → HasGained cut new g.route g.come → ((others : List Piece) → meets (course_of others) (course_of g.come) ≡ false → AreWhole cut others → AreWhole new others) → IsReady g old new
  ready first cut new same gone again stays passed come keeps = record {
    before = cut;
    same = λ m. again m ∙ same m;
    come = come;
    gone = keeps g.gone (parted (route_over old) (course_of g.gone) (course_of g.come) can.gone can.come) (stays g.gone gone);
    passed = keeps g.passed (parted (route_over old) (course_of g.passed) (course_of g.come) can.passed can.come) passed;
  }

-- what was inserted is out again
pub out_again : (g : GroundChange) (old now new : Stretches) → IsReady g old now → ((before : Stretches) (route : Name) → HasGained before now route g.come → new ≡ before) → (m : Millimetre) → route_over new m ≡ route_over old m
out_again g old now new r undo m = ap (λ (s : Stretches). route_over s m) (undo r.before g.route r.come) ∙ r.same m
