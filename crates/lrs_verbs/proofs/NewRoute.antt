-- A new route.
use Rattle.std.proofs.Common.{◌≡◌, ℕ, ◌+◌, ◌≤◌, Bool, true, false, cond, List, [], length, Option, Some, Result, Ok, Err, refl, sym, ap, ◌∙◌, subst, arith}
use Rattle.std.specs.List as list
use Rattle.std.specs.FinMap.{find}
use Rattle.std.proofs.lemmas.Bool.{false≢true, both_ways, and_parts, and_from, le-leb}
use Rattle.std.proofs.lemmas.List.{append-nil, length-map}
use Rattle.std.proofs.lemmas.List.Folds.{list_all-map, flat_map-map}
use Rattle.std.specs.Prelude.{nat_le, ◌||◌, ◌&&◌, not}
use Rattle.std.specs.List.{list_any, list_all, flat_map, filter_map, AllByRecursion}
use Rattle.std.specs.Option.{option_map}
use Rattle.std.specs.Ordering.{eq_by_cmp}
use Rattle.std.specs.Cmp.Lexicographic.{nat_list_cmp_total}
use Rattle.lrs_inventory.specs.Prelude.{each_two, Name, name_cmp, same_name, insert_by, Piece, Ground, Mark, Millimetre, expand, course_of, runs_over, meets, is_too_long, IsFilled, is_route_course, have_marks, are_referents, Referent, Place, differs, holds_by_spans, Cause, Image, RouteRow, contains_key, state_of, route_entry, referent_entry, referents_on, holds_on, State, attempt, ◌>>◌, ◌>>=◌, set_route, RouteCourse, is_on_a_link, are_courses, are_spans_of, route_before, IsSound, no_difference, with_difference, IsOrderly, is_run_once}
use Rattle.lrs_element.specs.Course.{is_at}
use Rattle.lrs_machine.specs.declared.answer.Cause.TheVariants as cause
use Rattle.lrs_machine.specs.declared.command.Command.TheVariants as verb
use Rattle.lrs_measure.specs.Limits.{most_routes}
use Rattle.lrs_measure.specs.Lists.{In}
use Rattle.lrs_measure.proofs.Members.{any_of, any_found, all_of, list_any-map}
use Rattle.lrs_measure.proofs.Insertions.{length-insert_by, all-insert_by}
use Rattle.lrs_machine.specs.Machine.{refuse_if, check_pieces, check_free, check_marks, is_taken}
use Rattle.lrs_machine.specs.Sound.{course_before, is_course, courses_of, RouteMarks, RouteReferents, are_all_referents, referents_of, RouteSpans}
use Rattle.lrs_machine.proofs.SoundImages.{and_three}
use Rattle.lrs_image_laws.proofs.Ordering.{sound_is_orderly}
use Rattle.lrs_inventory.specs.Changes.{route_on, ground_after}
use Rattle.lrs_inventory.specs.Plans.{TellsGround, IsPlanOf}
use Rattle.lrs_inventory.specs.NewCourses.{new_course, new_marks}
use Rattle.lrs_inventory.specs.NewRoutes.{IsEntryOf, route_plan}
use Rattle.lrs_inventory.proofs.NamedEntries.{names_exact}
use Rattle.lrs_inventory.proofs.Filed.{put-insert_by}
use Rattle.lrs_image_laws.proofs.InOrder.{none_found, is_false, and_weaker, each_two-insert_by, before-chain, before-comparable, any-insert_by_other, find-insert_by, each_two-insert_among, made-insert_by_none, all_mapped-insert_by, map-insert_by}
use Rattle.lrs_image_laws.proofs.Apart.{at_is, apart_too}
use Rattle.lrs_inventory.proofs.NewCourse.{no_place, fails_at, once, on_links, apart_from, IsMade, made_of, marks_of}
use Rattle.lrs_inventory.proofs.KnownRoutes.{has_name, ties, knows, nothing_taken}
use Rattle.lrs_verbs.proofs.Unmoved.{can_differ}
use Rattle.lrs_inventory.proofs.Grounds.{taken_is}

-- the image with the route
abbrev pub with_route : RouteRow → Image → Image
with_route e i = record i { routes = insert_by route_before e i.routes }

pub with_difference-route : (e : RouteRow) (i : Image) → with_difference (record no_difference { made = Some e }) i ≡ with_route e i
with_difference-route e i = λ j. record (with_route e i) { entered = append-nil i.entered j; gone = append-nil i.gone j }

-- ---- what the verb does

-- what is left to do where the course is made
abbrev then_free : Name → List Piece → List Mark → State → List Ground → Result State Cause
then_free name pieces marks s course = check_free s pieces >> (check_marks (length course) marks >> Ok (set_route name course marks s))

in_steps : {A B : Type 0} (r q : Result (Unit {0}) Cause) (x : A) (f : A → Result B Cause) → (r >> (q >> f x)) ≡ ((r >> (q >> Ok x)) >>= f)
in_steps (Err c) q x f = refl
in_steps (Ok u) (Err c) x f = refl
in_steps (Ok u) (Ok v) x f = refl

module _ (name : Name) (pieces : List Piece) (marks : List Mark) (i : Image) (n : ℕ) where
  attempt-route : attempt n (verb.Route name pieces marks) (state_of i)
      ≡ (refuse_if (contains_key (state_of i).routes name) cause.RouteKnown >> (new_course (state_of i) pieces >>= then_free name pieces marks (state_of i)))
  unfolding attempt
  attempt-route =
      let s = state_of i in
      ap (λ r. refuse_if (contains_key s.routes name) cause.RouteKnown >> r)
      (in_steps (check_pieces s pieces) (refuse_if (is_too_long (course_of pieces)) cause.TooLong) (course_of pieces) (then_free name pieces marks s))

  pub refuses_known : contains_key (state_of i).routes name ≡ true → attempt n (verb.Route name pieces marks) (state_of i) ≡ Err cause.RouteKnown
  refuses_known known = attempt-route ∙ ap (λ b. refuse_if b cause.RouteKnown >> (new_course (state_of i) pieces >>= then_free name pieces marks (state_of i))) known

  -- the name is new
  module _ (fresh : contains_key (state_of i).routes name ≡ false) where
    on_course : (r : Result (List Ground) Cause) → new_course (state_of i) pieces ≡ r → attempt n (verb.Route name pieces marks) (state_of i) ≡ (r >>= then_free name pieces marks (state_of i))
    on_course r is = attempt-route ∙ (λ j. refuse_if (fresh j) cause.RouteKnown >> (is j >>= then_free name pieces marks (state_of i)))

    pub refuses_pieces : (c : Cause) → new_course (state_of i) pieces ≡ Err c → attempt n (verb.Route name pieces marks) (state_of i) ≡ Err c
    refuses_pieces c is = on_course (Err c) is

    module _ (course : List Ground) (is : new_course (state_of i) pieces ≡ Ok course) where
      pub refuses_ground : (c : Cause) → check_free (state_of i) pieces ≡ Err c → attempt n (verb.Route name pieces marks) (state_of i) ≡ Err c
      refuses_ground c taken = on_course (Ok course) is ∙ ap (λ r. r >> (check_marks (length course) marks >> Ok (set_route name course marks (state_of i)))) taken

      module _ (free : check_free (state_of i) pieces ≡ Ok tt) where
        after_marks : (r : Result (List Mark) Cause) → new_marks (length course) marks ≡ r
            → attempt n (verb.Route name pieces marks) (state_of i) ≡ (r >>= (λ line. Ok (set_route name course marks (state_of i))))
        after_marks r marked =
            on_course (Ok course) is ∙ ap (λ r. r >> (check_marks (length course) marks >> Ok (set_route name course marks (state_of i)))) free
            ∙ through (check_marks (length course) marks) marks (set_route name course marks (state_of i)) ∙ ap (λ r. r >>= (λ line. Ok (set_route name course marks (state_of i)))) marked
          where
            through : (r : Result (Unit {0}) Cause) (line : List Mark) (t : State) → (r >> Ok t) ≡ ((r >> Ok line) >>= (λ l. Ok t))
            through (Ok u) line t = refl
            through (Err c) line t = refl

        pub refuses_marks : (c : Cause) → new_marks (length course) marks ≡ Err c → attempt n (verb.Route name pieces marks) (state_of i) ≡ Err c
        refuses_marks c marked = after_marks (Err c) marked

        pub writes : (line : List Mark) → new_marks (length course) marks ≡ Ok line → attempt n (verb.Route name pieces marks) (state_of i) ≡ Ok (set_route name course marks (state_of i))
        writes line marked = after_marks (Ok line) marked

-- ---- the state has the route too

module _ (e : RouteRow) (i : Image) (fresh : list_any (has_name e.route.name) i.routes ≡ false) (no_refs : e.route.refs ≡ []) (no_spans : e.spans ≡ []) where
  nothing_refers : referents_on e ≡ []
  nothing_refers = ap (filter_map (referent_entry e.route.course)) no_refs

  nothing_held : (a : ℕ) (p : Place) → holds_on e a p ≡ false
  nothing_held a p = ap (λ spans. holds_by_spans e.route.course spans a p) no_spans

  state-with_own : set_route e.route.name e.route.course e.route.marks (state_of i) ≡ state_of (with_route e i)
  unfolding state_of
  state-with_own = λ j. record (state_of i) {
    routes = record { rows = put-insert_by nat_list_cmp_total names_exact route_entry route_before (λ a b. refl) e i.routes (ties e.route.name i.routes ∙ fresh) j };
    referents = λ name. find name_cmp name (sym (made-insert_by_none referents_on route_before e i.routes nothing_refers) j);
    holds = λ a p. sym (any-insert_by_other (λ f. holds_on f a p) route_before e i.routes (nothing_held a p)) j;
  }

-- ---- the image stays in order

abbrev course_entry : RouteRow → RouteCourse
course_entry e = record { route = e.route.name; entries = e.route.course }

abbrev marks_entry : RouteRow → RouteMarks
marks_entry e = record { course = e.route.course; marks = e.route.marks }

abbrev refs_entry : RouteRow → RouteReferents
refs_entry e = record { length = length e.route.course; refs = e.route.refs }

abbrev spans_entry : RouteRow → RouteSpans
spans_entry e = record { course = e.route.course; rows = e.spans }

abbrev are_free : RouteCourse → RouteCourse → Bool
are_free c d = not (meets c.entries d.entries)

module _ (e : RouteRow) (pieces : List Piece) (i : Image) (fresh : list_any (has_name e.route.name) i.routes ≡ false) (made : IsMade i pieces e.route.course) (free : check_free (state_of i) pieces ≡ Ok tt)
    (no_refs : e.route.refs ≡ []) (no_spans : e.spans ≡ []) (o : IsOrderly i) where
  abbrev new : Image
  new = with_route e i

  fits : (is_route_course e.route.course ≡ true) × (have_marks e.route.course e.route.marks ≡ true) × (are_referents (length e.route.course) e.route.refs ≡ true)
  fits = and_three (is_route_course e.route.course) (have_marks e.route.course e.route.marks) (are_referents (length e.route.course) e.route.refs) e.route.fits

  -- no route meets the new one
  apart : (f : RouteRow) → In f i.routes → meets e.route.course f.route.course ≡ false
  apart f m = ap (λ c. meets c f.route.course) (sym made.course) ∙ apart_from pieces f.route.course (λ p n.
      fails_at (λ g. meets (expand p) g.route.course) f i.routes (sym (taken_is i p) ∙ fails_at (λ q. is_taken (state_of i) (expand q)) p pieces (no_place (λ q. is_taken (state_of i) (expand q)) pieces (nothing_taken i pieces free)) n) m)

  ahead : list_all (are_free (course_entry e)) (courses_of i) ≡ true
  ahead = list_all-map (are_free (course_entry e)) course_entry i.routes ∙ all_of (λ f. not (meets e.route.course f.route.course)) i.routes (λ f m. ap not (apart f m))

  behind : list_all (λ d. are_free d (course_entry e)) (courses_of i) ≡ true
  behind = list_all-map (λ d. are_free d (course_entry e)) course_entry i.routes
      ∙ all_of (λ f. not (meets f.route.course e.route.course)) i.routes (λ f m. ap not (apart_too e.route.course f.route.course (apart f m)))

  other_names : list_any (λ c. eq_by_cmp name_cmp e.route.name c.route) (courses_of i) ≡ false
  other_names = list_any-map (λ c. eq_by_cmp name_cmp e.route.name c.route) course_entry i.routes ∙ ties e.route.name i.routes ∙ fresh

  runs_once : each_two differs e.route.course ≡ true
  runs_once = ap (each_two differs) (sym made.course) ∙ once [] pieces refl made.repeated

  is_new_course : is_course i.links (course_entry e) ≡ true
  is_new_course =
      and_from (is_route_course e.route.course && list_all (is_on_a_link i.links) e.route.course) (each_two differs e.route.course)
      (and_from (is_route_course e.route.course) (list_all (is_on_a_link i.links) e.route.course) fits.0 (ap (list_all (is_on_a_link i.links)) (sym made.course) ∙ on_links i.links pieces made.good))
      runs_once

  still_courses : length i.routes + 1 ≤ most_routes → are_courses i.links (courses_of i) ≡ true → are_courses i.links (courses_of new) ≡ true
  still_courses room h =
      let cs = courses_of i in
      let c = course_entry e in
      let ds = insert_by course_before c cs in
      let few = and_parts (each_two course_before cs && list_all (is_course i.links) cs && each_two are_free cs) (nat_le (length cs) most_routes) h in
      let free = and_parts (each_two course_before cs && list_all (is_course i.links) cs) (each_two are_free cs) few.0 in
      let order = and_parts (each_two course_before cs) (list_all (is_course i.links) cs) free.0 in
      ap (are_courses i.links) (map-insert_by course_entry course_before e i.routes)
      ∙ and_from (each_two course_before ds && list_all (is_course i.links) ds && each_two are_free ds) (nat_le (length ds) most_routes)
      (and_from (each_two course_before ds && list_all (is_course i.links) ds) (each_two are_free ds)
      (and_from (each_two course_before ds) (list_all (is_course i.links) ds)
      (each_two-insert_by course_before (before-chain nat_list_cmp_total (λ (k : RouteCourse). k.route)) c cs (before-comparable nat_list_cmp_total (λ (k : RouteCourse). k.route) c cs other_names) order.0)
      (all-insert_by (is_course i.links) course_before c cs is_new_course order.1))
      (each_two-insert_among are_free course_before c cs ahead behind free.1))
      (le-leb (length ds) most_routes (omega (arith, length-insert_by course_before c cs, length-map i.routes course_entry, room)))

  still_referents : are_all_referents (referents_of i) ≡ true → are_all_referents (referents_of new) ≡ true
  still_referents h =
      let each = λ (r : RouteReferents). are_referents r.length r.refs in
      let once : Referent → Referent → Bool = λ a b. not (same_name a.name b.name) in
      let all : List RouteReferents → List Referent = λ rs. flat_map (λ r. r.refs) rs in
      let same : all (referents_of new) ≡ all (referents_of i) =
      flat_map-map (λ (r : RouteReferents). r.refs) refs_entry (insert_by route_before e i.routes) ∙ made-insert_by_none (λ (f : RouteRow). f.route.refs) route_before e i.routes no_refs
      ∙ sym (flat_map-map (λ (r : RouteReferents). r.refs) refs_entry i.routes) in
      and_weaker (list_all each (referents_of i)) (each_two once (all (referents_of i))) (list_all each (referents_of new)) (each_two once (all (referents_of new)))
      (all_mapped-insert_by each refs_entry route_before e i.routes fits.2) (λ k. ap (each_two once) same ∙ k) h

  stays_orderly : length i.routes + 1 ≤ most_routes → IsOrderly (with_route e i)
  stays_orderly room = record {
    links = o.links;
    classes = o.classes;
    assets = o.assets;
    courses = still_courses room o.courses;
    marks = all_mapped-insert_by (λ r. have_marks r.course r.marks) marks_entry route_before e i.routes fits.1 o.marks;
    referents = still_referents o.referents;
    spans = all_mapped-insert_by (are_spans_of i.assets) spans_entry route_before e i.routes (ap (λ rows. are_spans_of i.assets (record { course = e.route.course; rows = rows })) no_spans) o.spans;
    entered_order = o.entered_order;
    entered_filled = o.entered_filled;
    entered_apart = o.entered_apart;
    entered_few = o.entered_few;
    gone_order = o.gone_order;
    gone_filled = o.gone_filled;
    gone_apart = o.gone_apart;
    keys = o.keys;
    few_edits = o.few_edits;
  }

  -- ---- the index of its ground

  -- where the new route runs no other does
  alone : (m : Millimetre) → runs_over e.route.course m ≡ true → list_any (λ f. runs_over f.route.course m) i.routes ≡ false
  alone m here = is_false (list_any (λ f. runs_over f.route.course m) i.routes) (λ t.
      let f = any_found (λ f. runs_over f.route.course m) i.routes t in
      let g = any_found (is_at m) e.route.course here in
      both_ways (meets e.route.course f.0.route.course) (apart f.0 f.1)
      (any_of (λ g. runs_over f.0.route.course (g.link, g.mm)) g.0 e.route.course g.1 (subst (λ m. runs_over f.0.route.course m ≡ true) (at_is m g.0 g.2) f.2)))

  module _ (own : List Piece) (of : course_of own ≡ e.route.course) (filled : AllByRecursion IsFilled own) where
    over : (m : Millimetre) → runs_over (course_of own) m ≡ runs_over e.route.course m
    over m = ap (λ xs. runs_over xs m) of

    on_ground : (m : Millimetre) → route_on (insert_by route_before e i.routes) m ≡ ground_after (route_plan e.route.name e own).ground (route_on i.routes) m
    on_ground m =
        ap (option_map (λ (f : RouteRow). f.route.name)) (find-insert_by (λ f. runs_over f.route.course m) route_before e i.routes (alone m))
        ∙ by (runs_over e.route.course m) (list.find (λ f. runs_over f.route.course m) i.routes)
        ∙ ap (λ b. cond (b || false) (Some e.route.name) (route_on i.routes m)) (sym (over m))
      where
        by : (b : Bool) (f : Option RouteRow) → option_map (λ (f : RouteRow). f.route.name) (cond b (Some e) f) ≡ cond (b || false) (Some e.route.name) (option_map (λ (f : RouteRow). f.route.name) f)
        by true f = refl
        by false f = refl

    tells_ground : TellsGround (route_plan e.route.name e own) i
    unfolding state_of
    tells_ground = record {
      ground = on_ground;
      can_ground = record {
        gone_filled = tt;
        passed_filled = tt;
        come_filled = filled;
        gone = λ m h. absurd (false≢true h);
        passed = λ m h. absurd (false≢true h);
        apart = λ m h. refl;
        come = λ m h. ap (option_map (λ (f : RouteRow). f.route.name)) (none_found (λ f. runs_over f.route.course m) i.routes (alone m (sym (over m) ∙ h)));
        once = ap is_run_once of ∙ runs_once;
      };
      referents = λ name. ap (find name_cmp name) (made-insert_by_none referents_on route_before e i.routes (nothing_refers e i fresh no_refs no_spans));
      new_referent = tt;
    }

-- The verb makes the route, where its name is new, its ground is free and its marks are those of the course.
module _ (name : Name) (pieces : List Piece) (marks line : List Mark) (course : List Ground) (i : Image) (e : RouteRow) (fresh : contains_key (state_of i).routes name ≡ false)
    (is : new_course (state_of i) pieces ≡ Ok course) (free : check_free (state_of i) pieces ≡ Ok tt) (marked : new_marks (length course) marks ≡ Ok line) (of : IsEntryOf name course line e) (s : IsSound i) where
  no_such_name : list_any (has_name e.route.name) i.routes ≡ false
  no_such_name = ap (λ n. list_any (has_name n) i.routes) of.name ∙ sym (knows name i) ∙ fresh

  made : IsMade i pieces e.route.course
  made = subst (IsMade i pieces) (sym of.course) (made_of i pieces course is)

  same_state : set_route name course marks (state_of i) ≡ state_of (with_route e i)
  same_state =
      (λ j. set_route (sym of.name j) (sym of.course j) (sym (of.marks ∙ (marks_of (length course) marks line marked).1) j) (state_of i))
      ∙ state-with_own e i no_such_name of.refs of.spans

  pub makes : (own : List Piece) → course_of own ≡ e.route.course → AllByRecursion IsFilled own → IsPlanOf (verb.Route name pieces marks) i (route_plan name e own)
  makes own over filled = subst (λ (n : Name). IsPlanOf (verb.Route name pieces marks) i (route_plan n e own)) of.name (record {
    makes = record {
      state = writes name pieces marks i (length i.edits + 1) fresh course is free line marked ∙ ap Ok (same_state ∙ ap state_of (sym (with_difference-route e i)));
      edits = refl;
      orderly = λ room. subst IsOrderly (sym (with_difference-route e i)) (stays_orderly e pieces i no_such_name made free of.refs of.spans (sound_is_orderly i s) (room.routes refl));
    };
    differ = can_differ (record no_difference { made = Some e }) i refl tt s;
    tells = tells_ground e pieces i no_such_name made free of.refs of.spans (sound_is_orderly i s) own over filled;
  })
