-- Routes dropped and written leave an image in order.
use Rattle.std.proofs.Common.{◌≡◌, ◌+◌, ◌≤◌, Bool, true, false, ◌⊎◌, inl, inr, List, length, sym, ap, ◌∙◌, arith}
use Rattle.std.specs.Prelude.{◌&&◌, not, nat_le}
use Rattle.std.specs.List.{list_any, list_all, flat_map}
use Rattle.std.specs.Cmp.Lexicographic.{bytes_decides}
use Rattle.std.proofs.lemmas.Bool.{both_ways, not-true, and_parts, and_from, leb-true, le-leb}
use Rattle.std.proofs.lemmas.List.{length-map}
use Rattle.std.proofs.lemmas.List.Folds.{list_all-map, flat_map-map}
use Rattle.lrs_measure.specs.Lists.{In, each_two}
use Rattle.lrs_measure.specs.Texts.{Name, same_name}
use Rattle.lrs_element.specs.declared.link.Ground.{Ground}
use Rattle.lrs_element.specs.Course.{runs_over, meets}
use Rattle.lrs_position.specs.declared.route.Referent.{Referent}
use Rattle.lrs_position.specs.Routes.{is_route_course, are_referents}
use Rattle.lrs_events.specs.Places.{differs}
use Rattle.lrs_machine.specs.declared.image.RouteRow.{RouteRow}
use Rattle.lrs_machine.specs.declared.image.Image.{Image}
use Rattle.lrs_measure.specs.Limits.{most_routes}
use Rattle.lrs_measure.proofs.Members.{any_found, any_of, all_at, all_of, two_at, flat_map_found, In-filter}
use Rattle.lrs_measure.proofs.Filters.{each_two-filter}
use Rattle.lrs_measure.proofs.Insertions.{length-insert_all}
use Rattle.lrs_machine.specs.Sound.{are_courses, courses_of, course_before, is_course, are_all_referents, referents_of, are_spans_of, spans_of, is_on_a_link, route_before, IsSound, RouteCourse, RouteReferents, RouteSpans}
use Rattle.lrs_machine.proofs.Pairs.{each_two-map}
use Rattle.lrs_machine.proofs.SoundImages.{and_three}
use Rattle.lrs_image_laws.specs.Orderly.{IsOrderly}
use Rattle.lrs_image_laws.proofs.Ordering.{sound_is_orderly}
use Rattle.lrs_image_sound.proofs.Fitting.{fits, marks_fit}
use Rattle.lrs_image.proofs.Tables.{routes_in_order}
use Rattle.lrs_image_laws.specs.Rewrites.{routes_named, routes_left, rewritten, with_routes, has_referent, runs_at, IsLeft, AreFit, RewritingIsOrderly}
use Rattle.lrs_image_laws.proofs.InOrder.{is_false}
use Rattle.lrs_image_laws.proofs.Apart.{apart_too, meet_at}
use Rattle.lrs_image_laws.proofs.Listed.{all-insert_all, each_two-insert_all, made_two, made_some, made-insert_all}
use Rattle.lrs_image_laws.proofs.Naming.{same_either, left_in_order, in_order}

-- the courses of two routes have no millimetre in common
abbrev pub are_far : RouteRow → RouteRow → Bool
are_far c d = not (meets c.route.course d.route.course)

abbrev pub are_unlike : Referent → Referent → Bool
are_unlike a b = not (same_name a.name b.name)

abbrev pub refs_at : RouteRow → List Referent
refs_at e = e.route.refs

-- ---- what a sound image says of its routes

module _ (i : Image) (s : IsSound i) where
  abbrev free : RouteCourse → RouteCourse → Bool
  free c d = not (meets c.entries d.entries)

  abbrev course : RouteRow → RouteCourse
  course e = record { route = e.route.name; entries = e.route.course }

  course_tests : ((each_two course_before (courses_of i) && list_all (is_course i.links) (courses_of i) && each_two free (courses_of i)) ≡ true) × (nat_le (length (courses_of i)) most_routes ≡ true)
  course_tests = and_parts (each_two course_before (courses_of i) && list_all (is_course i.links) (courses_of i) && each_two free (courses_of i)) (nat_le (length (courses_of i)) most_routes) (sound_is_orderly i s).courses

  three : (each_two course_before (courses_of i) ≡ true) × (list_all (is_course i.links) (courses_of i) ≡ true) × (each_two free (courses_of i) ≡ true)
  three = and_three (each_two course_before (courses_of i)) (list_all (is_course i.links) (courses_of i)) (each_two free (courses_of i)) course_tests.0

  pub old_courses : list_all (λ (e : RouteRow). is_course i.links (course e)) i.routes ≡ true
  old_courses = sym (list_all-map (is_course i.links) course i.routes) ∙ three.1

  pub old_far : each_two are_far i.routes ≡ true
  old_far = sym (each_two-map free course i.routes) ∙ three.2

  pub old_few : length i.routes ≤ most_routes
  old_few = let a = leb-true (length (courses_of i)) most_routes course_tests.1 in let b = length-map i.routes course in omega (arith, a, b)

  pub old_unlike : each_two are_unlike (flat_map refs_at i.routes) ≡ true
  old_unlike =
      let refs : RouteRow → RouteReferents = λ e. record { length = length e.route.course; refs = e.route.refs } in
      ap (each_two are_unlike) (sym (flat_map-map (λ (r : RouteReferents). r.refs) refs i.routes))
      ∙ (and_parts (list_all (λ r. are_referents r.length r.refs) (referents_of i)) (each_two are_unlike (flat_map (λ (r : RouteReferents). r.refs) (referents_of i))) (sound_is_orderly i s).referents).1

  pub old_spans : list_all (λ (e : RouteRow). are_spans_of i.assets (record { course = e.route.course; rows = e.spans })) i.routes ≡ true
  old_spans = sym (list_all-map (are_spans_of i.assets) (λ (e : RouteRow). let x : RouteSpans = record { course = e.route.course; rows = e.spans } in x) i.routes) ∙ (sound_is_orderly i s).spans

  -- the course of one of them runs over known links, and over no millimetre twice
  pub its_course : (r : RouteRow) → In r i.routes → (list_all (is_on_a_link i.links) r.route.course ≡ true) × (each_two differs r.route.course ≡ true)
  its_course r m =
      let all = and_three (is_route_course r.route.course) (list_all (is_on_a_link i.links) r.route.course) (each_two differs r.route.course) (all_at (λ (e : RouteRow). is_course i.links (course e)) r i.routes old_courses m) in
      (all.1, all.2)

far_either : (c d : RouteRow) → are_far c d ≡ true → are_far d c ≡ true
far_either c d h = ap not (apart_too c.route.course d.route.course (not-true (meets c.route.course d.route.course) h))

unlike_either : (a b : Referent) → are_unlike a b ≡ true → are_unlike b a ≡ true
unlike_either a b h = ap not (same_either b.name a.name ∙ not-true (same_name a.name b.name) h)

-- ---- routes dropped and written

module _ (i : Image) (dropped : List Name) (written : List RouteRow) (s : IsSound i) (fit : AreFit i dropped written) where
  abbrev goes : RouteRow → Bool
  goes e = list_any (same_name e.route.name) dropped

  abbrev kept : List RouteRow
  kept = routes_left dropped i.routes

  abbrev routes : List RouteRow
  routes = rewritten dropped written i.routes

  abbrev new : Image
  new = with_routes routes i

  o : IsOrderly i
  o = sound_is_orderly i s

  stays : (e : RouteRow) → In e kept → In e i.routes × (goes e ≡ false)
  stays e m = let k = In-filter (λ e. not (goes e)) e i.routes m in (k.0, not-true (goes e) k.1)

  other_names : (w e : RouteRow) → In w written → In e kept → same_name w.route.name e.route.name ≡ false
  other_names w e m n = is_false (same_name w.route.name e.route.name) (λ h. let k = stays e n in both_ways (goes e) k.1 (fit.fresh w e m k.0 h))

  pub new_order : each_two route_before routes ≡ true
  new_order = in_order written kept fit.names (left_in_order dropped i.routes (routes_in_order i s)) other_names

  -- what is told of a route that stays is told of no route that goes, where no two routes are told it
  not_left : (told : RouteRow → Bool) (e : RouteRow) → IsLeft told dropped i.routes → In e kept → told e ≡ true → ((d : RouteRow) → In d i.routes → told d ≡ true → e ≡ d) → ⊥
  not_left told e (inr none) m h one = both_ways (list_any told i.routes) none (any_of told e i.routes (stays e m).0 h)
  not_left told e (inl some) m h one =
      let d = any_found told (routes_named dropped i.routes) some in
      let k = In-filter goes d.0 i.routes d.1 in
      both_ways (goes e) (stays e m).1 (ap (λ (q : RouteRow). goes q) (one d.0 k.0 d.2) ∙ k.1)

  -- ---- courses

  -- of two routes that run over a millimetre one is the other
  one_runs : (g : Ground) (e d : RouteRow) → In e i.routes → In d i.routes → runs_at g e ≡ true → runs_at g d ≡ true → e ≡ d
  one_runs g e d m n h k = by (two_at are_far e d i.routes (old_far i s) m n)
    where
      by : (e ≡ d) ⊎ ((are_far e d ≡ true) ⊎ (are_far d e ≡ true)) → e ≡ d
      by (inl same) = same
      by (inr (inl t)) = absurd (both_ways (meets e.route.course d.route.course) (not-true (meets e.route.course d.route.course) t) (meet_at e.route.course d.route.course (g.link, g.mm) h k))
      by (inr (inr t)) = absurd (both_ways (meets d.route.course e.route.course) (not-true (meets d.route.course e.route.course) t) (meet_at d.route.course e.route.course (g.link, g.mm) k h))

  -- a route that stays does not run where one that goes does, or where none does
  pub stays_far : (e : RouteRow) (g : Ground) → In e kept → runs_at g e ≡ true → IsLeft (runs_at g) dropped i.routes → ⊥
  stays_far e g m h left = not_left (runs_at g) e left m h (λ d k t. one_runs g e d (stays e m).0 k h t)

  written_far : (w e : RouteRow) → In w written → In e kept → are_far w e ≡ true
  written_far w e m n = ap not (is_false (meets w.route.course e.route.course) (λ h.
      let g = any_found (λ (g : Ground). runs_over e.route.course (g.link, g.mm)) w.route.course h in
      stays_far e g.0 n g.2 (fit.ground w g.0 m g.1)))

  pub new_far : each_two are_far routes ≡ true
  new_far = each_two-insert_all are_far route_before written kept far_either fit.apart (each_two-filter are_far (λ e. not (goes e)) i.routes (old_far i s)) written_far

  all_routes : (test : RouteRow → Bool) → ((w : RouteRow) → In w written → test w ≡ true) → list_all test i.routes ≡ true → list_all test routes ≡ true
  all_routes test h k = all-insert_all route_before test written kept (all_of test written h) (all_of test kept (λ e m. all_at test e i.routes k (stays e m).0))

  new_courses : length written + length kept ≤ most_routes → are_courses i.links (courses_of new) ≡ true
  new_courses few =
      let cs = courses_of new in
      let rises = each_two course_before cs in
      let each = list_all (is_course i.links) cs in
      let apart = each_two (free i s) cs in
      and_from (rises && each && apart) (nat_le (length cs) most_routes)
      (and_from (rises && each) apart
      (and_from rises each
      (each_two-map course_before (course i s) routes ∙ new_order)
      (list_all-map (is_course i.links) (course i s) routes ∙ all_routes (λ e. is_course i.links (course i s e))
      (λ w m. and_from (is_route_course w.route.course && list_all (is_on_a_link i.links) w.route.course) (each_two differs w.route.course)
      (and_from (is_route_course w.route.course) (list_all (is_on_a_link i.links) w.route.course) (fits w).0 (fit.linked w m)) (fit.once w m))
      (old_courses i s)))
      (each_two-map (free i s) (course i s) routes ∙ new_far))
      (le-leb (length cs) most_routes (let a = length-map routes (course i s) in let b = length-insert_all route_before written kept in omega (arith, a, b, few)))

  -- ---- referents and spans

  written_unlike : (u v : Referent) → In u (flat_map refs_at written) → In v (flat_map refs_at kept) → are_unlike u v ≡ true
  written_unlike u v m n = by (flat_map_found refs_at u written m) (flat_map_found refs_at v kept n)
    where
      by : (w : RouteRow) × In w written × In u (refs_at w) → (e : RouteRow) × In e kept × In v (refs_at e) → are_unlike u v ≡ true
      by w e = ap not (is_false (same_name u.name v.name) (λ h.
          not_left (has_referent u.name) e.0 (fit.referents w.0 u w.1 w.2) e.1 (any_of (λ (r : Referent). same_name r.name u.name) v e.0.route.refs e.2 (same_either v.name u.name ∙ h))
          (λ d k t. let r = any_found (λ (r : Referent). same_name r.name u.name) d.route.refs t in
          one h d r.0 r.2 (made_two are_unlike refs_at e.0 d i.routes v r.0 (old_unlike i s) (stays e.0 e.1).0 k e.2 r.1))))
        where
          one : same_name u.name v.name ≡ true → (d : RouteRow) (r : Referent) → same_name r.name u.name ≡ true → (e.0 ≡ d) ⊎ ((are_unlike v r ≡ true) ⊎ (are_unlike r v ≡ true)) → e.0 ≡ d
          one h d r t (inl same) = same
          one h d r t (inr (inl k)) = absurd (both_ways (same_name v.name r.name) (not-true (same_name v.name r.name) k) ((bytes_decides v.name r.name).1 (sym ((bytes_decides u.name v.name).0 h) ∙ sym ((bytes_decides r.name u.name).0 t))))
          one h d r t (inr (inr k)) = absurd (both_ways (same_name r.name v.name) (not-true (same_name r.name v.name) k) ((bytes_decides r.name v.name).1 ((bytes_decides r.name u.name).0 t ∙ (bytes_decides u.name v.name).0 h)))

  pub new_unlike : each_two are_unlike (flat_map refs_at routes) ≡ true
  new_unlike = made-insert_all are_unlike refs_at route_before unlike_either written kept fit.referents_once (made_some are_unlike refs_at (λ e. not (goes e)) i.routes (old_unlike i s)) written_unlike

  new_referents : are_all_referents (referents_of new) ≡ true
  new_referents =
      let refs : RouteRow → RouteReferents = λ e. record { length = length e.route.course; refs = e.route.refs } in
      and_from (list_all (λ r. are_referents r.length r.refs) (referents_of new)) (each_two are_unlike (flat_map (λ (r : RouteReferents). r.refs) (referents_of new)))
      (list_all-map (λ (r : RouteReferents). are_referents r.length r.refs) refs routes ∙ all_of (λ (e : RouteRow). are_referents (length e.route.course) e.route.refs) routes (λ e m. (fits e).2))
      (ap (each_two are_unlike) (flat_map-map (λ (r : RouteReferents). r.refs) refs routes) ∙ new_unlike)

  new_spans : list_all (are_spans_of i.assets) (spans_of new) ≡ true
  new_spans =
      let at : RouteRow → RouteSpans = λ e. record { course = e.route.course; rows = e.spans } in
      list_all-map (are_spans_of i.assets) at routes ∙ all_routes (λ e. are_spans_of i.assets (at e)) fit.spans (old_spans i s)

  pub orderly : length written + length kept ≤ most_routes → IsOrderly new
  orderly few = record {
    links = o.links;
    classes = o.classes;
    assets = o.assets;
    courses = new_courses few;
    marks = marks_fit routes;
    referents = new_referents;
    spans = new_spans;
    entered_order = o.entered_order;
    entered_filled = o.entered_filled;
    entered_apart = o.entered_apart;
    entered_few = o.entered_few;
    gone_order = o.gone_order;
    gone_filled = o.gone_filled;
    gone_apart = o.gone_apart;
    keys = o.keys;
    few_edits = o.few_edits;
  }

pub rewriting_is_orderly : RewritingIsOrderly
rewriting_is_orderly i dropped written s fit few = orderly i dropped written s fit few
