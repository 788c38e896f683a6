-- A split.
use Rattle.std.proofs.Common.{◌≡◌, ℕ, zero, suc, ◌+◌, ◌-◌, ◌<◌, ◌≤◌, Bool, true, false, cond, ◌⊎◌, inl, inr, List, [], ◌∷◌, ◌++◌, map, filter, take, drop, length, Option, Some, None, Ok, refl, sym, ap, subst, ◌∙◌, arith}
use Rattle.std.proofs.Math.Bool.{or-false}
use Rattle.std.specs.Prelude.{◌||◌, not, nat_lt, nat_eq, is_some, slice_get}
use Rattle.std.specs.Option.{option_map, option_or, ok_or}
use Rattle.std.specs.List.{list_any, list_all, flat_map, filter_map}
use Rattle.std.specs.Cmp.Lexicographic.{bytes_decides}
use Rattle.std.proofs.lemmas.Bool.{both_ways, not-true, and_parts, and_from, or_left, cases_Bool, cases_lt, ltb-true, lt-ltb, eq-eqb, false≢true}
use Rattle.std.proofs.lemmas.List.Folds.{list_any-append}
use Rattle.std.proofs.lemmas.List.{append-nil, take-append-drop}
use Rattle.lrs_measure.specs.Lists.{In, each_two, is_nothing}
use Rattle.lrs_measure.specs.OrderedLists.{insert_by}
use Rattle.lrs_measure.specs.Texts.{Name, name_cmp, same_name}
use Rattle.lrs_element.specs.declared.link.Ground.{Ground}
use Rattle.lrs_element.specs.Course.{Millimetre, is_at, runs_over, meets, is_too_long}
use Rattle.lrs_element.specs.Marks.{is_inner_mark, marks_to, marks_from}
use Rattle.lrs_position.specs.declared.route.Referent.{Referent}
use Rattle.lrs_position.specs.Locations.{Alignment}
use Rattle.lrs_events.specs.Places.{Place, differs}
use Rattle.lrs_events.specs.Spans.{holds_by_spans}
use Rattle.lrs_machine.specs.declared.answer.Cause.TheVariants as cause
use Rattle.lrs_machine.specs.declared.command.Command.TheVariants as verb
use Rattle.lrs_machine.specs.declared.image.RouteRow.{RouteRow}
use Rattle.lrs_machine.specs.declared.image.Image.{Image}
use Rattle.lrs_measure.specs.Limits.{most_routes}
use Rattle.lrs_measure.proofs.Members.{any_found, any_of, all_at, all_of, two_at, In-take, In-drop, In-map, In-flat_map, flat_map_found, map_found, In-filter, filter-In}
use Rattle.lrs_measure.proofs.Filters.{each_two-filter}
use Rattle.lrs_measure.proofs.EachTwo.{two_front, two_rear, joined, across_of}
use Rattle.lrs_machine.specs.Register.{put}
use Rattle.lrs_machine.specs.State.{State}
use Rattle.lrs_machine.specs.Image.{state_of, holds_on, referents_on, referent_entry, route_entry}
use Rattle.lrs_machine.specs.Machine.{attempt, refuse_if, ◌>>=◌, ◌>>◌, set_route}
use Rattle.lrs_machine.specs.Sound.{is_on_a_link, are_spans_of, route_before, IsSound}
use Rattle.lrs_machine.proofs.Pairs.{each_two-map}
use Rattle.lrs_image_laws.specs.CommandChanges.{Makes}
use Rattle.lrs_image_sound.proofs.Fitting.{fits}
use Rattle.lrs_image.specs.Change.{is_named}
use Rattle.lrs_image.proofs.PutBack.{none_goes}
use Rattle.lrs_image.proofs.Tables.{routes_in_order}
use Rattle.lrs_image_laws.specs.Rewrites.{routes_named, routes_left, rewritten, with_routes, has_referent, runs_at, IsLeft, AreFit}
use Rattle.lrs_image_laws.specs.SameGround.{SayTheSame}
use Rattle.lrs_image_laws.specs.RoutesOver.{runs_on, is_run_by}
use Rattle.lrs_image_laws.specs.Splits.{back_by, is_ahead, IsSplit, SplitMakes}
use Rattle.lrs_image_laws.proofs.Apart.{meet_at}
use Rattle.lrs_image_laws.proofs.Differences.{filter-insert_by}
use Rattle.lrs_image_laws.proofs.InOrder.{is_false}
use Rattle.lrs_image_laws.proofs.Listed.{length-parted}
use Rattle.lrs_image_laws.proofs.Naming.{same_either, route_chain, only_one, route_found, route_none, put_rewrites, in_order, order_stays, insert_swap, one_way}
use Rattle.lrs_image_laws.proofs.Parted.{cut_rows_hold}
use Rattle.lrs_image_laws.proofs.Renaming.{own_names}
use Rattle.lrs_image_laws.proofs.Rewriting.{are_unlike, its_course, orderly}
use Rattle.lrs_image_laws.proofs.Running.{moves_ground, runs_there}
use Rattle.lrs_image_laws.proofs.Standing.{option_found, found_option, keeps_state}

pub has_ground : (c : List Ground) → not (is_nothing c) ≡ true → 0 < length c
has_ground [] h = absurd (false≢true h)
has_ground (g ∷ gs) h = omega arith

-- a route is not empty
pub not_empty : (r : RouteRow) → 0 < length r.route.course
not_empty r = has_ground r.route.course (and_parts (not (is_nothing r.route.course)) (not (is_too_long r.route.course)) (fits r).0).0

-- an entry before or behind a place of a list
pub get_front : {X : Type 0} (n k : ℕ) (c : List X) → k < n → slice_get (take n c) k ≡ slice_get c k
get_front zero k c h = absurd (omega (arith, h))
get_front (suc n) k [] h = refl
get_front (suc n) zero (x ∷ xs) h = refl
get_front (suc n) (suc k) (x ∷ xs) h = get_front n k xs (omega (arith, h))

pub get_rear : {X : Type 0} (n k : ℕ) (c : List X) → slice_get (drop n c) k ≡ slice_get c (n + k)
get_rear zero k c = ap (slice_get c) (omega arith)
get_rear (suc n) k [] = refl
get_rear (suc n) k (x ∷ xs) = get_rear n k xs ∙ ap (slice_get (x ∷ xs)) same
  where
    same : suc (n + k) ≡ suc n + k
    same = omega arith

drop_past : {X : Type 0} (n : ℕ) (xs : List X) → 0 < length (drop n xs) → n < length xs
drop_past zero xs h = h
drop_past (suc n) [] h = absurd (omega (arith, h))
drop_past (suc n) (x ∷ xs) h = let e = drop_past n xs h in omega (arith, e)

module _ (i : Image) (r front rear : RouteRow) (at : ℕ) (name : Name) (s : IsSound i) (is : IsSplit i r front rear at name) where
  abbrev dropped : List Name
  dropped = r.route.name ∷ []

  abbrev written : List RouteRow
  written = front ∷ rear ∷ []

  order : each_two route_before i.routes ≡ true
  order = routes_in_order i s

  ours : routes_named dropped i.routes ≡ r ∷ []
  ours = only_one r i.routes order is.route

  each : (P : RouteRow → Type 0) → P rear → P front → (w : RouteRow) → In w written → P w
  each P a b w (inl e) = subst P (sym e) b
  each P a b w (inr (inl e)) = subst P (sym e) a
  each P a b w (inr (inr e)) = absurd e

  -- the name that comes is no route's
  no_rear : (e : RouteRow) → In e i.routes → same_name rear.route.name e.route.name ≡ false
  no_rear e m = is_false (same_name rear.route.name e.route.name) (λ h.
      both_ways (list_any (is_named name) i.routes) is.fresh (any_of (is_named name) e i.routes m (same_either e.route.name name ∙ (λ j. same_name (sym is.rear_name j) e.route.name) ∙ h)))

  apart_names : same_name front.route.name rear.route.name ≡ false
  apart_names = same_either front.route.name rear.route.name ∙ ap (same_name rear.route.name) is.front_name ∙ no_rear r is.route

  the_course : (list_all (is_on_a_link i.links) r.route.course ≡ true) × (each_two differs r.route.course ≡ true)
  the_course = its_course i s r is.route

  inside : at < length r.route.course
  inside = drop_past at r.route.course (subst (λ c. 0 < length c) is.rear_course (not_empty rear))

  -- ---- they fit

  in_front : (g : Ground) → In g front.route.course → In g r.route.course
  in_front g m = In-take g at r.route.course (subst (In g) is.front_course m)

  in_rear : (g : Ground) → In g rear.route.course → In g r.route.course
  in_rear g m = In-drop g at r.route.course (subst (In g) is.rear_course m)

  left : (told : RouteRow → Bool) → told r ≡ true → IsLeft told dropped i.routes
  left told h = inl (ap (list_any told) ours ∙ or_left (told r) false h)

  ran_over : (g : Ground) → In g r.route.course → IsLeft (runs_at g) dropped i.routes
  ran_over g m = left (runs_at g) (any_of (is_at (g.link, g.mm)) g r.route.course m (and_from (nat_eq g.link g.link) (nat_eq g.mm g.mm) (eq-eqb g.link g.link refl) (eq-eqb g.mm g.mm refl)))

  stood : (n : Name) (q : Referent) → In q r.route.refs → q.name ≡ n → IsLeft (has_referent n) dropped i.routes
  stood n q m e = left (has_referent n) (any_of (λ (r : Referent). same_name r.name n) q r.route.refs m ((bytes_decides q.name n).1 e))

  from_front : (q : Referent) → In q front.route.refs → In q r.route.refs × (is_ahead at q ≡ true)
  from_front q m = In-filter (is_ahead at) q r.route.refs (subst (In q) is.front_refs m)

  from_rear : (q : Referent) → In q rear.route.refs → (x : Referent) × In x r.route.refs × (not (is_ahead at x) ≡ true) × (q ≡ back_by at x)
  from_rear q m =
      let x = map_found (back_by at) q (filter (λ q. not (is_ahead at q)) r.route.refs) (subst (In q) is.rear_refs m) in
      let k = In-filter (λ q. not (is_ahead at q)) x.0 r.route.refs x.1 in
      (x.0, k.0, k.1, x.2)

  far : meets front.route.course rear.route.course ≡ false
  far = is_false (meets front.route.course rear.route.course) (λ h.
      let g = any_found (λ (g : Ground). runs_over rear.route.course (g.link, g.mm)) front.route.course h in
      let k = any_found (is_at (g.0.link, g.0.mm)) rear.route.course g.2 in
      both_ways (is_at (g.0.link, g.0.mm) k.0)
      (not-true (is_at (g.0.link, g.0.mm) k.0) (across_of differs (take at r.route.course) (drop at r.route.course) (ap (each_two differs) (take-append-drop at r.route.course) ∙ the_course.1) g.0 k.0 (subst (In g.0) is.front_course g.1) (subst (In k.0) is.rear_course k.1)))
      k.2)

  cross_names : (v u : Referent) → In v front.route.refs → In u rear.route.refs → are_unlike v u ≡ true
  cross_names v u n m = by (from_rear u m) (from_front v n)
    where
      by : (x : Referent) × In x r.route.refs × (not (is_ahead at x) ≡ true) × (u ≡ back_by at x) → In v r.route.refs × (is_ahead at v ≡ true) → are_unlike v u ≡ true
      by x k = of (two_at are_unlike v x.0 r.route.refs (own_names r) k.0 x.1)
        where
          of : (v ≡ x.0) ⊎ ((are_unlike v x.0 ≡ true) ⊎ (are_unlike x.0 v ≡ true)) → are_unlike v u ≡ true
          of (inl e) = absurd (both_ways (is_ahead at x.0) (not-true (is_ahead at x.0) x.2) (ap (is_ahead at) (sym e) ∙ k.1))
          of (inr (inl e)) = ap (λ (w : Referent). are_unlike v w) x.3 ∙ e
          of (inr (inr e)) = ap (λ (w : Referent). are_unlike v w) x.3 ∙ ap not (same_either v.name x.0.name ∙ not-true (same_name x.0.name v.name) e)

  refs_once : each_two are_unlike (flat_map (λ (w : RouteRow). w.route.refs) written) ≡ true
  refs_once =
      joined are_unlike front.route.refs (rear.route.refs ++ [])
      (ap (each_two are_unlike) is.front_refs ∙ each_two-filter are_unlike (is_ahead at) r.route.refs (own_names r))
      (ap (each_two are_unlike) (append-nil rear.route.refs ∙ is.rear_refs) ∙ each_two-map are_unlike (back_by at) (filter (λ q. not (is_ahead at q)) r.route.refs) ∙ each_two-filter are_unlike (λ q. not (is_ahead at q)) r.route.refs (own_names r))
      (λ v u n m. cross_names v u n (subst (In u) (append-nil rear.route.refs) m))

  fit : AreFit i dropped written
  fit = record {
    fresh = λ w e m n h. each (λ w. same_name w.route.name e.route.name ≡ true → list_any (same_name e.route.name) dropped ≡ true)
        (λ h. absurd (both_ways (same_name rear.route.name e.route.name) (no_rear e n) h))
        (λ h. or_left (same_name e.route.name r.route.name) false (same_either e.route.name r.route.name ∙ ((λ j. same_name (sym is.front_name j) e.route.name) ∙ h))) w m h;
    names = and_from (list_all (λ (w : RouteRow). not (same_name front.route.name w.route.name)) (rear ∷ [])) true (and_from (not (same_name front.route.name rear.route.name)) true (ap not apart_names) refl) refl;
    linked = each (λ w. list_all (is_on_a_link i.links) w.route.course ≡ true)
        (all_of (is_on_a_link i.links) rear.route.course (λ g m. all_at (is_on_a_link i.links) g r.route.course the_course.0 (in_rear g m)))
        (all_of (is_on_a_link i.links) front.route.course (λ g m. all_at (is_on_a_link i.links) g r.route.course the_course.0 (in_front g m)));
    once = each (λ w. each_two differs w.route.course ≡ true) (ap (each_two differs) is.rear_course ∙ two_rear differs (take at r.route.course) (drop at r.route.course) (ap (each_two differs) (take-append-drop at r.route.course) ∙ the_course.1)) (ap (each_two differs) is.front_course ∙ two_front differs (take at r.route.course) (drop at r.route.course) (ap (each_two differs) (take-append-drop at r.route.course) ∙ the_course.1));
    apart = and_from (list_all (λ (w : RouteRow). not (meets front.route.course w.route.course)) (rear ∷ [])) true (and_from (not (meets front.route.course rear.route.course)) true (ap not far) refl) refl;
    ground = λ w g m n. each (λ w. In g w.route.course → IsLeft (runs_at g) dropped i.routes) (λ k. ran_over g (in_rear g k)) (λ k. ran_over g (in_front g k)) w m n;
    referents = λ w q m n. each (λ w. In q w.route.refs → IsLeft (has_referent q.name) dropped i.routes)
        (λ k. let x = from_rear q k in stood q.name x.0 x.1 (sym (ap (λ (w : Referent). w.name) x.3))) (λ k. stood q.name q (from_front q k).0 refl) w m n;
    referents_once = refs_once;
    spans = each (λ w. are_spans_of i.assets (record { course = w.route.course; rows = w.spans }) ≡ true) is.rear_spans is.front_spans;
  }

  -- ---- they say the same

  held : (a : ℕ) (p : Place) → list_any (λ e. holds_on e a p) written ≡ list_any (λ e. holds_on e a p) (routes_named dropped i.routes)
  held a p =
      (λ j. holds_by_spans (is.front_course j) front.spans a p || or-false (holds_by_spans (is.rear_course j) rear.spans a p) j)
      ∙ cut_rows_hold r.route.course at r.spans front.spans rear.spans (let h = inside in omega (arith, h)) is.cut a p
      ∙ sym (or-false (holds_on r a p))
      ∙ ap (list_any (λ e. holds_on e a p)) (sym ours)

  abbrev stands : Referent → Option Ground → Option (Name × Millimetre)
  stands q o = option_map (λ m. (q.name, m)) (option_map (λ (g : Ground). (g.link, g.mm)) o)

  front_same : (q : Referent) → is_ahead at q ≡ true → referent_entry (take at r.route.course) q ≡ referent_entry r.route.course q
  front_same q h = ap (stands q) (get_front at q.at r.route.course (ltb-true q.at at h))

  rear_same : (q : Referent) → not (is_ahead at q) ≡ true → referent_entry (drop at r.route.course) (back_by at q) ≡ referent_entry r.route.course q
  rear_same q h = ap (stands q) (get_rear at (q.at - at) r.route.course ∙ ap (slice_get r.route.course) (by (cases_lt q.at at)))
    where
      by : (q.at < at) ⊎ (at ≤ q.at) → at + (q.at - at) ≡ q.at
      by (inl l) = absurd (both_ways (nat_lt q.at at) (not-true (nat_lt q.at at) h) (lt-ltb q.at at l))
      by (inr l) = omega (arith, l)

  abbrev ahead : List Referent
  ahead = filter (is_ahead at) r.route.refs

  abbrev behind : List Referent
  behind = filter (λ q. not (is_ahead at q)) r.route.refs

  on_front : referents_on front ≡ filter_map (referent_entry (take at r.route.course)) ahead
  on_front = λ j. filter_map (referent_entry (is.front_course j)) (is.front_refs j)

  on_rear : referents_on rear ≡ filter_map (referent_entry (drop at r.route.course)) (map (back_by at) behind)
  on_rear = λ j. filter_map (referent_entry (is.rear_course j)) (is.rear_refs j)

  into : (e : Name × Millimetre) → In e (referents_on r) → In e (flat_map referents_on (routes_named dropped i.routes))
  into e m = subst (λ l. In e (flat_map referents_on l)) (sym ours) (In-flat_map referents_on r e (r ∷ []) (inl refl) m)

  to : (e : Name × Millimetre) → In e (flat_map referents_on written) → In e (flat_map referents_on (routes_named dropped i.routes))
  to e m = let w = flat_map_found referents_on e written m in each (λ w. In e (referents_on w) → In e (flat_map referents_on (routes_named dropped i.routes))) of_rear of_front w.0 w.1 w.2
    where
      of_front : In e (referents_on front) → In e (flat_map referents_on (routes_named dropped i.routes))
      of_front k =
          let x = option_found (referent_entry (take at r.route.course)) e ahead (subst (In e) on_front k) in
          let f = In-filter (is_ahead at) x.0 r.route.refs x.1 in
          into e (found_option (referent_entry r.route.course) x.0 e r.route.refs f.0 (sym (front_same x.0 f.1) ∙ x.2))

      of_rear : In e (referents_on rear) → In e (flat_map referents_on (routes_named dropped i.routes))
      of_rear k =
          let y = option_found (referent_entry (drop at r.route.course)) e (map (back_by at) behind) (subst (In e) on_rear k) in
          let x = map_found (back_by at) y.0 behind y.1 in
          let f = In-filter (λ q. not (is_ahead at q)) x.0 r.route.refs x.1 in
          into e (found_option (referent_entry r.route.course) x.0 e r.route.refs f.0 (sym (rear_same x.0 f.1) ∙ ap (referent_entry (drop at r.route.course)) (sym x.2) ∙ y.2))

  back : (e : Name × Millimetre) → In e (flat_map referents_on (routes_named dropped i.routes)) → In e (flat_map referents_on written)
  back e m =
      let w = flat_map_found referents_on e (r ∷ []) (subst (λ l. In e (flat_map referents_on l)) ours m) in
      let x = option_found (referent_entry r.route.course) e r.route.refs (its w.0 w.1 w.2) in
      by x.0 x.1 x.2 (cases_Bool (is_ahead at x.0))
    where
      its : (w : RouteRow) → In w (r ∷ []) → In e (referents_on w) → In e (referents_on r)
      its w (inl h) k = subst (λ w. In e (referents_on w)) h k
      its w (inr h) k = absurd h

      by : (x : Referent) → In x r.route.refs → referent_entry r.route.course x ≡ Some e → (is_ahead at x ≡ true) ⊎ (is_ahead at x ≡ false) → In e (flat_map referents_on written)
      by x k h (inl l) =
          In-flat_map referents_on front e written (inl refl) (subst (In e) (sym on_front)
          (found_option (referent_entry (take at r.route.course)) x e ahead (filter-In (is_ahead at) x r.route.refs k l) (front_same x l ∙ h)))
      by x k h (inr l) =
          In-flat_map referents_on rear e written (inr (inl refl)) (subst (In e) (sym on_rear)
          (found_option (referent_entry (drop at r.route.course)) (back_by at x) e (map (back_by at) behind)
          (In-map (back_by at) x behind (filter-In (λ q. not (is_ahead at q)) x r.route.refs k (ap not l))) (rear_same x (ap not l) ∙ h)))

  same : SayTheSame dropped written i.routes
  same = record { holds = held; to = to; back = back }

  -- ---- the register of routes

  abbrev kept : List RouteRow
  kept = routes_left dropped i.routes

  abbrev with_rear : List RouteRow
  with_rear = insert_by route_before rear i.routes

  rear_first : put name_cmp rear.route.name (route_entry rear).1 (map route_entry i.routes) ≡ map route_entry with_rear
  rear_first =
      put_rewrites rear i.routes order
      ∙ ap (λ l. map route_entry (insert_by route_before rear l)) (none_goes route_before (λ (f : RouteRow). list_any (same_name f.route.name) (rear.route.name ∷ [])) i.routes
      (all_of (λ (f : RouteRow). not (list_any (same_name f.route.name) (rear.route.name ∷ []))) i.routes (λ f m. ap (λ b. not (b || false)) (same_either f.route.name rear.route.name ∙ no_rear f m))))

  rear_order : each_two route_before with_rear ≡ true
  rear_order = in_order (rear ∷ []) i.routes refl order (λ w e m n. one w e m n)
    where
      one : (w e : RouteRow) → In w (rear ∷ []) → In e i.routes → same_name w.route.name e.route.name ≡ false
      one w e (inl h) n = ap (λ (w : RouteRow). same_name w.route.name e.route.name) h ∙ no_rear e n
      one w e (inr h) n = absurd h

  then_front : put name_cmp front.route.name (route_entry front).1 (map route_entry with_rear) ≡ map route_entry (rewritten dropped written i.routes)
  then_front =
      put_rewrites front with_rear rear_order
      ∙ ap (λ n. map route_entry (insert_by route_before front (routes_left (n ∷ []) with_rear))) is.front_name
      ∙ ap (λ l. map route_entry (insert_by route_before front l))
      (filter-insert_by route_before route_chain (λ (e : RouteRow). not (list_any (same_name e.route.name) dropped)) rear i.routes (ap (λ b. not (b || false)) (no_rear r is.route)) order)
      ∙ ap (map route_entry) (insert_swap route_before route_chain front rear (one_way front rear apart_names) kept)

  abbrev front_at : Alignment
  front_at = record { course = take at r.route.course; marks = marks_to at r.route.marks }

  abbrev rear_at : Alignment
  rear_at = record { course = drop at r.route.course; marks = marks_from at r.route.marks }

  routes_are : put name_cmp r.route.name front_at (put name_cmp name rear_at (map route_entry i.routes)) ≡ map route_entry (rewritten dropped written i.routes)
  routes_are =
      sym (λ j. put name_cmp (is.front_name j) (record { course = is.front_course j; marks = is.front_marks j }) (put name_cmp (is.rear_name j) (record { course = is.rear_course j; marks = is.rear_marks j }) (map route_entry i.routes)))
      ∙ ap (put name_cmp front.route.name (route_entry front).1) rear_first
      ∙ then_front

  -- ---- all of it

  abbrev result : State
  result = set_route r.route.name (take at r.route.course) (marks_to at r.route.marks) (set_route name (drop at r.route.course) (marks_from at r.route.marks) (state_of i))

  state_rows : result ≡ record (state_of i) { routes = record { rows = map route_entry (rewritten dropped written i.routes) } }
  unfolding state_of
  state_rows = λ j. record (state_of i) { routes = record { rows = routes_are j } }

  attempts : attempt (length i.edits + 1) (verb.Split r.route.name at name) (state_of i) ≡ Ok result
  unfolding attempt state_of
  attempts =
      (λ j. ok_or (route_found r i.routes order is.route j) cause.NoRoute >>= (λ (a : Alignment). refuse_if (is_some (route_none name i.routes is.fresh j)) cause.RouteKnown >> (refuse_if (not (is_inner_mark a.marks at)) cause.NoMark
      >> Ok (set_route r.route.name (take at a.course) (marks_to at a.marks) (set_route name (drop at a.course) (marks_from at a.marks) (state_of i))))))
      ∙ ap (λ b. refuse_if (not b) cause.NoMark >> Ok result) is.inner

  few : length i.routes + 1 ≤ most_routes → length written + length kept ≤ most_routes
  few room =
      let a = length-parted (λ (e : RouteRow). list_any (same_name e.route.name) dropped) i.routes in
      let b : length (routes_named dropped i.routes) ≡ 1 = ap length ours in
      omega (arith, a, b, room)

  -- ---- whose ground is whose

  runs_split : (m : Millimetre) → runs_over r.route.course m ≡ (runs_over front.route.course m || runs_over rear.route.course m)
  runs_split m =
      ap (λ c. runs_over c m) (sym (take-append-drop at r.route.course)) ∙ list_any-append (is_at m) (take at r.route.course) (drop at r.route.course)
      ∙ sym (λ j. runs_over (is.front_course j) m || runs_over (is.rear_course j) m)

  -- the rear runs under the new name, and the front as before
  pub moves : (m : Millimetre) → runs_on (rewritten dropped written i.routes) m ≡ cond (runs_over rear.route.course m) (Some name) (runs_on i.routes m)
  moves m =
      moves_ground i dropped written s fit m
      ∙ (λ j. option_or (runs_on written m) (cond (list_any (is_run_by m) (ours j)) None (runs_on i.routes m)))
      ∙ by (cases_Bool (runs_over front.route.course m)) (cases_Bool (runs_over rear.route.course m))
    where
      named : RouteRow → Name
      named e = e.route.name

      said : (f b : Bool) → runs_over front.route.course m ≡ f → runs_over rear.route.course m ≡ b → option_or (runs_on written m) (cond (list_any (is_run_by m) (r ∷ [])) None (runs_on i.routes m))
          ≡ option_or (option_map named (cond f (Some front) (cond b (Some rear) None))) (cond ((f || b) || false) None (runs_on i.routes m))
      said f b ef eb = (λ j. option_or (option_map named (cond (ef j) (Some front) (cond (eb j) (Some rear) None))) (cond ((runs_split m ∙ (λ k. ef k || eb k)) j || false) None (runs_on i.routes m)))

      by : (runs_over front.route.course m ≡ true) ⊎ (runs_over front.route.course m ≡ false) → (runs_over rear.route.course m ≡ true) ⊎ (runs_over rear.route.course m ≡ false)
          → option_or (runs_on written m) (cond (list_any (is_run_by m) (r ∷ [])) None (runs_on i.routes m)) ≡ cond (runs_over rear.route.course m) (Some name) (runs_on i.routes m)
      by (inl f) (inl b) = absurd (both_ways (meets front.route.course rear.route.course) far (meet_at front.route.course rear.route.course m f b))
      by (inl f) (inr b) = said true false f b ∙ ap Some is.front_name ∙ sym (runs_there i r m s is.route (runs_split m ∙ (λ k. f k || b k))) ∙ sym (ap (λ x. cond x (Some name) (runs_on i.routes m)) b)
      by (inr f) (inl b) = said false true f b ∙ ap Some is.rear_name ∙ sym (ap (λ x. cond x (Some name) (runs_on i.routes m)) b)
      by (inr f) (inr b) = said false false f b ∙ sym (ap (λ x. cond x (Some name) (runs_on i.routes m)) b)

  -- the routes are in order before the rear comes
  pub front_order : each_two route_before (rewritten dropped (front ∷ []) i.routes) ≡ true
  front_order = order_stays front r.route.name i.routes is.front_name order

  pub same_state : state_of (with_routes (rewritten dropped written i.routes) i) ≡ record (state_of i) { routes = record { rows = map route_entry (rewritten dropped written i.routes) } }
  same_state = keeps_state i dropped written s fit same

  pub makes : Makes (verb.Split r.route.name at name) i (with_routes (rewritten dropped written i.routes) i)
  makes = record {
    state = attempts ∙ ap Ok (state_rows ∙ sym same_state);
    edits = refl;
    orderly = λ room. orderly i dropped written s fit (few (room.routes refl));
  }

pub split_makes : SplitMakes
split_makes i r front rear at name s is = makes i r front rear at name s is
