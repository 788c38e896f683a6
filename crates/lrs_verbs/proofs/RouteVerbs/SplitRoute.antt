-- A route becomes two.
use Rattle.std.proofs.Common.{◌≡◌, ℕ, true, false, cond, ◌⊎◌, inl, inr, List, [], ◌∷◌, map, filter, take, drop, length, Option, Some, None, Result, Ok, Err, refl, sym, ap, subst, ◌∙◌}
use Rattle.std.specs.List.{find, list_any, cons_option, AllByRecursion}
use Rattle.std.proofs.lemmas.Bool.{false≢true, both_ways, not-true, or_right, cases_Bool}
use Rattle.std.proofs.lemmas.List.{take-append-drop}
use Rattle.std.proofs.lemmas.List.Folds.{list_any-append}
use Rattle.std.specs.Prelude.{◌&&◌, not, is_some, nat_lt, nat_eq, unwrap_or}
use Rattle.std.specs.Option.{option_map, ok_or}
use Rattle.std.specs.Cmp.Lexicographic.{bytes_decides}
use Rattle.lrs_measure.specs.Lists.{In}
use Rattle.lrs_measure.proofs.Members.{any_found, any_of, all_at, two_at, In-map, map_found, In-filter, filter-In}
use Rattle.lrs_measure.proofs.Filters.{filter_alike}
use Rattle.lrs_inventory.specs.Prelude.{each_two, Name, same_name, Piece, Mark, Millimetre, course_of, runs_over, is_too_long, IsFilled, Referent, Alignment, is_route, Cause, Image, RouteRow, state_of, route_entry, State, attempt, ◌>>◌, ◌>>=◌, set_route, contains_key, are_spans_of, route_before, IsSound, Makes, RouteChange, Difference, is_named, changed_refs, fits_after, route_after, entry_after, with_difference, CanDiffer, are_names_of, rerouting}
use Rattle.lrs_element.specs.Course.{is_at}
use Rattle.lrs_element.specs.Marks.{is_inner_mark, marks_to, marks_from}
use Rattle.lrs_element.proofs.LineLemmas.{KeepRules-from_none, ends_at}
use Rattle.lrs_machine.specs.declared.answer.Cause.TheVariants as cause
use Rattle.lrs_machine.specs.declared.command.Command.TheVariants as verb
use Rattle.lrs_machine.specs.Machine.{refuse_if}
use Rattle.lrs_image_sound.proofs.Fitting.{fits}
use Rattle.lrs_image.proofs.Becoming.{HasBecome, becomes}
use Rattle.lrs_image_laws.specs.Differences.{KeepsFromDropped}
use Rattle.lrs_image_laws.specs.Rewrites.{rewritten, with_routes}
use Rattle.lrs_image_laws.specs.Splits.{is_ahead, IsSplit}
use Rattle.lrs_image_laws.proofs.Differences.{difference_rewrites, reroutes}
use Rattle.lrs_image_laws.proofs.Halved.{parts_are_routes, parts_have_rows}
use Rattle.lrs_image_laws.proofs.Naming.{found_in, same_either}
use Rattle.lrs_image_laws.proofs.Renaming.{own_names}
use Rattle.lrs_image_laws.proofs.Rewriting.{are_unlike, old_spans}
use Rattle.lrs_image_laws.proofs.Running.{runs_there}
use Rattle.lrs_image_laws.proofs.Splitting.{split_makes, moves, front_order, same_state}
use Rattle.lrs_verbs.specs.declared.routes.split.Halves.{Halves}
use Rattle.lrs_inventory.specs.Changes.{route_on}
use Rattle.lrs_inventory.proofs.KeptName.{keeps_name}
use Rattle.lrs_inventory.specs.Plans.{IsPlanOf}
use Rattle.lrs_verbs.specs.RouteVerbs.Checks.{split_plan}
use Rattle.lrs_verbs.specs.RouteVerbs.Splits.{is_inside, refs_behind, IsHalved}
use Rattle.lrs_inventory.proofs.Known.{route_value}
use Rattle.lrs_inventory.proofs.KnownRoutes.{knows}
use Rattle.lrs_inventory.proofs.Going.{names_kept}

-- ---- what the verb does

-- inside the course of a route a mark is an inner one
pub inside_is_inner : (r : RouteRow) (at : ℕ) → is_inside (length r.route.course) r.route.marks at ≡ is_inner_mark r.route.marks at
inside_is_inner r at =
    ap (λ n. nat_lt 0 at && nat_lt at n && list_any (λ (m : Mark). nat_eq m.chainage at) r.route.marks) (sym (ends_at (length r.route.course) r.route.marks (KeepRules-from_none (length r.route.course) r.route.marks (fits r).1)))

module _ (route name : Name) (at : ℕ) (i : Image) (n : ℕ) where
  abbrev then_mark : Alignment → Result State Cause
  then_mark a = refuse_if (not (is_inner_mark a.marks at)) cause.NoMark >> Ok (set_route route (take at a.course) (marks_to at a.marks) (set_route name (drop at a.course) (marks_from at a.marks) (state_of i)))

  abbrev then_name : Alignment → Result State Cause
  then_name a = refuse_if (contains_key (state_of i).routes name) cause.RouteKnown >> then_mark a

  attempt_is : (o : Option RouteRow) → find (is_named route) i.routes ≡ o → attempt n (verb.Split route at name) (state_of i) ≡ (ok_or (option_map (λ e. (route_entry e).1) o) cause.NoRoute >>= then_name)
  unfolding attempt
  attempt_is o is = ap (λ g. ok_or g cause.NoRoute >>= then_name) (route_value i route ∙ ap (option_map (λ (e : RouteRow). (route_entry e).1)) is)

  pub refuses_route : find (is_named route) i.routes ≡ None → attempt n (verb.Split route at name) (state_of i) ≡ Err cause.NoRoute
  refuses_route none = attempt_is None none

  module _ (r : RouteRow) (found : find (is_named route) i.routes ≡ Some r) where
    pub refuses_known : contains_key (state_of i).routes name ≡ true → attempt n (verb.Split route at name) (state_of i) ≡ Err cause.RouteKnown
    refuses_known known = attempt_is (Some r) found ∙ ap (λ b. refuse_if b cause.RouteKnown >> then_mark (route_entry r).1) known

    pub refuses_mark : contains_key (state_of i).routes name ≡ false → not (is_inside (length r.route.course) r.route.marks at) ≡ true → attempt n (verb.Split route at name) (state_of i) ≡ Err cause.NoMark
    refuses_mark fresh missing =
        attempt_is (Some r) found ∙ ap (λ b. refuse_if b cause.RouteKnown >> then_mark (route_entry r).1) fresh
        ∙ ap (λ b. refuse_if b cause.NoMark >> Ok (set_route route (take at r.route.course) (marks_to at r.route.marks) (set_route name (drop at r.route.course) (marks_from at r.route.marks) (state_of i))))
        (ap not (sym (inside_is_inner r at)) ∙ missing)

-- ---- referents that are removed by their names

module _ (r : RouteRow) (at : ℕ) where
  abbrev named : Referent → Name
  named q = q.name

  abbrev pub names : List Name
  names = map named (refs_behind at r.route.refs)

  -- a referent of the route goes by its name just where it stands behind
  pub goes_behind : (q : Referent) → In q r.route.refs → not (list_any (same_name q.name) names) ≡ is_ahead at q
  goes_behind q m = by (cases_Bool (is_ahead at q)) (cases_Bool (list_any (same_name q.name) names))
    where
      one : (x : Referent) → In x r.route.refs → same_name q.name x.name ≡ true → q ≡ x
      one x k h = of (two_at are_unlike q x r.route.refs (own_names r) m k)
        where
          of : (q ≡ x) ⊎ ((are_unlike q x ≡ true) ⊎ (are_unlike x q ≡ true)) → q ≡ x
          of (inl e) = e
          of (inr (inl e)) = absurd (both_ways (same_name q.name x.name) (not-true (same_name q.name x.name) e) h)
          of (inr (inr e)) = absurd (both_ways (same_name x.name q.name) (not-true (same_name x.name q.name) e) (same_either x.name q.name ∙ h))

      by : (is_ahead at q ≡ true) ⊎ (is_ahead at q ≡ false) → (list_any (same_name q.name) names ≡ true) ⊎ (list_any (same_name q.name) names ≡ false) → not (list_any (same_name q.name) names) ≡ is_ahead at q
      by (inl a) (inr b) = ap not b ∙ sym a
      by (inr a) (inl b) = ap not b ∙ sym a
      by (inr a) (inr b) = absurd (both_ways (list_any (same_name q.name) names) b
          (any_of (same_name q.name) q.name names (In-map named q (refs_behind at r.route.refs) (filter-In (λ q. not (is_ahead at q)) q r.route.refs m (ap not a))) ((bytes_decides q.name q.name).1 refl)))
      by (inl a) (inl b) =
          let n = any_found (same_name q.name) names b in
          let x = map_found named n.0 (refs_behind at r.route.refs) n.1 in
          let k = In-filter (λ q. not (is_ahead at q)) x.0 r.route.refs x.1 in
          absurd (both_ways (is_ahead at x.0) (not-true (is_ahead at x.0) k.1) (ap (is_ahead at) (sym (one x.0 k.0 (ap (same_name q.name) (sym x.2) ∙ n.2))) ∙ a))

-- ---- The plan of the verb, where the name is new and the mark an inner one.
module _ (route name : Name) (at : ℕ) (i : Image) (r : RouteRow) (h : Halves) (s : IsSound i) (found : find (is_named route) i.routes ≡ Some r) (fresh : contains_key (state_of i).routes name ≡ false)
    (inside : is_inside (length r.route.course) r.route.marks at ≡ true) (is : IsHalved r at name h) where
  abbrev c : RouteChange
  c = h.front

  abbrev front : RouteRow
  front = entry_after c r

  abbrev d : Difference
  d = rerouting (Some c) None (Some h.rear)

  inner : is_inner_mark r.route.marks at ≡ true
  inner = sym (inside_is_inner r at) ∙ inside

  there : In r i.routes
  there = (found_in route r i.routes found).0

  own_name : r.route.name ≡ route
  own_name = (found_in route r i.routes found).1

  short_rear : is_too_long (drop at r.route.course) ≡ false
  short_rear = is.rear_short

  refs_are : changed_refs c.refs r.route.refs ≡ filter (is_ahead at) r.route.refs
  refs_are = (λ j. changed_refs (record { gone = is.refs_gone j; come = is.refs_come j }) r.route.refs) ∙ filter_alike (λ q. not (list_any (same_name q.name) (names r at))) (is_ahead at) r.route.refs (goes_behind r at)

  stays_fit : fits_after c r.route ≡ true
  stays_fit = (λ j. is_route (unwrap_or (is.front_course j) r.route.course) (unwrap_or (is.front_marks j) r.route.marks) (refs_are j)) ∙ (parts_are_routes r.route at inner is.front_short short_rear).1

  become : HasBecome c r.route (route_after c r.route)
  become = becomes c r.route stays_fit

  rows : (are_spans_of i.assets (record { course = take at r.route.course; rows = front.spans }) ≡ true) × (are_spans_of i.assets (record { course = drop at r.route.course; rows = h.rear.spans }) ≡ true)
  rows = parts_have_rows i.assets r.route.course at r.spans front.spans h.rear.spans (parts_are_routes r.route at inner is.front_short short_rear).0 is.front_rows is.rear_rows is.cut
      (all_at (λ (e : RouteRow). are_spans_of i.assets (record { course = e.route.course; rows = e.spans })) r i.routes (old_spans i s) there)

  front_course : front.route.course ≡ take at r.route.course
  front_course = become.course ∙ ap (λ o. unwrap_or o r.route.course) is.front_course

  split : IsSplit i r front h.rear at name
  split = record {
    route = there;
    fresh = sym (knows name i) ∙ fresh;
    inner = inner;
    front_name = become.name ∙ is.front_name;
    front_course = front_course;
    front_marks = become.marks ∙ ap (λ o. unwrap_or o r.route.marks) is.front_marks;
    front_refs = become.refs ∙ refs_are;
    front_spans = ap (λ c. are_spans_of i.assets (record { course = c; rows = front.spans })) front_course ∙ rows.0;
    rear_name = is.rear_name;
    rear_course = is.rear_course;
    rear_marks = is.rear_marks;
    rear_refs = is.rear_refs;
    rear_spans = ap (λ c. are_spans_of i.assets (record { course = c; rows = h.rear.spans })) is.rear_course ∙ rows.1;
    cut = is.cut;
  }

  none_drops : KeepsFromDropped d i.routes
  none_drops w n is e = absurd (cc e)

  named_route : c.route ≡ route
  named_route = is.route ∙ own_name

  found_by : find (is_named c.route) i.routes ≡ Some r
  found_by = ap (λ n. find (is_named n) i.routes) named_route ∙ found

  abbrev new : Image
  new = with_routes (rewritten (r.route.name ∷ []) (front ∷ h.rear ∷ []) i.routes) i

  image_is : with_difference d i ≡ new
  image_is = reroutes (Some c) None (Some h.rear) i s none_drops ∙ (λ j. with_routes (rewritten (is.route j ∷ []) (cons_option (option_map (entry_after c) (found_by j)) (h.rear ∷ [])) i.routes) i)

  changes_so : CanDiffer d i
  changes_so = record {
    route = record { row = r; found = found_by; becomes = record { fits = stays_fit; rows = is.front_rows; gone = is.spans_gone; there = is.spans_there; named = ap (are_names_of r) is.refs_gone ∙ names_kept (λ q. not (is_ahead at q)) r.route.refs; renamed = keeps_name c r (is.route ∙ sym is.front_name) } };
    apart = tt;
    whole = tt;
    names = ap (each_two route_before) (difference_rewrites (rerouting (Some c) None None) i s (λ w n is e. absurd (cc e)) ∙ (λ j. rewritten (is.route j ∷ []) (cons_option (option_map (entry_after c) (found_by j)) []) i.routes))
        ∙ front_order i r front h.rear at name s split;
  }

  pub splits : (passed : List Piece) → course_of passed ≡ h.rear.route.course → AllByRecursion IsFilled passed → IsPlanOf (verb.Split route at name) i (split_plan name h passed)
  splits passed of filled = record {
    makes = subst (λ (j : Image). Makes (verb.Split route at name) i j) (sym image_is) (subst (λ (n : Name). Makes (verb.Split n at name) i new) own_name (split_makes i r front h.rear at name s split));
    differ = changes_so;
    tells = record {
      ground = λ m. ap (λ (j : Image). route_on j.routes m) image_is ∙ moves i r front h.rear at name s split m ∙ (λ j. cond (runs_over (sym of j) m) (Some name) (route_on i.routes m));
      can_ground = record {
        gone_filled = tt;
        passed_filled = filled;
        come_filled = tt;
        gone = λ m on. absurd (false≢true on);
        passed = λ m on. ap is_some (runs_there i r m s there (rear_runs m (ap (λ c. runs_over c m) (sym (of ∙ is.rear_course)) ∙ on)));
        apart = λ m on. refl;
        come = λ m on. absurd (false≢true on);
        once = refl;
      };
      referents = λ n. ap (λ (t : State). t.referents n) (ap state_of image_is ∙ same_state i r front h.rear at name s split);
      new_referent = tt;
    };
  }
    where
      rear_runs : (m : Millimetre) → runs_over (drop at r.route.course) m ≡ true → runs_over r.route.course m ≡ true
      rear_runs m on = ap (λ c. runs_over c m) (sym (take-append-drop at r.route.course)) ∙ list_any-append (is_at m) (take at r.route.course) (drop at r.route.course)
          ∙ or_right (runs_over (take at r.route.course) m) (runs_over (drop at r.route.course) m) on
