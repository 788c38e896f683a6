-- A stretch of a route gets other ground.
use Rattle.std.proofs.Common.{◌≡◌, ℕ, ◌+◌, ◌-◌, ◌≤◌, Bool, true, false, cond, ◌⊎◌, inl, inr, List, [], ◌∷◌, ◌++◌, map, take, drop, length, Option, Some, None, Ok, refl, sym, ap, subst, ◌∙◌}
use Rattle.std.specs.List.{find, list_any, list_all, cons_option}
use Rattle.std.proofs.lemmas.Bool.{false≢true, both_ways, not-true, and_parts, and_from, or_left, or_right, cases_Bool, ltb-true}
use Rattle.std.proofs.lemmas.List.Folds.{list_any-append}
use Rattle.std.specs.Prelude.{◌||◌, ◌&&◌, not, is_some, nat_lt, slice_get, slice_range, unwrap_or}
use Rattle.std.specs.Option.{option_map, option_or}
use Rattle.std.specs.Cmp.Lexicographic.{bytes_decides}
use Rattle.lrs_measure.specs.Lists.{In}
use Rattle.lrs_measure.proofs.Members.{any_found, any_of, all_at, two_at, In-map, map_found, In-filter, filter-In}
use Rattle.lrs_inventory.specs.Prelude.{each_two, Name, same_name, Ground, Piece, Mark, Millimetre, course_of, expand, runs_over, meets, is_run_once, Referent, is_route, is_route_course, have_marks, are_referents, referent_before, differs, is_within, Image, RouteRow, state_of, referent_entry, referents_on, set_route, are_spans_of, route_before, IsSound, State, Makes, RouteChange, Difference, is_named, changed_refs, fits_after, route_after, entry_after, with_difference, CanDiffer, are_names_of, rerouting}
use Rattle.lrs_element.specs.Course.{is_at}
use Rattle.lrs_position.proofs.Index.Pieces.{across, behind}
use Rattle.lrs_events.specs.RouteSpans.Realignment.{IsRealigned}
use Rattle.lrs_machine.specs.declared.command.Command.TheVariants as verb
use Rattle.lrs_machine.specs.Machine.{is_taken, do_realign, abandon}
use Rattle.lrs_image_sound.proofs.Fitting.{fits}
use Rattle.lrs_image.specs.declared.change.ReferentChange.{ReferentChange}
use Rattle.lrs_image.proofs.Becoming.{HasBecome, becomes}
use Rattle.lrs_image.proofs.Tables.{routes_in_order}
use Rattle.lrs_image_laws.specs.Differences.{KeepsFromDropped}
use Rattle.lrs_image_laws.specs.Rewrites.{rewritten, with_routes, AreFit}
use Rattle.lrs_image_laws.specs.RoutesOver.{runs_on, is_run_by}
use Rattle.lrs_image_laws.proofs.Apart.{meet_at}
use Rattle.lrs_image_laws.proofs.Differences.{difference_rewrites, reroutes}
use Rattle.lrs_image_laws.proofs.InOrder.{is_false, none_found}
use Rattle.lrs_image_laws.proofs.Naming.{found_in, only_one}
use Rattle.lrs_image_laws.proofs.Renaming.{own_names}
use Rattle.lrs_image_laws.proofs.Rewriting.{are_unlike, its_course, old_spans, new_order}
use Rattle.lrs_image_laws.proofs.Running.{runs_there, moves_ground}
use Rattle.lrs_image_laws.proofs.Standing.{option_found, found_option}
use Rattle.lrs_image_laws.specs.Closures.{with_left}
use Rattle.lrs_image_laws.specs.Realignments.{replaced, IsTaken, IsRealignment}
use Rattle.lrs_image_laws.proofs.Named.{AreNamed, named_leave}
use Rattle.lrs_image_laws.proofs.Realigning.{realign_makes, realigned_has_rows, fit, same_state, under, is_on, is_clear}
use Rattle.lrs_image_laws.proofs.Replaced.{three_parts, replaced_length}
use Rattle.lrs_verbs.specs.declared.routes.realign.NewLine.{NewLine}
use Rattle.lrs_verbs.specs.declared.routes.realign.Realigned.{Realigned}
use Rattle.lrs_inventory.specs.Changes.{route_on}
use Rattle.lrs_inventory.proofs.KeptName.{keeps_name}
use Rattle.lrs_inventory.specs.Plans.{IsPlanOf}
use Rattle.lrs_verbs.specs.RouteVerbs.Realignments.{check_stretch, new_line, refs_on, referents_moved, realigned_plan, IsOnNewLine}
use Rattle.lrs_image_laws.proofs.FromReferents.{ground_there}
use Rattle.lrs_verbs.proofs.RouteVerbs.MovedReferents as moved
use Rattle.lrs_inventory.proofs.NewCourse.{no_place, fails_at, once, on_links, apart_from, IsMade, made_of, marks_of, good_line, fits_alone}
use Rattle.lrs_inventory.proofs.KnownRoutes.{nothing_taken}
use Rattle.lrs_inventory.proofs.Grounds.{taken_is}
use Rattle.lrs_verbs.proofs.RouteVerbs.RealignChecks.{IsLine, line_is, lies, free_is, writes}
use Rattle.lrs_inventory.proofs.Going.{names_kept}
use Rattle.lrs_image_laws.specs.Splits.{is_ahead}

module _ (route : Name) (from to : ℕ) (given : Option (List Piece)) (marks : List Mark) (i : Image) (r : RouteRow) (l : NewLine) (h : Realigned) (s : IsSound i) (found : find (is_named route) i.routes ≡ Some r)
    (good : check_stretch (length r.route.course) from to (unwrap_or given []) ≡ Ok tt) (made : new_line (state_of i) r.route.course from to (unwrap_or given []) marks ≡ Ok l) (is : IsOnNewLine (length i.edits + 1) r from to l h) where
  abbrev n : ℕ
  n = length i.edits + 1

  abbrev pieces : List Piece
  pieces = unwrap_or given []

  abbrev come : List Ground
  come = course_of pieces

  abbrev old : List Ground
  old = r.route.course

  abbrev new : List Ground
  new = replaced from to come old

  abbrev stretch : List Ground
  stretch = slice_range old from to

  abbrev c : RouteChange
  c = h.change

  abbrev w : RouteRow
  w = entry_after c r

  abbrev d : Difference
  d = record (rerouting (Some c) None None) { gone = h.abandoned }

  there : In r i.routes
  there = (found_in route r i.routes found).0

  own_name : r.route.name ≡ route
  own_name = (found_in route r i.routes found).1

  low : from ≤ to
  low = (lies (length old) from to pieces good).0

  high : to ≤ length old
  high = (lies (length old) from to pieces good).1

  line : IsLine (state_of i) old from to pieces marks l
  line = line_is (state_of i) old from to pieces marks l made

  whole : IsMade i pieces l.come
  whole = made_of i pieces l.come (free_is (state_of i) pieces l.come line.ground).0

  free : (e : RouteRow) → In e i.routes → meets come e.route.course ≡ false
  free e m = apart_from pieces e.route.course (λ p k.
      fails_at (λ g. meets (expand p) g.route.course) e i.routes
      (sym (taken_is i p) ∙ fails_at (λ q. is_taken (state_of i) (expand q)) p pieces (no_place (λ q. is_taken (state_of i) (expand q)) pieces (nothing_taken i pieces (free_is (state_of i) pieces l.come line.ground).1)) k) m)

  new_is : l.course ≡ new
  new_is = line.course ∙ ap (λ g. replaced from to g old) (sym whole.course)

  marked : marks ≡ l.marks
  marked = sym (marks_of (length l.course) marks l.marks line.marked).1

  -- ---- what the route becomes

  refs_moved : c.refs ≡ referents_moved from to (length come) r.route.refs
  refs_moved = subst (λ (g : List Ground). c.refs ≡ referents_moved from to (length g) r.route.refs) (sym whole.course) is.refs

  size_is : length new ≡ (from + length come) + (length old - to)
  size_is = replaced_length old from to low high come

  refs_fit : are_referents (length l.course) (changed_refs c.refs r.route.refs) ≡ true
  refs_fit = (λ j. are_referents (length (new_is j)) (changed_refs (refs_moved j) r.route.refs)) ∙ moved.fit r from to (length come) (length new) low high size_is

  alone : (is_route_course l.course && have_marks l.course l.marks) ≡ true
  alone = (and_parts (is_route_course l.course && have_marks l.course l.marks) (are_referents (length l.course) []) (fits_alone l.course l.marks is.short (good_line (length l.course) marks l.marks line.marked))).0

  stays_fit : fits_after c r.route ≡ true
  stays_fit = (λ j. is_route (unwrap_or (is.course j) old) (unwrap_or (is.marks j) r.route.marks) (changed_refs c.refs r.route.refs))
      ∙ and_from (is_route_course l.course && have_marks l.course l.marks) (are_referents (length l.course) (changed_refs c.refs r.route.refs)) alone refs_fit

  become : HasBecome c r.route (route_after c r.route)
  become = becomes c r.route stays_fit

  course_now : w.route.course ≡ new
  course_now = become.course ∙ ap (λ o. unwrap_or o old) is.course ∙ new_is

  marks_now : w.route.marks ≡ marks
  marks_now = become.marks ∙ ap (λ o. unwrap_or o r.route.marks) is.marks ∙ sym marked

  refs_now : w.route.refs ≡ moved.after r from to (length come) (length new) low high size_is
  refs_now = become.refs ∙ ap (λ (x : ReferentChange). changed_refs x r.route.refs) refs_moved ∙ moved.changed r from to (length come) (length new) low high size_is

  rows_now : IsRealigned from to (length come) r.spans w.spans
  rows_now = subst (λ (g : List Ground). IsRealigned from to (length g) r.spans w.spans) (sym whole.course) is.realigned

  done : do_realign n route (record { from = from; to = to }) pieces marks (state_of i) ≡ Ok (set_route route l.course l.marks (abandon n stretch (state_of i)))
  unfolding Rattle.lrs_machine.specs.Machine.attempt
  done = writes route from to given marks i n r found good l made

  realignment : IsRealignment i r w from to pieces marks
  realignment = record {
    route = there;
    low = low;
    high = high;
    linked = on_links i.links pieces whole.good;
    once = once [] pieces refl whole.repeated;
    free = free;
    name = become.name ∙ is.name;
    course = course_now;
    marks_are = marks_now;
    refs_of = λ q m. moved.refs_of r from to (length come) (length new) low high size_is q (subst (In q) refs_now m);
    refs_are = λ x m off. subst (In (Rattle.lrs_image_laws.specs.Realignments.moved from to (length come) x)) (sym refs_now) (moved.refs_are r from to (length come) (length new) low high size_is x m off);
    spans = ap (λ g. are_spans_of i.assets (record { course = g; rows = w.spans })) course_now
        ∙ realigned_has_rows i.assets old come from to r.spans w.spans low high is.rows rows_now (all_at (λ (e : RouteRow). are_spans_of i.assets (record { course = e.route.course; rows = e.spans })) r i.routes (old_spans i s) there);
    realigned = rows_now;
    done = (λ j. do_realign n (own_name j) (record { from = from; to = to }) pieces marks (state_of i)) ∙ done ∙ (λ j. Ok (set_route (sym own_name j) (new_is j) (sym marked j) (abandon n stretch (state_of i))));
  }

  taken : IsTaken i r from to h.abandoned
  taken = record { rows = is.left; taken = is.left_are; gone_are = is.abandoned }

  -- ---- the image

  abbrev dropped : List Name
  dropped = r.route.name ∷ []

  abbrev image : Image
  image = with_left dropped (w ∷ []) h.abandoned i

  none_drops : KeepsFromDropped (rerouting (Some c) None None) i.routes
  none_drops v m e k = absurd (cc k)

  found_by : find (is_named c.route) i.routes ≡ Some r
  found_by = ap (λ m. find (is_named m) i.routes) (is.route ∙ own_name) ∙ found

  image_is : with_difference d i ≡ image
  image_is = ap (λ (j : Image). let k : Image = record j { gone = i.gone ++ h.abandoned } in k)
      (reroutes (Some c) None None i s none_drops ∙ (λ j. with_routes (rewritten (is.route j ∷ []) (cons_option (option_map (entry_after c) (found_by j)) []) i.routes) i))

  fits_in : AreFit i dropped (w ∷ [])
  fits_in = fit i r w from to pieces marks h.abandoned s realignment taken

  differs_so : CanDiffer d i
  differs_so = record {
    route = record { row = r; found = found_by; becomes = record { fits = stays_fit; rows = is.rows; gone = is.spans_gone; there = is.spans_there; named = ap (λ (refs : ReferentChange). are_names_of r refs.gone) is.refs ∙ names_kept (λ q. not (is_ahead from q)) r.route.refs; renamed = keeps_name c r (is.route ∙ sym is.name) } };
    apart = tt;
    whole = tt;
    names = ap (each_two route_before) (difference_rewrites (rerouting (Some c) None None) i s none_drops ∙ (λ j. rewritten (is.route j ∷ []) (cons_option (option_map (entry_after c) (found_by j)) []) i.routes))
        ∙ new_order i dropped (w ∷ []) s fits_in;
  }

  -- ---- whose ground is whose

  abbrev before : List Ground
  before = take from old

  abbrev after : List Ground
  after = drop to old

  parts_once : each_two differs (before ++ (stretch ++ after)) ≡ true
  parts_once = ap (each_two differs) (three_parts old from to low high) ∙ (its_course i s r there).1

  old_runs : (m : Millimetre) → runs_over old m ≡ (runs_over before m || (runs_over stretch m || runs_over after m))
  old_runs m = ap (λ g. runs_over g m) (sym (three_parts old from to low high)) ∙ list_any-append (is_at m) before (stretch ++ after) ∙ ap (λ b. runs_over before m || b) (list_any-append (is_at m) stretch after)

  new_runs : (m : Millimetre) → runs_over w.route.course m ≡ ((runs_over before m || runs_over come m) || runs_over after m)
  new_runs m = ap (λ g. runs_over g m) course_now ∙ list_any-append (is_at m) (before ++ come) after ∙ ap (λ b. b || runs_over after m) (list_any-append (is_at m) before come)

  stretch_runs : (m : Millimetre) → runs_over stretch m ≡ true → runs_over old m ≡ true
  stretch_runs m on = old_runs m ∙ or_right (runs_over before m) (runs_over stretch m || runs_over after m) (or_left (runs_over stretch m) (runs_over after m) on)

  none_there : (m : Millimetre) → runs_over come m ≡ true → route_on i.routes m ≡ None
  none_there m on = ap (option_map (λ (e : RouteRow). e.route.name)) (none_found (λ e. runs_over e.route.course m) i.routes (is_false (list_any (λ e. runs_over e.route.course m) i.routes) (λ t.
      let e = any_found (λ e. runs_over e.route.course m) i.routes t in
      both_ways (meets come e.0.route.course) (free e.0 e.1) (meet_at come e.0.route.course m on e.2))))

  now_on : (m : Millimetre) → runs_on image.routes m ≡ cond (runs_over come m || false) (Some route) (cond (runs_over stretch m) None (route_on i.routes m))
  now_on m =
      moves_ground i dropped (w ∷ []) s fits_in m
      ∙ (λ j. option_or (runs_on (w ∷ []) m) (cond (list_any (is_run_by m) (only_one r i.routes (routes_in_order i s) there j)) None (route_on i.routes m)))
      ∙ by (cases_Bool (runs_over come m)) (cases_Bool (runs_over before m)) (cases_Bool (runs_over after m)) (cases_Bool (runs_over stretch m))
    where
      named : RouteRow → Name
      named e = e.route.name

      its_name : w.route.name ≡ route
      its_name = become.name ∙ is.name ∙ own_name

      said : (g f a t : Bool) → runs_over come m ≡ g → runs_over before m ≡ f → runs_over after m ≡ a → runs_over stretch m ≡ t
          → option_or (runs_on (w ∷ []) m) (cond (list_any (is_run_by m) (r ∷ [])) None (route_on i.routes m))
          ≡ option_or (option_map named (cond ((f || g) || a) (Some w) None)) (cond ((f || (t || a)) || false) None (route_on i.routes m))
      said g f a t eg ef ea et = (λ j. option_or (option_map named (cond ((new_runs m ∙ (λ k. (ef k || eg k) || ea k)) j) (Some w) None)) (cond ((old_runs m ∙ (λ k. ef k || (et k || ea k))) j || false) None (route_on i.routes m)))

      meant : (g t : Bool) → runs_over come m ≡ g → runs_over stretch m ≡ t → cond (g || false) (Some route) (cond t None (route_on i.routes m)) ≡ cond (runs_over come m || false) (Some route) (cond (runs_over stretch m) None (route_on i.routes m))
      meant g t eg et = λ j. cond (sym eg j || false) (Some route) (cond (sym et j) None (route_on i.routes m))

      still : runs_over old m ≡ true → route_on i.routes m ≡ Some route
      still on = runs_there i r m s there on ∙ ap Some own_name

      by : (runs_over come m ≡ true) ⊎ (runs_over come m ≡ false) → (runs_over before m ≡ true) ⊎ (runs_over before m ≡ false) → (runs_over after m ≡ true) ⊎ (runs_over after m ≡ false)
          → (runs_over stretch m ≡ true) ⊎ (runs_over stretch m ≡ false)
          → option_or (runs_on (w ∷ []) m) (cond (list_any (is_run_by m) (r ∷ [])) None (route_on i.routes m)) ≡ cond (runs_over come m || false) (Some route) (cond (runs_over stretch m) None (route_on i.routes m))
      by (inl g) (inl f) (inl a) (inl t) = said true true true true g f a t ∙ ap Some its_name ∙ meant true true g t
      by (inl g) (inl f) (inl a) (inr t) = said true true true false g f a t ∙ ap Some its_name ∙ meant true false g t
      by (inl g) (inl f) (inr a) (inl t) = said true true false true g f a t ∙ ap Some its_name ∙ meant true true g t
      by (inl g) (inl f) (inr a) (inr t) = said true true false false g f a t ∙ ap Some its_name ∙ meant true false g t
      by (inl g) (inr f) (inl a) (inl t) = said true false true true g f a t ∙ ap Some its_name ∙ meant true true g t
      by (inl g) (inr f) (inl a) (inr t) = said true false true false g f a t ∙ ap Some its_name ∙ meant true false g t
      by (inl g) (inr f) (inr a) (inl t) = said true false false true g f a t ∙ ap Some its_name ∙ meant true true g t
      by (inl g) (inr f) (inr a) (inr t) = said true false false false g f a t ∙ ap Some its_name ∙ meant true false g t
      by (inr g) (inl f) a (inl t) = absurd (across m before (stretch ++ after) parts_once f (list_any-append (is_at m) stretch after ∙ or_left (runs_over stretch m) (runs_over after m) t))
      by (inr g) f (inl a) (inl t) = absurd (across m stretch after (behind before (stretch ++ after) parts_once) t a)
      by (inr g) (inl f) (inl a) (inr t) = said false true true false g f a t ∙ ap Some its_name ∙ sym (still (old_runs m ∙ or_left (runs_over before m) (runs_over stretch m || runs_over after m) f)) ∙ meant false false g t
      by (inr g) (inl f) (inr a) (inr t) = said false true false false g f a t ∙ ap Some its_name ∙ sym (still (old_runs m ∙ or_left (runs_over before m) (runs_over stretch m || runs_over after m) f)) ∙ meant false false g t
      by (inr g) (inr f) (inl a) (inr t) = said false false true false g f a t ∙ ap Some its_name
          ∙ sym (still (old_runs m ∙ or_right (runs_over before m) (runs_over stretch m || runs_over after m) (or_right (runs_over stretch m) (runs_over after m) a))) ∙ meant false false g t
      by (inr g) (inr f) (inr a) (inl t) = said false false false true g f a t ∙ meant false true g t
      by (inr g) (inr f) (inr a) (inr t) = said false false false false g f a t ∙ meant false false g t

  -- ---- referents on the stretch, by their names

  abbrev named_on : List Name
  named_on = map (λ (q : Referent). q.name) (refs_on from to r.route.refs)

  within : Referent → Bool
  within q = is_within from to q.at

  one_name : (x y : Referent) → In x r.route.refs → In y r.route.refs → same_name x.name y.name ≡ true → x ≡ y
  one_name x y m k e = of (two_at are_unlike x y r.route.refs (own_names r) m k)
    where
      of : (x ≡ y) ⊎ ((are_unlike x y ≡ true) ⊎ (are_unlike y x ≡ true)) → x ≡ y
      of (inl same) = same
      of (inr (inl u)) = absurd (both_ways (same_name x.name y.name) (not-true (same_name x.name y.name) u) e)
      of (inr (inr u)) = absurd (both_ways (same_name y.name x.name) (not-true (same_name y.name x.name) u) ((bytes_decides y.name x.name).1 (sym ((bytes_decides x.name y.name).0 e))))

  are_named : AreNamed r stretch named_on
  are_named = record { theirs = stretch_runs; there = stands_there; known = known }
    where
      of : (x : Referent) (g : Ground) → In x r.route.refs → slice_get old x.at ≡ Some g → (is_within from to x.at ≡ true) ⊎ (is_within from to x.at ≡ false) → list_any (same_name x.name) named_on ≡ runs_over stretch (g.link, g.mm)
      of x g k at (inl on) =
          any_of (same_name x.name) x.name named_on (In-map (λ (q : Referent). q.name) x (refs_on from to r.route.refs) (filter-In (λ q. is_within from to q.at) x r.route.refs k on)) ((bytes_decides x.name x.name).1 refl)
          ∙ sym (is_on i r w from to pieces marks h.abandoned s realignment taken x g (ap not on) at)
      of x g k at (inr off) =
          is_false (list_any (same_name x.name) named_on) (λ t.
          let m = any_found (same_name x.name) named_on t in
          let y = map_found (λ (q : Referent). q.name) m.0 (refs_on from to r.route.refs) m.1 in
          let f = In-filter (λ q. is_within from to q.at) y.0 r.route.refs y.1 in
          both_ways (is_within from to x.at) off (ap (λ (q : Referent). is_within from to q.at) (one_name x y.0 k f.0 (ap (same_name x.name) (sym y.2) ∙ m.2)) ∙ f.1))
          ∙ sym (is_clear i r w from to pieces marks h.abandoned s realignment taken x g (ap not off) at)

      stands_there : (q : Name × Millimetre) → In q (referents_on r) → list_any (same_name q.0) named_on ≡ runs_over stretch q.1
      stands_there q m =
          let x = option_found (referent_entry old) q r.route.refs m in
          let g = under i r w from to pieces marks h.abandoned s realignment taken x.0 q x.2 in
          ap (λ (e : Name × Millimetre). list_any (same_name e.0) named_on) g.2 ∙ of x.0 g.0 x.1 g.1 (cases_Bool (is_within from to x.0.at)) ∙ sym (ap (λ (e : Name × Millimetre). runs_over stretch e.1) g.2)

      inside : list_all (λ q. nat_lt q.at (length old)) r.route.refs ≡ true
      inside = (and_parts (each_two referent_before r.route.refs) (list_all (λ (q : Referent). nat_lt q.at (length old)) r.route.refs) (fits r).2).1

      known : (name : Name) → list_any (same_name name) named_on ≡ true → (x : Millimetre) × In (name, x) (referents_on r)
      known name t =
          let m = any_found (same_name name) named_on t in
          let y = map_found (λ (q : Referent). q.name) m.0 (refs_on from to r.route.refs) m.1 in
          let f = In-filter (λ q. is_within from to q.at) y.0 r.route.refs y.1 in
          let g = ground_there old y.0.at (ltb-true y.0.at (length old) (all_at (λ (q : Referent). nat_lt q.at (length old)) y.0 r.route.refs inside f.0)) in
          let same : y.0.name ≡ name = sym ((bytes_decides name m.0).0 m.2 ∙ y.2) in (
            (g.0.link, g.0.mm),
            found_option (referent_entry old) y.0 (name, (g.0.link, g.0.mm)) r.route.refs f.0
                (ap (λ o. option_map (λ m. (y.0.name, m)) (option_map (λ (g : Ground). (g.link, g.mm)) o)) g.1 ∙ ap (λ m. Some (m, (g.0.link, g.0.mm))) same),
          )

  stands : (name : Name) → (state_of image).referents name ≡ cond (list_any (same_name name) h.names) None ((state_of i).referents name)
  stands name =
      ap (λ (t : State). t.referents name) (same_state i r w from to pieces marks h.abandoned s realignment taken)
      ∙ named_leave i r stretch named_on s there are_named name
      ∙ (λ j. cond (list_any (same_name name) (sym is.names j)) None ((state_of i).referents name))

  -- ---- The plan of the verb.

  pub realigns : IsPlanOf (verb.Realign route from to given marks) i (realigned_plan route h)
  realigns = record {
    makes = subst (λ (j : Image). Makes (verb.Realign route from to given marks) i j) (sym image_is)
        (subst (λ (m : Name). Makes (verb.Realign m from to given marks) i image) own_name (realign_makes i r w from to given marks h.abandoned s realignment taken));
    differ = differs_so;
    tells = record {
      ground = λ m. ap (λ (j : Image). route_on j.routes m) image_is ∙ now_on m
          ∙ (λ j. cond (runs_over ((whole.course ∙ sym is.come) j) m || false) (Some route) (cond (runs_over (sym is.freed j) m) None (route_on i.routes m)));
      can_ground = record {
        gone_filled = is.freed_filled;
        passed_filled = tt;
        come_filled = is.come_filled;
        gone = λ m on. ap is_some (runs_there i r m s there (stretch_runs m (ap (λ g. runs_over g m) (sym is.freed) ∙ on)));
        passed = λ m on. absurd (false≢true on);
        apart = λ m on. absurd (false≢true on);
        come = λ m on. none_there m (ap (λ g. runs_over g m) (whole.course ∙ sym is.come) ∙ on);
        once = ap is_run_once (is.come ∙ sym whole.course) ∙ once [] pieces refl whole.repeated;
      };
      referents = λ name. ap (λ (j : Image). (state_of j).referents name) image_is ∙ stands name;
      new_referent = tt;
    };
  }
