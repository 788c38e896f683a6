-- A join.
use Rattle.std.proofs.Common.{◌≡◌, ℕ, zero, suc, ◌+◌, ◌<◌, ◌≤◌, Bool, true, false, cond, ◌⊎◌, inl, inr, List, [], ◌∷◌, ◌++◌, map, filter, length, Option, Some, None, Ok, refl, sym, ap, subst, ◌∙◌, arith}
use Rattle.std.proofs.Math.Bool.{or-false}
use Rattle.std.specs.Prelude.{◌||◌, not, nat_lt, nat_eq, slice_get}
use Rattle.std.specs.Option.{option_map, option_or}
use Rattle.std.specs.List.{list_any, list_all, flat_map, filter_map}
use Rattle.std.specs.Cmp as cmp
use Rattle.std.specs.Cmp.Lexicographic.{bytes_decides}
use Rattle.std.proofs.lemmas.Bool.{both_ways, not-true, and_parts, and_from, or_left, or_right, or_cases, ltb-true, eq-eqb, cases_Bool}
use Rattle.std.proofs.lemmas.List.{append-nil}
use Rattle.std.proofs.lemmas.List.Folds.{list_all-append, list_any-append}
use Rattle.lrs_measure.specs.Lists.{In, each_two}
use Rattle.lrs_measure.specs.OrderedLists.{insert_by}
use Rattle.lrs_measure.specs.Texts.{Name, name_cmp, same_name}
use Rattle.lrs_element.specs.declared.link.Ground.{Ground}
use Rattle.lrs_element.specs.Course.{Millimetre, is_at, runs_over, meets}
use Rattle.lrs_element.specs.Marks.{joined_marks}
use Rattle.lrs_position.specs.declared.route.Referent.{Referent}
use Rattle.lrs_position.specs.Routes.{referent_before}
use Rattle.lrs_position.specs.Locations.{Alignment}
use Rattle.lrs_events.specs.Places.{differs}
use Rattle.lrs_events.specs.Spans.{holds_by_spans}
use Rattle.lrs_machine.specs.declared.command.Command.TheVariants as verb
use Rattle.lrs_machine.specs.declared.image.RouteRow.{RouteRow}
use Rattle.lrs_machine.specs.declared.image.Image.{Image}
use Rattle.lrs_measure.specs.Limits.{most_routes}
use Rattle.lrs_measure.proofs.Members.{any_found, any_of, all_at, two_at, In-flat_map, flat_map_found, map_found, In-append_cases, In-filter, filter-In}
use Rattle.lrs_measure.proofs.EachTwo.{joined}
use Rattle.lrs_machine.specs.Register.{put}
use Rattle.lrs_machine.specs.State.{State}
use Rattle.lrs_machine.specs.Image.{state_of, holds_on, referents_on, referent_entry, route_entry}
use Rattle.lrs_machine.specs.Machine.{attempt, set_route, drop_route}
use Rattle.lrs_machine.specs.Sound.{is_on_a_link, are_spans_of, route_before, IsSound}
use Rattle.lrs_image_laws.specs.CommandChanges.{Makes}
use Rattle.lrs_image_sound.proofs.Fitting.{fits}
use Rattle.lrs_image.proofs.Tables.{routes_in_order}
use Rattle.lrs_image_laws.specs.Rewrites.{routes_named, routes_left, rewritten, with_routes, has_referent, runs_at, IsLeft, AreFit}
use Rattle.lrs_image_laws.specs.SameGround.{SayTheSame}
use Rattle.lrs_image_laws.specs.RoutesOver.{runs_on, is_run_by}
use Rattle.lrs_image_laws.specs.Joins.{on_by, IsJoined, JoinMakes}
use Rattle.lrs_image_laws.proofs.Apart.{apart_too}
use Rattle.lrs_image_laws.proofs.Differences.{two_left}
use Rattle.lrs_image_laws.proofs.InOrder.{is_false}
use Rattle.lrs_image_laws.proofs.Listed.{length-parted}
use Rattle.lrs_image_laws.proofs.Naming.{same_either, earlier_name, later_name, removed, put_rewrites, left_in_order, without_one}
use Rattle.lrs_image_laws.proofs.Parted.{join_rows_hold}
use Rattle.lrs_image_laws.proofs.Renaming.{own_names}
use Rattle.lrs_image_laws.proofs.Rewriting.{are_far, are_unlike, its_course, old_far, old_few, orderly}
use Rattle.lrs_image_laws.proofs.Running.{moves_ground, runs_there}
use Rattle.lrs_image_laws.proofs.Standing.{option_found, found_option, keeps_state}

-- an entry of the first of two lists, or of the second
pub get_first : {X : Type 0} (k : ℕ) (xs ys : List X) → k < length xs → slice_get (xs ++ ys) k ≡ slice_get xs k
get_first k [] ys h = absurd (omega (arith, h))
get_first zero (x ∷ xs) ys h = refl
get_first (suc k) (x ∷ xs) ys h = get_first k xs ys (omega (arith, h))

pub get_last : {X : Type 0} (k : ℕ) (xs ys : List X) → slice_get (xs ++ ys) (length xs + k) ≡ slice_get ys k
get_last k [] ys = ap (slice_get ys) (omega arith)
get_last k (x ∷ xs) ys = ap (slice_get (x ∷ (xs ++ ys))) next ∙ get_last k xs ys
  where
    next : length (x ∷ xs) + k ≡ suc (length xs + k)
    next = omega arith

-- a name is of one route
pub one_named : (routes : List RouteRow) (d a : RouteRow) → each_two route_before routes ≡ true → In d routes → In a routes → same_name d.route.name a.route.name ≡ true → d ≡ a
one_named routes d a order m n h = by (two_at route_before d a routes order m n)
  where
    by : (d ≡ a) ⊎ ((route_before d a ≡ true) ⊎ (route_before a d ≡ true)) → d ≡ a
    by (inl e) = e
    by (inr (inl e)) = absurd (both_ways (same_name d.route.name a.route.name) (earlier_name d.route.name a.route.name e) h)
    by (inr (inr e)) = absurd (both_ways (same_name d.route.name a.route.name) (later_name a.route.name d.route.name e) h)

-- routes of two names have no ground in common
pub far_routes : (i : Image) (a b : RouteRow) → IsSound i → In a i.routes → In b i.routes → same_name a.route.name b.route.name ≡ false → meets a.route.course b.route.course ≡ false
far_routes i a b s m n h = by (two_at are_far a b i.routes (old_far i s) m n)
  where
    by : (a ≡ b) ⊎ ((are_far a b ≡ true) ⊎ (are_far b a ≡ true)) → meets a.route.course b.route.course ≡ false
    by (inl e) = absurd (both_ways (same_name a.route.name b.route.name) h ((bytes_decides a.route.name b.route.name).1 (ap (λ (w : RouteRow). w.route.name) e)))
    by (inr (inl e)) = not-true (meets a.route.course b.route.course) e
    by (inr (inr e)) = apart_too b.route.course a.route.course (not-true (meets b.route.course a.route.course) e)

module _ (i : Image) (a b w : RouteRow) (s : IsSound i) (is : IsJoined i a b w) where
  abbrev dropped : List Name
  dropped = a.route.name ∷ b.route.name ∷ []

  abbrev written : List RouteRow
  written = w ∷ []

  abbrev those : List RouteRow
  those = routes_named dropped i.routes

  order : each_two route_before i.routes ≡ true
  order = routes_in_order i s

  a_there : In a those
  a_there = filter-In (λ (e : RouteRow). list_any (same_name e.route.name) dropped) a i.routes is.first (or_left (same_name a.route.name a.route.name) (same_name a.route.name b.route.name || false) ((bytes_decides a.route.name a.route.name).1 refl))

  b_there : In b those
  b_there = filter-In (λ (e : RouteRow). list_any (same_name e.route.name) dropped) b i.routes is.second
      (or_right (same_name b.route.name a.route.name) (same_name b.route.name b.route.name || false) (or_left (same_name b.route.name b.route.name) false ((bytes_decides b.route.name b.route.name).1 refl)))

  either : (d : RouteRow) → In d those → (d ≡ a) ⊎ (d ≡ b)
  either d m = let k = In-filter (λ (e : RouteRow). list_any (same_name e.route.name) dropped) d i.routes m in by k.0 (or_cases (same_name d.route.name a.route.name) (same_name d.route.name b.route.name || false) k.1)
    where
      by : In d i.routes → (same_name d.route.name a.route.name ≡ true) ⊎ ((same_name d.route.name b.route.name || false) ≡ true) → (d ≡ a) ⊎ (d ≡ b)
      by k (inl e) = inl (one_named i.routes d a order k is.first e)
      by k (inr e) = inr (one_named i.routes d b order k is.second (sym (or-false (same_name d.route.name b.route.name)) ∙ e))

  told_both : (told : RouteRow → Bool) → list_any told those ≡ (told a || told b)
  told_both told = cmp.both_ways (list_any told those) (told a || told b) into (λ h. from (or_cases (told a) (told b) h))
    where
      from : (told a ≡ true) ⊎ (told b ≡ true) → list_any told those ≡ true
      from (inl e) = any_of told a those a_there e
      from (inr e) = any_of told b those b_there e

      of : (d : RouteRow) → told d ≡ true → (d ≡ a) ⊎ (d ≡ b) → (told a || told b) ≡ true
      of d h (inl e) = or_left (told a) (told b) (ap told (sym e) ∙ h)
      of d h (inr e) = or_right (told a) (told b) (ap told (sym e) ∙ h)

      into : list_any told those ≡ true → (told a || told b) ≡ true
      into h = let d = any_found told those h in of d.0 d.2 (either d.0 d.1)

  left_a : (told : RouteRow → Bool) → told a ≡ true → IsLeft told dropped i.routes
  left_a told h = inl (any_of told a those a_there h)

  left_b : (told : RouteRow → Bool) → told b ≡ true → IsLeft told dropped i.routes
  left_b told h = inl (any_of told b those b_there h)

  only : (P : RouteRow → Type 0) → P w → (v : RouteRow) → In v written → P v
  only P k v (inl e) = subst P (sym e) k
  only P k v (inr e) = absurd e

  course_a : (list_all (is_on_a_link i.links) a.route.course ≡ true) × (each_two differs a.route.course ≡ true)
  course_a = its_course i s a is.first

  course_b : (list_all (is_on_a_link i.links) b.route.course ≡ true) × (each_two differs b.route.course ≡ true)
  course_b = its_course i s b is.second

  differs_there : (g h : Ground) → In g a.route.course → In h b.route.course → differs g h ≡ true
  differs_there g h m k = ap not (is_false (is_at (g.link, g.mm) h) (λ e.
      both_ways (meets a.route.course b.route.course) (far_routes i a b s is.first is.second is.different)
      (any_of (λ (g : Ground). runs_over b.route.course (g.link, g.mm)) g a.route.course m (any_of (is_at (g.link, g.mm)) h b.route.course k e))))

  runs_at_own : (g : Ground) (d : List Ground) → In g d → runs_over d (g.link, g.mm) ≡ true
  runs_at_own g d m = any_of (is_at (g.link, g.mm)) g d m (and_from (nat_eq g.link g.link) (nat_eq g.mm g.mm) (eq-eqb g.link g.link refl) (eq-eqb g.mm g.mm refl))

  ground_left : (g : Ground) → In g a.route.course ⊎ In g b.route.course → IsLeft (runs_at g) dropped i.routes
  ground_left g (inl m) = left_a (runs_at g) (runs_at_own g a.route.course m)
  ground_left g (inr m) = left_b (runs_at g) (runs_at_own g b.route.course m)

  ref_left : (q : Referent) → In q a.route.refs ⊎ In q (map (on_by (length a.route.course)) b.route.refs) → IsLeft (has_referent q.name) dropped i.routes
  ref_left q (inl m) = left_a (has_referent q.name) (any_of (λ (r : Referent). same_name r.name q.name) q a.route.refs m ((bytes_decides q.name q.name).1 refl))
  ref_left q (inr m) =
      let x = map_found (on_by (length a.route.course)) q b.route.refs m in
      left_b (has_referent q.name) (any_of (λ (r : Referent). same_name r.name q.name) x.0 b.route.refs x.1 ((bytes_decides x.0.name q.name).1 (sym (ap (λ (w : Referent). w.name) x.2))))

  fit : AreFit i dropped written
  fit = record {
    fresh = λ v e m k h. only (λ v. same_name v.route.name e.route.name ≡ true → list_any (same_name e.route.name) dropped ≡ true)
        (λ h. or_left (same_name e.route.name a.route.name) (same_name e.route.name b.route.name || false) (same_either e.route.name a.route.name ∙ ((λ j. same_name (sym is.name j) e.route.name) ∙ h))) v m h;
    names = refl;
    linked = only (λ v. list_all (is_on_a_link i.links) v.route.course ≡ true) (ap (list_all (is_on_a_link i.links)) is.course ∙ list_all-append (is_on_a_link i.links) a.route.course b.route.course
        ∙ and_from (list_all (is_on_a_link i.links) a.route.course) (list_all (is_on_a_link i.links) b.route.course) course_a.0 course_b.0);
    once = only (λ v. each_two differs v.route.course ≡ true) (ap (each_two differs) is.course ∙ joined differs a.route.course b.route.course course_a.1 course_b.1 differs_there);
    apart = refl;
    ground = λ v g m k. only (λ v. In g v.route.course → IsLeft (runs_at g) dropped i.routes) (λ k. ground_left g (In-append_cases g a.route.course b.route.course (subst (In g) is.course k))) v m k;
    referents = λ v q m k. only (λ v. In q v.route.refs → IsLeft (has_referent q.name) dropped i.routes) (λ k. ref_left q (is.refs_of q k)) v m k;
    referents_once = ap (each_two are_unlike) (append-nil w.route.refs) ∙ own_names w;
    spans = only (λ v. are_spans_of i.assets (record { course = v.route.course; rows = v.spans }) ≡ true) is.spans;
  }

  -- ---- it says the same

  abbrev whole : List Ground
  whole = a.route.course ++ b.route.course

  abbrev stands : Referent → Option Ground → Option (Name × Millimetre)
  stands q o = option_map (λ m. (q.name, m)) (option_map (λ (g : Ground). (g.link, g.mm)) o)

  on_course : (q : Referent) → In q a.route.refs → q.at < length a.route.course
  on_course q m = ltb-true q.at (length a.route.course) (all_at (λ (r : Referent). nat_lt r.at (length a.route.course)) q a.route.refs
      (and_parts (each_two referent_before a.route.refs) (list_all (λ (r : Referent). nat_lt r.at (length a.route.course)) a.route.refs) (fits a).2).1 m)

  front_same : (q : Referent) → In q a.route.refs → referent_entry whole q ≡ referent_entry a.route.course q
  front_same q m = ap (stands q) (get_first q.at a.route.course b.route.course (on_course q m))

  rear_same : (q : Referent) → referent_entry whole (on_by (length a.route.course) q) ≡ referent_entry b.route.course q
  rear_same q = ap (stands q) (get_last q.at a.route.course b.route.course)

  on_w : referents_on w ≡ filter_map (referent_entry whole) w.route.refs
  on_w = λ j. filter_map (referent_entry (is.course j)) w.route.refs

  to : (e : Name × Millimetre) → In e (flat_map referents_on written) → In e (flat_map referents_on those)
  to e m = let v = flat_map_found referents_on e written m in only (λ v. In e (referents_on v) → In e (flat_map referents_on those)) of v.0 v.1 v.2
    where
      by : (x : Referent) → referent_entry whole x ≡ Some e → In x a.route.refs ⊎ In x (map (on_by (length a.route.course)) b.route.refs) → In e (flat_map referents_on those)
      by x h (inl k) = In-flat_map referents_on a e those a_there (found_option (referent_entry a.route.course) x e a.route.refs k (sym (front_same x k) ∙ h))
      by x h (inr k) =
          let y = map_found (on_by (length a.route.course)) x b.route.refs k in
          In-flat_map referents_on b e those b_there (found_option (referent_entry b.route.course) y.0 e b.route.refs y.1 (sym (rear_same y.0) ∙ ap (referent_entry whole) (sym y.2) ∙ h))

      of : In e (referents_on w) → In e (flat_map referents_on those)
      of k = let x = option_found (referent_entry whole) e w.route.refs (subst (In e) on_w k) in by x.0 x.2 (is.refs_of x.0 x.1)

  back : (e : Name × Millimetre) → In e (flat_map referents_on those) → In e (flat_map referents_on written)
  back e m = let d = flat_map_found referents_on e those m in by d.0 d.2 (either d.0 d.1)
    where
      into : (x : Referent) → In x w.route.refs → referent_entry whole x ≡ Some e → In e (flat_map referents_on written)
      into x k h = In-flat_map referents_on w e written (inl refl) (subst (In e) (sym on_w) (found_option (referent_entry whole) x e w.route.refs k h))

      by : (d : RouteRow) → In e (referents_on d) → (d ≡ a) ⊎ (d ≡ b) → In e (flat_map referents_on written)
      by d k (inl h) =
          let x = option_found (referent_entry a.route.course) e a.route.refs (subst (λ v. In e (referents_on v)) h k) in
          into x.0 (is.refs_front x.0 x.1) (front_same x.0 x.1 ∙ x.2)
      by d k (inr h) =
          let x = option_found (referent_entry b.route.course) e b.route.refs (subst (λ v. In e (referents_on v)) h k) in
          into (on_by (length a.route.course) x.0) (is.refs_rear x.0 x.1) (rear_same x.0 ∙ x.2)

  same : SayTheSame dropped written i.routes
  same = record {
    holds = λ asset p.
        or-false (holds_on w asset p) ∙ ap (λ d. holds_by_spans d w.spans asset p) is.course ∙ join_rows_hold a.route.course b.route.course a.spans b.spans w.spans is.join asset p
        ∙ sym (told_both (λ e. holds_on e asset p));
    to = to;
    back = back;
  }

  -- ---- the register, and all of it

  abbrev kept : List RouteRow
  kept = routes_left dropped i.routes

  -- those of other names than the second, without the first
  both_left : routes_left (a.route.name ∷ []) (routes_left (b.route.name ∷ []) i.routes) ≡ kept
  both_left = sym (without_one a.route.name (routes_left (b.route.name ∷ []) i.routes)) ∙ two_left b.route.name a.route.name i.routes
      ∙ (λ j. filter (λ (e : RouteRow). not (turned (same_name e.route.name b.route.name) (same_name e.route.name a.route.name) j)) i.routes)
    where
      turned : (x y : Bool) → (x || (y || false)) ≡ (y || (x || false))
      turned true true = refl
      turned true false = refl
      turned false true = refl
      turned false false = refl

  routes_are : put name_cmp a.route.name (let x : Alignment = record { course = whole; marks = joined_marks a.route.marks b.route.marks } in x) (drop_route b.route.name (state_of i)).routes.rows ≡ map route_entry (rewritten dropped written i.routes)
  unfolding state_of
  routes_are =
      ap (put name_cmp a.route.name (let x : Alignment = record { course = whole; marks = joined_marks a.route.marks b.route.marks } in x)) (removed b.route.name i.routes)
      ∙ sym (λ j. put name_cmp (is.name j) (record { course = is.course j; marks = is.marks j }) (map route_entry (routes_left (b.route.name ∷ []) i.routes)))
      ∙ put_rewrites w (routes_left (b.route.name ∷ []) i.routes) (left_in_order (b.route.name ∷ []) i.routes order)
      ∙ ap (λ n. map route_entry (rewritten (n ∷ []) written (routes_left (b.route.name ∷ []) i.routes))) is.name
      ∙ ap (λ l. map route_entry (insert_by route_before w l)) both_left

  abbrev result : State
  result = set_route a.route.name whole (joined_marks a.route.marks b.route.marks) (drop_route b.route.name (state_of i))

  state_rows : result ≡ record (state_of i) { routes = record { rows = map route_entry (rewritten dropped written i.routes) } }
  unfolding state_of
  state_rows = λ j. record (state_of i) { routes = record { rows = routes_are j } }

  attempts : attempt (length i.edits + 1) (verb.Join a.route.name b.route.name) (state_of i) ≡ Ok result
  unfolding attempt
  attempts = is.done

  few : 1 + length kept ≤ most_routes
  few =
      let c = length-parted (λ (e : RouteRow). list_any (same_name e.route.name) dropped) i.routes in
      let d = old_few i s in
      let e = some_there a those a_there in
      omega (arith, c, d, e)
    where
      some_there : (x : RouteRow) (xs : List RouteRow) → In x xs → 1 ≤ length xs
      some_there x [] m = absurd m
      some_there x (y ∷ ys) m = omega arith

  -- the state is the one before, with other routes
  pub same_state : state_of (with_routes (rewritten dropped written i.routes) i) ≡ record (state_of i) { routes = record { rows = map route_entry (rewritten dropped written i.routes) } }
  same_state = keeps_state i dropped written s fit same

  pub makes : Makes (verb.Join a.route.name b.route.name) i (with_routes (rewritten dropped written i.routes) i)
  makes = record {
    state = attempts ∙ ap Ok (state_rows ∙ sym same_state);
    edits = refl;
    orderly = λ room. orderly i dropped written s fit few;
  }

  -- ---- whose ground is whose

  runs_joined : (m : Millimetre) → runs_over w.route.course m ≡ (runs_over a.route.course m || runs_over b.route.course m)
  runs_joined m = ap (λ c. runs_over c m) is.course ∙ list_any-append (is_at m) a.route.course b.route.course

  -- the ground of the second passes to the first, and all other runs as before
  pub moves : (m : Millimetre) → runs_on (rewritten dropped written i.routes) m ≡ cond (runs_over b.route.course m) (Some a.route.name) (runs_on i.routes m)
  moves m =
      moves_ground i dropped written s fit m
      ∙ (λ j. option_or (option_map named (cond (runs_joined m j) (Some w) None)) (cond (told_both (is_run_by m) j) None (runs_on i.routes m)))
      ∙ by (cases_Bool (runs_over a.route.course m)) (cases_Bool (runs_over b.route.course m))
    where
      named : RouteRow → Name
      named e = e.route.name

      after : Bool → Bool → Option Name
      after x y = option_or (option_map named (cond (x || y) (Some w) None)) (cond (x || y) None (runs_on i.routes m))

      by : (runs_over a.route.course m ≡ true) ⊎ (runs_over a.route.course m ≡ false) → (runs_over b.route.course m ≡ true) ⊎ (runs_over b.route.course m ≡ false)
          → after (runs_over a.route.course m) (runs_over b.route.course m) ≡ cond (runs_over b.route.course m) (Some a.route.name) (runs_on i.routes m)
      by (inl x) (inl y) = (λ j. after (x j) (y j)) ∙ ap Some is.name ∙ sym (ap (λ b. cond b (Some a.route.name) (runs_on i.routes m)) y)
      by (inr x) (inl y) = (λ j. after (x j) (y j)) ∙ ap Some is.name ∙ sym (ap (λ b. cond b (Some a.route.name) (runs_on i.routes m)) y)
      by (inl x) (inr y) = (λ j. after (x j) (y j)) ∙ ap Some is.name ∙ sym (runs_there i a m s is.first x) ∙ sym (ap (λ b. cond b (Some a.route.name) (runs_on i.routes m)) y)
      by (inr x) (inr y) = (λ j. after (x j) (y j)) ∙ sym (ap (λ b. cond b (Some a.route.name) (runs_on i.routes m)) y)

pub join_makes : JoinMakes
join_makes i a b w s is = makes i a b w s is
