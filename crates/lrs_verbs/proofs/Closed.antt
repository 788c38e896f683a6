-- A route goes.
use Rattle.std.proofs.Common.{◌≡◌, ℕ, ◌+◌, true, cond, List, [], ◌∷◌, length, Some, None, Result, Ok, Err, refl, sym, ap, subst, ◌∙◌}
use Rattle.std.proofs.Math.Bool.{or-false}
use Rattle.std.specs.List.{find, list_any, list_all, AllByRecursion}
use Rattle.std.proofs.lemmas.Bool.{false≢true, and_parts, ltb-true}
use Rattle.std.proofs.lemmas.List.{append-nil}
use Rattle.std.specs.Prelude.{◌&&◌, is_some, nat_lt}
use Rattle.std.specs.Option.{option_map, ok_or}
use Rattle.std.specs.Cmp.Lexicographic.{bytes_decides}
use Rattle.lrs_measure.specs.Lists.{In}
use Rattle.lrs_measure.proofs.Members.{any_found, any_of, all_at, In-map, map_found}
use Rattle.lrs_inventory.specs.Prelude.{each_two, Name, same_name, Ground, Piece, Millimetre, course_of, runs_over, IsFilled, Referent, Alignment, referent_before, Gone, holds_by_spans, Cause, Image, RouteRow, state_of, route_entry, referent_entry, referents_on, attempt, ◌>>=◌, is_route_course, have_marks, are_referents, IsSound, State, Makes, RouteKeys, keys_of, Difference, is_named, with_difference, AreGone}
use Rattle.lrs_machine.specs.declared.answer.Cause.TheVariants as cause
use Rattle.lrs_machine.specs.declared.command.Command.TheVariants as verb
use Rattle.lrs_machine.specs.Machine.{abandon, drop_route}
use Rattle.lrs_machine.specs.State.{Abandoned}
use Rattle.lrs_image.proofs.Tables.{routes_in_order}
use Rattle.lrs_image_laws.specs.RoutesOver.{is_run_by}
use Rattle.lrs_image_laws.proofs.Naming.{found_in, only_one, without_one}
use Rattle.lrs_image_laws.proofs.Running.{runs_there, moves_ground}
use Rattle.lrs_image_laws.proofs.Standing.{named_of, found_option}
use Rattle.lrs_image_laws.specs.Closures.{with_left}
use Rattle.lrs_image_laws.proofs.Closing.{nothing_fits, same_state, close_makes}
use Rattle.lrs_image_laws.proofs.Leaving.{stands_on}
use Rattle.lrs_image_laws.proofs.Named.{AreNamed, named_leave}
use Rattle.lrs_inventory.specs.Changes.{route_on}
use Rattle.lrs_verbs.specs.Closings.{names_of, without_route, closing}
use Rattle.lrs_inventory.specs.Plans.{IsPlanOf}
use Rattle.lrs_image_laws.proofs.FromReferents.{ground_there}
use Rattle.lrs_inventory.proofs.Known.{route_value}

-- ---- what the verb does

module _ (route : Name) (i : Image) (n : ℕ) where
  abbrev then_drop : Alignment → Result State Cause
  then_drop a = Ok (drop_route route (abandon n a.course (state_of i)))

  pub refuses_route : find (is_named route) i.routes ≡ None → attempt n (verb.Close route) (state_of i) ≡ Err cause.NoRoute
  unfolding attempt
  refuses_route none = ap (λ g. ok_or g cause.NoRoute >>= then_drop) (route_value i route ∙ ap (option_map (λ (e : RouteRow). (route_entry e).1)) none)

-- ---- referents of a route stand on its ground

all_named : (r : RouteRow) → AreNamed r r.route.course (names_of r.route.refs)
all_named r = record { theirs = λ x on. on; there = there; known = known }
  where
    names : List Name
    names = names_of r.route.refs

    named : Referent → Name
    named q = q.name

    there : (q : Name × Millimetre) → In q (referents_on r) → list_any (same_name q.0) names ≡ runs_over r.route.course q.1
    there q m =
        let x = named_of r.route.course r.route.refs q m in
        any_of (same_name q.0) x.0.name names (In-map named x.0 r.route.refs x.1) ((bytes_decides q.0 x.0.name).1 x.2) ∙ sym (stands_on r q m)

    within : list_all (λ q. nat_lt q.at (length r.route.course)) r.route.refs ≡ true
    within = (and_parts (each_two referent_before r.route.refs) (list_all (λ q. nat_lt q.at (length r.route.course)) r.route.refs)
        (and_parts (is_route_course r.route.course && have_marks r.route.course r.route.marks) (are_referents (length r.route.course) r.route.refs) r.route.fits).1).1

    known : (name : Name) → list_any (same_name name) names ≡ true → (x : Millimetre) × In (name, x) (referents_on r)
    known name h =
        let n = any_found (same_name name) names h in
        let q = map_found named n.0 r.route.refs n.1 in
        let g = ground_there r.route.course q.0.at (ltb-true q.0.at (length r.route.course) (all_at (λ q. nat_lt q.at (length r.route.course)) q.0 r.route.refs within q.1)) in
        let same : q.0.name ≡ name = sym ((bytes_decides name n.0).0 n.2 ∙ q.2) in (
          (g.0.link, g.0.mm),
          found_option (referent_entry r.route.course) q.0 (name, (g.0.link, g.0.mm)) r.route.refs q.1
              (ap (λ o. option_map (λ m. (q.0.name, m)) (option_map (λ (g : Ground). (g.link, g.mm)) o)) g.1 ∙ ap (λ n. Some (n, (g.0.link, g.0.mm))) same),
        )

-- ---- The plan of the verb.

module _ (route : Name) (i : Image) (r : RouteRow) (gone : List Gone) (keys : RouteKeys) (whole : keys ≡ keys_of r.route.refs r.spans) (s : IsSound i) (found : find (is_named route) i.routes ≡ Some r) (led : AreGone (length i.edits + 1) Abandoned (holds_by_spans r.route.course r.spans) gone) where
  abbrev d : Difference
  d = without_route route keys gone

  abbrev dropped : List Name
  dropped = r.route.name ∷ []

  there : In r i.routes
  there = (found_in route r i.routes found).0

  own_name : r.route.name ≡ route
  own_name = (found_in route r i.routes found).1

  abbrev new : Image
  new = with_left dropped [] gone i

  image_is : with_difference d i ≡ new
  image_is = (λ j. record (with_left (route ∷ []) [] gone i) { routes = without_one route i.routes j; entered = append-nil i.entered j }) ∙ ap (λ n. with_left (n ∷ []) [] gone i) (sym own_name)

  now_free : (m : Millimetre) → route_on new.routes m ≡ cond (runs_over r.route.course m) None (route_on i.routes m)
  now_free m =
      moves_ground i dropped [] s (nothing_fits i dropped) m
      ∙ ap (λ b. cond b None (route_on i.routes m)) (ap (list_any (is_run_by m)) (only_one r i.routes (routes_in_order i s) there) ∙ or-false (runs_over r.route.course m))

  stands : (name : Name) → (state_of new).referents name ≡ cond (list_any (same_name name) (names_of r.route.refs)) None ((state_of i).referents name)
  stands name = ap (λ (t : State). t.referents name) (same_state i r gone s there led) ∙ named_leave i r r.route.course (names_of r.route.refs) s there (all_named r) name

  pub closes : (freed : List Piece) → course_of freed ≡ r.route.course → AllByRecursion IsFilled freed → IsPlanOf (verb.Close route) i (closing route keys gone freed (names_of r.route.refs))
  closes freed of filled = record {
    makes = subst (λ (j : Image). Makes (verb.Close route) i j) (sym image_is) (subst (λ (n : Name). Makes (verb.Close n) i new) own_name (close_makes i r gone s there led));
    differ = record { route = tt; apart = tt; whole = record { row = r; found = found; keys_are = whole }; names = routes_in_order i s };
    tells = record {
      ground = λ m. ap (λ (j : Image). route_on j.routes m) image_is ∙ now_free m ∙ (λ j. cond (runs_over (sym of j) m) None (route_on i.routes m));
      can_ground = record {
        gone_filled = filled;
        passed_filled = tt;
        come_filled = tt;
        gone = λ m on. ap is_some (runs_there i r m s there (ap (λ c. runs_over c m) (sym of) ∙ on));
        passed = λ m on. absurd (false≢true on);
        apart = λ m on. absurd (false≢true on);
        come = λ m on. absurd (false≢true on);
        once = refl;
      };
      referents = λ n. ap (λ (j : Image). (state_of j).referents n) image_is ∙ stands n;
      new_referent = tt;
    };
  }
