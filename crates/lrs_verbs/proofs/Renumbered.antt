-- A route under another name.
use Rattle.std.proofs.Common.{◌≡◌, ℕ, true, false, cond, List, length, Option, Some, None, Result, Ok, Err, refl, sym, ap, subst, ◌∙◌}
use Rattle.std.specs.Prelude.{is_none, is_some}
use Rattle.std.specs.List.{find, list_any, AllByRecursion}
use Rattle.std.proofs.lemmas.Bool.{false≢true}
use Rattle.std.specs.Option.{option_map, ok_or}
use Rattle.lrs_measure.specs.Lists.{In}
use Rattle.lrs_inventory.specs.Prelude.{Name, same_name, Piece, course_of, runs_over, IsFilled, is_route_course, have_marks, are_referents, Alignment, Cause, Image, RouteRow, state_of, route_entry, State, attempt, ◌>>◌, ◌>>=◌, set_route, contains_key, IsSound, Makes, RouteChange, RouteKeys, keys_of, is_named}
use Rattle.lrs_element.specs.Marks.{bad_mark}
use Rattle.lrs_machine.specs.declared.answer.Cause.TheVariants as cause
use Rattle.lrs_machine.specs.declared.command.Command.TheVariants as verb
use Rattle.lrs_machine.specs.Machine.{refuse_if, drop_route}
use Rattle.lrs_machine.proofs.SoundImages.{and_three}
use Rattle.lrs_image_laws.specs.Renames.{HasSame}
use Rattle.lrs_image_laws.proofs.Alike.{IsAlike, fit, same_state, moves}
use Rattle.lrs_image_laws.proofs.Renaming.{renumber_makes, own_if_new, alike}
use Rattle.lrs_image_laws.proofs.Running.{runs_there}
use Rattle.lrs_inventory.specs.Changes.{route_on}
use Rattle.lrs_verbs.specs.Renumberings.{renumbered}
use Rattle.lrs_inventory.specs.Plans.{IsPlanOf}
use Rattle.lrs_inventory.proofs.ChangedRoute.{new, at, own_name, image_is, differs_so}
use Rattle.lrs_inventory.proofs.Known.{route_value}
use Rattle.lrs_inventory.proofs.KnownRoutes.{knows}
use Rattle.lrs_inventory.proofs.Rerouted.{relabelled, after, same, new_name, new_marks_are, can_become}

-- ---- what the verb does

module _ (route name : Name) (i : Image) (n : ℕ) where
  abbrev then_name : Alignment → Result State Cause
  then_name a = refuse_if (contains_key (state_of i).routes name) cause.RouteKnown >> Ok (set_route name a.course a.marks (drop_route route (state_of i)))

  attempt_is : (o : Option RouteRow) → find (is_named route) i.routes ≡ o → attempt n (verb.Renumber route name) (state_of i) ≡ (ok_or (option_map (λ e. (route_entry e).1) o) cause.NoRoute >>= then_name)
  unfolding attempt
  attempt_is o is = ap (λ g. ok_or g cause.NoRoute >>= then_name) (route_value i route ∙ ap (option_map (λ (e : RouteRow). (route_entry e).1)) is)

  pub refuses_route : find (is_named route) i.routes ≡ None → attempt n (verb.Renumber route name) (state_of i) ≡ Err cause.NoRoute
  refuses_route none = attempt_is None none

  pub refuses_known : (r : RouteRow) → find (is_named route) i.routes ≡ Some r → contains_key (state_of i).routes name ≡ true → attempt n (verb.Renumber route name) (state_of i) ≡ Err cause.RouteKnown
  refuses_known r found known = attempt_is (Some r) found ∙ ap (λ b. refuse_if b cause.RouteKnown >> Ok (set_route name r.route.course r.route.marks (drop_route route (state_of i)))) known

-- ---- The plan of the verb, where the name is new.
module _ (route name : Name) (i : Image) (r : RouteRow) (s : IsSound i) (found : find (is_named route) i.routes ≡ Some r) (fresh : contains_key (state_of i).routes name ≡ false) (keys : RouteKeys) (whole : keys ≡ keys_of r.route.refs r.spans) where
  good : is_none (bad_mark (length r.route.course) r.route.marks) ≡ true
  good = (and_three (is_route_course r.route.course) (have_marks r.route.course r.route.marks) (are_referents (length r.route.course) r.route.refs) r.route.fits).1

  abbrev change : RouteChange
  change = relabelled route name keys None

  abbrev w : RouteRow
  w = after route name keys None i r s found good

  its_name : w.route.name ≡ name
  its_name = new_name route name keys None i r s found good

  its_marks : w.route.marks ≡ r.route.marks
  its_marks = new_marks_are route name keys None i r s found good

  there : In r i.routes
  there = at change i r s found

  no_such : list_any (is_named w.route.name) i.routes ≡ false
  no_such = ap (λ n. list_any (is_named n) i.routes) its_name ∙ sym (knows name i) ∙ fresh

  still : HasSame r w
  still = same route name keys None i r s found good

  same_there : IsAlike i r w
  same_there = alike i r w s there still

  own : (e : RouteRow) → In e i.routes → same_name w.route.name e.route.name ≡ true → same_name e.route.name r.route.name ≡ true
  own = own_if_new i r w s there still its_marks no_such

  made : Makes (verb.Renumber route name) i (new change i r s found)
  made =
      subst (λ (n : Name). Makes (verb.Renumber route n) i (new change i r s found)) its_name
      (subst (λ (n : Name). Makes (verb.Renumber n w.route.name) i (new change i r s found)) (own_name change i r s found)
      (renumber_makes i r w s there still its_marks no_such))

  pub renumbers : (passed : List Piece) → course_of passed ≡ r.route.course → AllByRecursion IsFilled passed → IsPlanOf (verb.Renumber route name) i (renumbered route name keys passed)
  renumbers passed of filled = record {
    makes = subst (λ (j : Image). Makes (verb.Renumber route name) i j) (sym (image_is change i r s found)) made;
    differ = differs_so change i r s found (fit i r w s there same_there own) (can_become route name keys None i r s found good (λ apart. whole));
    tells = record {
      ground = λ m. ap (λ (j : Image). route_on j.routes m) (image_is change i r s found) ∙ moves i r w s there same_there own m
          ∙ (λ j. cond (runs_over (sym of j) m) (Some (its_name j)) (route_on i.routes m));
      can_ground = record {
        gone_filled = tt;
        passed_filled = filled;
        come_filled = tt;
        gone = λ m h. absurd (false≢true h);
        passed = λ m h. ap is_some (runs_there i r m s there (ap (λ c. runs_over c m) (sym of) ∙ h));
        apart = λ m h. refl;
        come = λ m h. absurd (false≢true h);
        once = refl;
      };
      referents = λ n. ap (λ (t : State). t.referents n) (ap state_of (image_is change i r s found) ∙ same_state i r w s there same_there own);
      new_referent = tt;
    };
  }
