-- A route with other marks.
use Rattle.std.proofs.Common.{◌≡◌, ℕ, true, List, length, Option, Some, None, Result, Ok, Err, refl, sym, ap, subst, ◌∙◌}
use Rattle.std.specs.Prelude.{is_none}
use Rattle.std.proofs.lemmas.Bool.{both_ways}
use Rattle.std.specs.Cmp.Lexicographic.{bytes_decides}
use Rattle.std.specs.List.{find}
use Rattle.std.specs.Option.{option_map, ok_or}
use Rattle.lrs_inventory.specs.Prelude.{Name, same_name, no_keys, Mark, Alignment, Cause, Image, RouteRow, state_of, route_entry, State, attempt, ◌>>◌, ◌>>=◌, set_route, IsSound, Makes, RouteChange, is_named}
use Rattle.lrs_element.specs.Marks.{bad_mark}
use Rattle.lrs_machine.specs.declared.answer.Cause.TheVariants as cause
use Rattle.lrs_machine.specs.declared.command.Command.TheVariants as verb
use Rattle.lrs_machine.specs.Machine.{check_marks}
use Rattle.lrs_image_laws.specs.Renames.{HasSame}
use Rattle.lrs_image_laws.proofs.Renaming.{recalibrate_makes, alike}
use Rattle.lrs_inventory.specs.NewCourses.{new_marks}
use Rattle.lrs_verbs.specs.RouteVerbs.Checks.{recalibrated}
use Rattle.lrs_inventory.specs.Plans.{IsPlanOf}
use Rattle.lrs_inventory.proofs.ChangedRoute.{new, at, own_name, plans_alike}
use Rattle.lrs_inventory.proofs.Known.{route_value}
use Rattle.lrs_inventory.proofs.NewCourse.{marks_of, good_line}
use Rattle.lrs_inventory.proofs.Rerouted.{relabelled, after, same, new_name, new_marks_are, can_become}

-- ---- what the verb does

module _ (route : Name) (marks : List Mark) (i : Image) (n : ℕ) where
  abbrev then_marks : Alignment → Result State Cause
  then_marks a = check_marks (length a.course) marks >> Ok (set_route route a.course marks (state_of i))

  attempt_is : (o : Option RouteRow) → find (is_named route) i.routes ≡ o → attempt n (verb.Recalibrate route marks) (state_of i) ≡ (ok_or (option_map (λ e. (route_entry e).1) o) cause.NoRoute >>= then_marks)
  unfolding attempt
  attempt_is o is = ap (λ g. ok_or g cause.NoRoute >>= then_marks) (route_value i route ∙ ap (option_map (λ (e : RouteRow). (route_entry e).1)) is)

  pub refuses_route : find (is_named route) i.routes ≡ None → attempt n (verb.Recalibrate route marks) (state_of i) ≡ Err cause.NoRoute
  refuses_route none = attempt_is None none

  pub refuses_marks : (r : RouteRow) → find (is_named route) i.routes ≡ Some r → (c : Cause) → new_marks (length r.route.course) marks ≡ Err c → attempt n (verb.Recalibrate route marks) (state_of i) ≡ Err c
  refuses_marks r found c bad = attempt_is (Some r) found ∙ by (check_marks (length r.route.course) marks) (set_route route r.route.course marks (state_of i)) bad
    where
      by : (x : Result (Unit {0}) Cause) (t : State) → ◌≡◌ {A = Result (List Mark) Cause} (x >> Ok marks) (Err c) → (x >> Ok t) ≡ Err c
      by (Ok u) t h = absurd (cc h)
      by (Err d) t h = let same : d ≡ c = cc h in ap Err same

-- ---- The plan of the verb, where the marks are those of the route's course.
module _ (route : Name) (marks line : List Mark) (i : Image) (r : RouteRow) (s : IsSound i) (found : find (is_named route) i.routes ≡ Some r) (marked : new_marks (length r.route.course) marks ≡ Ok line) where
  good : is_none (bad_mark (length r.route.course) line) ≡ true
  good = ap is_none (good_line (length r.route.course) marks line marked)

  abbrev change : RouteChange
  change = relabelled route route no_keys (Some line)

  abbrev w : RouteRow
  w = after route route no_keys (Some line) i r s found good

  its_name : w.route.name ≡ r.route.name
  its_name = new_name route route no_keys (Some line) i r s found good ∙ sym (own_name change i r s found)

  its_marks : w.route.marks ≡ marks
  its_marks = new_marks_are route route no_keys (Some line) i r s found good ∙ (marks_of (length r.route.course) marks line marked).1

  still : HasSame r w
  still = same route route no_keys (Some line) i r s found good

  made : Makes (verb.Recalibrate route marks) i (new change i r s found)
  made =
      subst (λ (m : List Mark). Makes (verb.Recalibrate route m) i (new change i r s found)) its_marks
      (subst (λ (n : Name). Makes (verb.Recalibrate n w.route.marks) i (new change i r s found)) (own_name change i r s found)
      (recalibrate_makes i r w s (at change i r s found) still its_name))

  pub recalibrates : IsPlanOf (verb.Recalibrate route marks) i (recalibrated route line)
  recalibrates = plans_alike change i r s found its_name (alike i r w s (at change i r s found) still) (can_become route route no_keys (Some line) i r s found good (λ apart. absurd (both_ways (same_name route route) apart ((bytes_decides route route).1 refl)))) (verb.Recalibrate route marks) made
