-- Plans by which one route changes, and no other route comes or goes.
use Rattle.std.proofs.Common.{◌≡◌, [], ◌∷◌, Some, None, sym, ap, subst, ◌∙◌}
use Rattle.std.specs.List.{find, cons_option}
use Rattle.std.specs.Option.{option_map}
use Rattle.lrs_measure.specs.Lists.{In}
use Rattle.lrs_inventory.specs.Prelude.{each_two, Command, Image, RouteRow, state_of, route_before, IsSound, State, Makes, RouteChange, Difference, is_named, entry_after, with_difference, CanDiffer, rerouting}
use Rattle.lrs_image.specs.Change.{CanBecome}
use Rattle.lrs_image_laws.specs.Differences.{KeepsFromDropped}
use Rattle.lrs_image_laws.specs.Rewrites.{rewritten, with_routes, AreFit}
use Rattle.lrs_image_laws.proofs.Alike.{IsAlike, fit, same_state, named_ours, stays}
use Rattle.lrs_image_laws.proofs.Differences.{difference_rewrites, reroutes}
use Rattle.lrs_image_laws.proofs.Naming.{found_in}
use Rattle.lrs_image_laws.proofs.Rewriting.{new_order}
use Rattle.lrs_inventory.specs.Changes.{route_on}
use Rattle.lrs_inventory.specs.Plans.{plan_of, IsPlanOf}

module _ (c : RouteChange) (i : Image) (r : RouteRow) (s : IsSound i) (found : find (is_named c.route) i.routes ≡ Some r) where
  abbrev d : Difference
  d = rerouting (Some c) None None

  abbrev pub after : RouteRow
  after = entry_after c r

  abbrev pub new : Image
  new = with_routes (rewritten (r.route.name ∷ []) (after ∷ []) i.routes) i

  pub at : In r i.routes
  at = (found_in c.route r i.routes found).0

  pub own_name : r.route.name ≡ c.route
  own_name = (found_in c.route r i.routes found).1

  none_drops : KeepsFromDropped d i.routes
  none_drops w n is e = absurd (cc e)

  one_written : rewritten (c.route ∷ []) (cons_option (option_map (entry_after c) (find (is_named c.route) i.routes)) []) i.routes ≡ rewritten (r.route.name ∷ []) (after ∷ []) i.routes
  one_written = λ j. rewritten (sym own_name j ∷ []) (cons_option (option_map (entry_after c) (found j)) []) i.routes

  pub image_is : with_difference d i ≡ new
  image_is = reroutes (Some c) None None i s none_drops ∙ ap (λ routes. with_routes routes i) one_written

  pub differs_so : AreFit i (r.route.name ∷ []) (after ∷ []) → CanBecome c r → CanDiffer d i
  differs_so fits can = record {
    route = record { row = r; found = found; becomes = can };
    apart = tt;
    whole = tt;
    names = ap (each_two route_before) (difference_rewrites d i s none_drops ∙ one_written) ∙ new_order i (r.route.name ∷ []) (after ∷ []) s fits;
  }

  -- The route keeps its name, and the same is said of its ground.
  pub plans_alike : after.route.name ≡ r.route.name → IsAlike i r after → CanBecome c r → (command : Command) → Makes command i new → IsPlanOf command i (plan_of d)
  plans_alike name alike can command made = record {
    makes = subst (λ (j : Image). Makes command i j) (sym image_is) made;
    differ = differs_so (fit i r after s at alike (named_ours i r after s name)) can;
    tells = record {
      ground = λ m. ap (λ (j : Image). route_on j.routes m) image_is ∙ stays i r after s name at alike m;
      can_ground = tt;
      referents = λ n. ap (λ (t : State). t.referents n) (ap state_of image_is ∙ same_state i r after s at alike (named_ours i r after s name));
      new_referent = tt;
    };
  }
