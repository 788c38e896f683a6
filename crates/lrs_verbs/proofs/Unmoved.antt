-- Plans that leave the routes as they are.
use Rattle.std.proofs.Common.{◌≡◌, Option, refl, sym, ap, subst, ◌∙◌}
use Rattle.std.specs.Prelude.{None}
use Rattle.lrs_inventory.specs.Prelude.{each_two, Link, Image, state_of, route_before, IsSound, RouteChange, Difference, no_difference, CanDiffer}
use Rattle.lrs_events.specs.declared.class.Class.{Class}
use Rattle.lrs_image.specs.Change.{routes_after, CanChangeRoute, GoesApart, GoesWholeIfAny}
use Rattle.lrs_image.proofs.Tables.{routes_in_order}
use Rattle.lrs_inventory.specs.Plans.{plan_of, TellsGround}

-- a difference of links and classes alone
abbrev pub adding : Option Link → Option Class → Difference
adding link class = record no_difference { link = link; class = class }

-- No route changes, so that all names stay in order.
pub can_differ : (d : Difference) (i : Image) → d.changed ≡ None → GoesWholeIfAny d.dropped d.keys i.routes → IsSound i → CanDiffer d i
can_differ d i none whole s = record {
  route = subst (λ (c : Option RouteChange). CanChangeRoute c i.routes) (sym none) tt;
  apart = subst (λ (c : Option RouteChange). GoesApart c d.dropped) (sym none) tt;
  whole = whole;
  names = ap (λ (c : Option RouteChange). each_two route_before (routes_after c i.routes)) none ∙ routes_in_order i s;
}

pub tells : (link : Option Link) (class : Option Class) (i : Image) → TellsGround (plan_of (adding link class)) i
unfolding state_of
tells link class i = record { ground = λ m. refl; can_ground = tt; referents = λ name. refl; new_referent = tt }
