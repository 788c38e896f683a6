use Rattle.std.proofs.Common.{◌≡◌, List, true, sym, subst}
use Rattle.lrs_inventory.specs.Prelude.{is_run_once, IsGroundOf, RouteRow, state_of}
use Rattle.lrs_inventory.specs.Keys.{IsIndex}
use Rattle.lrs_inventory.specs.Places.{IsPlaced, referent_among}
use Rattle.lrs_inventory.proofs.Grounds.{ground_of, run_once}
use Rattle.lrs_inventory.proofs.indexes.Indexes.of_image.Goals as goal

pub ground_of_routes-requires : goal.ground_of_routes-requires
ground_of_routes-requires c =
    record { once = subst (λ (es : List RouteRow). is_run_once (ground_of es) ≡ true) (sym c.as_slice-2.ensures) (run_once c.args.image.now c.requires.sound) }

pub returns : goal.returns
unfolding state_of
returns c = record {
  keys = subst (IsIndex c.in_ok-of_edits.field-0) c.as_slice.ensures c.in_ok-of_edits.ensures;
  ground = subst (IsGroundOf (λ e. e.route.name) (λ e. e.route.course) c.in_ok-ground_of_routes.field-0) c.as_slice-2.ensures c.in_ok-ground_of_routes.ensures;
  referents = subst (λ (es : List RouteRow). IsPlaced c.in_ok-of_routes.field-0 (referent_among es)) c.as_slice-3.ensures c.in_ok-of_routes.ensures;
}
