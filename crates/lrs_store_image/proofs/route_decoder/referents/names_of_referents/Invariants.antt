use Rattle.std.proofs.Common.{◌≡◌, map, take}
use Rattle.std.specs.List.{flat_map}
use Rattle.lrs_position.specs.declared.route.Referent.{Referent}
use Rattle.lrs_position.specs.declared.route.Route.{Route}
use Rattle.lrs_store_image.proofs.route_decoder.referents.names_of_referents.Given as goal

abbrev pub invariant-loop-route : goal.invariant-loop-route
invariant-loop-route l = l.names.items ≡ map (λ (r : Referent). r.name) (flat_map (λ (r : Route). r.refs) (take l.route-index l.routes))
