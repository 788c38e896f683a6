use Rattle.std.proofs.Common.{◌≡◌, map, take}
use Rattle.lrs_store_image.proofs.DecodedRoutes.Referring.{name_of}
use Rattle.lrs_store_image.proofs.route_decoder.referents.names_of_measured.Given as goal

abbrev pub invariant-loop-route : goal.invariant-loop-route
invariant-loop-route l = l.names.items ≡ map name_of (take l.route-index l.measured)
