use Rattle.std.proofs.Common.{rules}
use Rattle.std.proofs.lemmas.Fn.{always_returns_same}
use Rattle.lrs_store_image.specs.DecodedRoutes.Groups.{route_before}
use Rattle.lrs_store_image.proofs.DecodedRoutes.Grouped.{routes_rank}
use Rattle.lrs_store_image.proofs.route_decoder.groups.sort_by_route.Goals as goal

pub returns-clause-sorted : goal.returns-clause-sorted
returns-clause-sorted g c = c.sort_unstable_by.ensures.sorted (route_before {X = g.row.T.Denot}) (routes_rank {X = g.row.T.Denot}) (always_returns_same _ _ _ (λ a r f' k. search rules))
