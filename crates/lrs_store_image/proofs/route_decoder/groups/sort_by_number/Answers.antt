use Rattle.std.proofs.Common.{rules}
use Rattle.std.proofs.lemmas.Fn.{always_returns_same}
use Rattle.lrs_store_tables.specs.Contents.Decoders.{number_before}
use Rattle.lrs_store_image.proofs.DecodedRoutes.Grouped.{numbers_rank}
use Rattle.lrs_store_image.proofs.route_decoder.groups.sort_by_number.Goals as goal

pub returns-clause-sorted : goal.returns-clause-sorted
returns-clause-sorted g c = c.sort_unstable_by.ensures.sorted (number_before {X = g.row.T.Denot}) (numbers_rank {X = g.row.T.Denot}) (always_returns_same _ _ _ (λ a r f' k. search rules))
