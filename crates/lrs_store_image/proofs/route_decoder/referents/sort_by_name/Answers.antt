use Rattle.std.proofs.Common.{rules}
use Rattle.std.proofs.lemmas.Fn.{always_returns_same}
use Rattle.lrs_store_tables.specs.Contents.Content.{referent_before}
use Rattle.lrs_store_image.proofs.DecodedRoutes.Referring.{referents_rank}
use Rattle.lrs_store_image.proofs.route_decoder.referents.sort_by_name.Goals as goal

pub returns-clause-sorted : goal.returns-clause-sorted
returns-clause-sorted c = c.sort_unstable_by.ensures.sorted referent_before referents_rank (always_returns_same _ _ _ (λ a r f' k. search rules))
