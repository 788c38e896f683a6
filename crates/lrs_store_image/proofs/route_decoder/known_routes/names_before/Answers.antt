use Rattle.std.proofs.Common.{rules}
use Rattle.std.proofs.lemmas.List.Sorted.{IsPartitionPoint-from_clause}
use Rattle.lrs_measure.specs.Texts.{name_before}
use Rattle.lrs_store_image.proofs.DecodedRoutes.Searching.{parted_names}
use Rattle.lrs_store_image.proofs.route_decoder.known_routes.names_before.Goals as goal

pub returns-clause-point : goal.returns-clause-point
returns-clause-point c =
    IsPartitionPoint-from_clause (λ n. name_before n c.args.text.now) c.args.names.now c.partition_point.result c.partition_point.ensures.partitioned (parted_names c.args.names.now c.requires c.args.text.now) (λ a r q k. search rules)
