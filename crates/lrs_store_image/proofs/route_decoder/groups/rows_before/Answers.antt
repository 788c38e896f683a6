use Rattle.std.proofs.Common.{rules}
use Rattle.std.proofs.lemmas.List.Sorted.{IsPartitionPoint-from_clause}
use Rattle.lrs_measure.specs.Texts.{name_before}
use Rattle.lrs_store_tables.specs.Contents.Decoders.{OfRoute}
use Rattle.lrs_store_image.proofs.DecodedRoutes.Grouped.{parted_before}
use Rattle.lrs_store_image.proofs.route_decoder.groups.rows_before.Goals as goal

pub returns-clause-point : goal.returns-clause-point
returns-clause-point g c =
    IsPartitionPoint-from_clause (λ (r : OfRoute g.row.T.Denot). name_before r.route c.args.route.now) c.args.rows.now c.partition_point.result c.partition_point.ensures.partitioned (parted_before c.args.rows.now c.requires c.args.route.now) (λ a r q k. search rules)
