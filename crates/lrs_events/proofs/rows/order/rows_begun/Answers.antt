use Rattle.std.proofs.Common.{rules}
use Rattle.std.proofs.lemmas.List.Sorted.{IsPartitionPoint-from_clause}
use Rattle.lrs_events.specs.Spans.{span_before}
use Rattle.lrs_events.proofs.Row.Rows.{rows_from}
use Rattle.lrs_events.proofs.Row.Places.{parted_rows}
use Rattle.lrs_events.proofs.rows.order.rows_begun.Goals as goal

pub returns-clause-point : goal.returns-clause-point
returns-clause-point c =
    IsPartitionPoint-from_clause (λ r. span_before r c.args.row.now) c.args.rows.now c.partition_point.result c.partition_point.ensures.partitioned (parted_rows c.args.rows.now c.args.row.now (rows_from c.args.rows.now c.requires)) (λ a r q k. search rules)
