use Rattle.std.proofs.Common.{rules}
use Rattle.std.proofs.lemmas.List.Sorted.{IsPartitionPoint-from_clause}
use Rattle.lrs_events.specs.Spans.{span_before}
use Rattle.lrs_events.proofs.Row.Rows.{rows_from}
use Rattle.lrs_events.proofs.Row.Places.{parted_rows, placed}
use Rattle.lrs_events.proofs.rows.order.place_of.Goals as goal

pub returns-clause-place : goal.returns-clause-place
returns-clause-place c =
    let rows = c.args.rows.now in
    let span = c.args.span.now in
    placed rows c.partition_point.result span c.requires.rows c.requires.row c.requires.free
    (IsPartitionPoint-from_clause (λ r. span_before r span) rows c.partition_point.result c.partition_point.ensures.partitioned (parted_rows rows span (rows_from rows c.requires.rows)) (λ a r q k. search rules))
