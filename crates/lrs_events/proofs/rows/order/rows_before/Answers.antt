use Rattle.std.proofs.Common.{rules}
use Rattle.std.proofs.lemmas.List.Sorted.{IsPartitionPoint-from_clause}
use Rattle.lrs_events.specs.Row.Clips.{is_left}
use Rattle.lrs_events.proofs.Row.Places.{parted_left}
use Rattle.lrs_events.proofs.rows.order.rows_before.Goals as goal

pub returns-clause-point : goal.returns-clause-point
returns-clause-point c =
    IsPartitionPoint-from_clause (λ r. is_left r c.args.stretch.now) c.args.rows.now c.partition_point.result c.partition_point.ensures.partitioned (parted_left c.args.rows.now c.args.stretch.now c.requires.rows) (λ a r q k. search rules)
