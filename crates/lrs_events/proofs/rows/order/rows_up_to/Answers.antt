use Rattle.std.proofs.Common.{rules}
use Rattle.std.specs.Prelude.{not}
use Rattle.std.proofs.lemmas.List.Sorted.{IsPartitionPoint-from_clause}
use Rattle.lrs_events.specs.Row.Clips.{is_left}
use Rattle.lrs_events.proofs.Row.Places.{parted_right}
use Rattle.lrs_events.proofs.rows.order.rows_up_to.Goals as goal

pub returns-clause-point : goal.returns-clause-point
returns-clause-point c =
    IsPartitionPoint-from_clause (λ r. not (is_left c.args.stretch.now r)) c.args.rows.now c.partition_point.result c.partition_point.ensures.partitioned (parted_right c.args.rows.now c.args.stretch.now c.requires.rows) (λ a r q k. search rules)
