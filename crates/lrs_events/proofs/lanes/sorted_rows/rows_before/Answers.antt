use Rattle.std.proofs.Common.{rules}
use Rattle.std.proofs.lemmas.List.Sorted.{IsPartitionPoint-from_clause}
use Rattle.lrs_events.specs.LaneLists.Order.{row_before}
use Rattle.lrs_events.proofs.LaneLists.Ranks.{row_ranks}
use Rattle.lrs_events.proofs.LaneLists.Strict.{parted_before}
use Rattle.lrs_events.proofs.lanes.sorted_rows.rows_before.Goals as goal

pub returns-clause-point : goal.returns-clause-point
returns-clause-point c =
    let before = row_before c.args.order in
    IsPartitionPoint-from_clause (λ r. before r c.args.row.now) c.args.rows.now c.partition_point.result c.partition_point.ensures.partitioned (parted_before before (row_ranks c.args.order) c.args.row.now c.args.rows.now c.requires) (λ a r q k. search rules)
