use Rattle.std.proofs.Common.{not, rules}
use Rattle.std.proofs.lemmas.List.Sorted.{IsPartitionPoint-from_clause}
use Rattle.lrs_measure.proofs.Insertions.{placed}
use Rattle.lrs_events.specs.LaneLists.Order.{row_before}
use Rattle.lrs_events.proofs.LaneLists.Inserted.{parted}
use Rattle.lrs_events.proofs.lanes.sorted_rows.place_of.Goals as goal

pub returns-clause-place : goal.returns-clause-place
returns-clause-place c =
    let before = row_before c.args.order in
    let row = c.args.row.now in
    let rows = c.args.rows.now in
    placed (before row) rows c.partition_point.result c.partition_point.ensures.bound
    (IsPartitionPoint-from_clause (λ r. not (before row r)) rows c.partition_point.result c.partition_point.ensures.partitioned (parted before row rows c.requires) (λ a r q k. search rules))
