use Rattle.std.proofs.Common.{rules}
use Rattle.std.specs.Prelude.{not}
use Rattle.std.specs.Ordering.{is_ge}
use Rattle.std.proofs.lemmas.List.Sorted.{IsPartitionPoint-from_clause}
use Rattle.lrs_measure.proofs.Insertions.{placed}
use Rattle.lrs_ordered.proofs.Places.{parted}
use Rattle.lrs_ordered.proofs.Finds.{parted_from}
use Rattle.lrs_ordered.proofs.search.place_from.Goals as goal

pub returns-clause-place : goal.returns-clause-place
returns-clause-place g c =
    let order = λ (row : g.row.T.Denot). g.T.Keyed.key_order row c.args.key.now in
    let from = λ (row : g.row.T.Denot). is_ge (order row) in
    let rows = c.args.rows.now in
    placed from rows c.partition_point.result c.partition_point.ensures.bound
    (IsPartitionPoint-from_clause (λ row. not (from row)) rows c.partition_point.result c.partition_point.ensures.partitioned
    (parted from rows (parted_from order rows c.requires.order)) (λ a r q k. search rules))
