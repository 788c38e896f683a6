use Rattle.std.proofs.Common.{rules}
use Rattle.std.specs.Prelude.{not}
use Rattle.std.specs.Ordering.{is_ge}
use Rattle.std.proofs.lemmas.List.Sorted.{IsPartitionPoint-from_clause}
use Rattle.lrs_measure.proofs.Insertions.{placed}
use Rattle.lrs_ordered.proofs.Places.{parted}
use Rattle.lrs_report.proofs.Keyed.{below_first}
use Rattle.lrs_report.proofs.known_rows.rows_below.Goals as goal

pub returns-clause-place : goal.returns-clause-place
returns-clause-place g c =
    let order = λ (row : g.row.T.Denot). g.T.Keyed.key_order row c.args.key.now in
    let from = λ (row : g.row.T.Denot). is_ge (order row) in
    let rows = c.args.rows.now in
    placed from rows c.partition_point.result c.partition_point.ensures.bound
    (IsPartitionPoint-from_clause (λ row. not (from row)) rows c.partition_point.result c.partition_point.ensures.partitioned
    (parted from rows (below_first order g.T.Ordered.before (λ a b first below. g.met.T.Keyed.rises a b c.args.key.now first below) rows c.requires.order)) (λ a r q k. search rules))
