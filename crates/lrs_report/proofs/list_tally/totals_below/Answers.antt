use Rattle.std.proofs.Common.{rules}
use Rattle.std.specs.Prelude.{not}
use Rattle.std.specs.Ordering.{is_ge}
use Rattle.std.proofs.lemmas.List.Sorted.{IsPartitionPoint-from_clause}
use Rattle.lrs_machine.specs.declared.total.Total.{Total}
use Rattle.lrs_measure.specs.KeyOrder.{name_after}
use Rattle.lrs_measure.proofs.Insertions.{placed}
use Rattle.lrs_ordered.proofs.Places.{parted}
use Rattle.lrs_report.specs.ListTally.{class_order, total_before}
use Rattle.lrs_report.proofs.Keyed.{below_first}
use Rattle.lrs_report.proofs.list_tally.totals_below.Goals as goal

pub returns-clause-place : goal.returns-clause-place
returns-clause-place c =
    let class = c.args.class.now in
    let from = λ (t : Total). is_ge (class_order class t) in
    let totals = c.args.totals.now in
    placed from totals c.partition_point.result c.partition_point.ensures.bound
    (IsPartitionPoint-from_clause (λ t. not (from t)) totals c.partition_point.result c.partition_point.ensures.partitioned
    (parted from totals (below_first (class_order class) total_before (λ a b first below. name_after a.class b.class class first below) totals c.requires.order)) (λ a r q k. search rules))
