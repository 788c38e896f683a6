use Rattle.std.proofs.Common.{not, rules}
use Rattle.std.proofs.lemmas.List.Sorted.{IsPartitionPoint-from_clause}
use Rattle.lrs_measure.proofs.Insertions.{placed}
use Rattle.lrs_events.proofs.LaneLists.Inserted.{parted}
use Rattle.lrs_report_answers.specs.Tally.Counts.{count_before}
use Rattle.lrs_report_answers.proofs.tallies.tally.place_for.Goals as goal

pub returns-clause-place : goal.returns-clause-place
returns-clause-place c =
    let count = c.args.count.now in
    let counts = c.args.counts.now in
    placed (count_before count) counts c.partition_point.result c.partition_point.ensures.bound
    (IsPartitionPoint-from_clause (λ r. not (count_before count r)) counts c.partition_point.result c.partition_point.ensures.partitioned (parted count_before count counts c.requires.order) (λ a r q k. search rules))
