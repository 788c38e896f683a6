use Rattle.std.proofs.Common.{rules}
use Rattle.std.proofs.lemmas.List.Sorted.{IsPartitionPoint-from_clause}
use Rattle.lrs_difference.specs.Sweep.{is_ahead}
use Rattle.lrs_difference.proofs.NearStretches.{parted_ahead}
use Rattle.lrs_difference.proofs.alone.count_ahead.Goals as goal

pub returns-clause-point : goal.returns-clause-point
returns-clause-point c =
    IsPartitionPoint-from_clause (is_ahead c.args.edge.now) c.args.held.now c.partition_point.result c.partition_point.ensures.partitioned (parted_ahead c.args.edge.now c.args.held.now c.requires) (λ a r q k. search rules)
