use Rattle.std.proofs.Common.{rules, ℕ}
use Rattle.std.specs.Prelude.{nat_le}
use Rattle.std.proofs.lemmas.List.Sorted.{IsPartitionPoint-from_clause, IsPartitionedBy-leb}
use Rattle.lrs_events.proofs.lanes.lane.ended.Goals as goal

pub returns-clause-point : goal.returns-clause-point
returns-clause-point c =
    IsPartitionPoint-from_clause (λ (n : ℕ). nat_le n c.args.low) c.args.greatest.now c.partition_point.result c.partition_point.ensures.partitioned (IsPartitionedBy-leb (λ (n : ℕ). n) c.args.greatest.now c.args.low c.requires) (λ a r q k. search rules)
