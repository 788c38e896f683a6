use Rattle.std.proofs.Common.{rules}
use Rattle.std.specs.Prelude.{nat_lt}
use Rattle.std.proofs.lemmas.List.Sorted.{IsPartitionPoint-from_clause, IsPartitionedBy-ltb}
use Rattle.lrs_events.specs.declared.span.Span.{Span}
use Rattle.lrs_events.proofs.lanes.lane.begun.Goals as goal

pub returns-clause-point : goal.returns-clause-point
returns-clause-point c =
    IsPartitionPoint-from_clause (λ (r : Span). nat_lt r.from c.args.high) c.args.rows.now c.partition_point.result c.partition_point.ensures.partitioned (IsPartitionedBy-ltb (λ (r : Span). r.from) c.args.rows.now c.args.high c.requires) (λ a r q k. search rules)
