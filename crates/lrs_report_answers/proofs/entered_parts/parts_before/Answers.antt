use Rattle.std.proofs.Common.{rules}
use Rattle.std.specs.Prelude.{nat_lt}
use Rattle.std.proofs.lemmas.List.Sorted.{IsPartitionPoint-from_clause, IsPartitionedBy-ltb}
use Rattle.lrs_events.specs.declared.part.Part.{Part}
use Rattle.lrs_report_answers.proofs.entered_parts.parts_before.Goals as goal

pub returns-clause-point : goal.returns-clause-point
returns-clause-point c =
    IsPartitionPoint-from_clause (λ (p : Part). nat_lt p.edit c.args.edit) c.args.parts.now c.partition_point.result c.partition_point.ensures.partitioned (IsPartitionedBy-ltb (λ (p : Part). p.edit) c.args.parts.now c.args.edit c.requires) (λ a r q k. search rules)
