use Rattle.std.proofs.Common.{◌≡◌, ℕ, true, false, nat_le, arith, rules}
use Rattle.std.specs.List.Sorted.{IsPartitionPoint}
use Rattle.std.proofs.lemmas.Bool.{leb-true, leb-false}
use Rattle.std.proofs.lemmas.List.Sorted.{IsPartitionPoint-from_clause, IsPartitionedBy-leb}
use Rattle.lrs_element.proofs.pieces.starts_up_to.Goals as goal

found : (c : goal.After-partition_point) → IsPartitionPoint (λ (s : ℕ). nat_le s c.args.j ≡ true) (λ (s : ℕ). nat_le s c.args.j ≡ false) c.args.starts.now c.partition_point.result
found c = IsPartitionPoint-from_clause (λ (s : ℕ). nat_le s c.args.j) c.args.starts.now c.partition_point.result c.partition_point.ensures.partitioned (IsPartitionedBy-leb (λ (n : ℕ). n) c.args.starts.now c.args.j c.requires) (λ a r q k. search rules)

pub returns-clause-up_to : goal.returns-clause-up_to
returns-clause-up_to c = λ k h. leb-true _ _ ((found c).0 k 0 (omega arith) h)

pub returns-clause-behind : goal.returns-clause-behind
returns-clause-behind c = λ k h l. leb-false _ _ ((found c).1 k 0 h l)
