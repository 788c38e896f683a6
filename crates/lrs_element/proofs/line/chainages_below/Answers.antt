use Rattle.std.proofs.Common.{◌≡◌, ◌*◌, true, false, nat_lt, arith, rules}
use Rattle.std.specs.List.Sorted.{IsPartitionPoint}
use Rattle.std.proofs.lemmas.List.Sorted.{IsPartitionPoint-from_clause, IsPartitionedBy-ltb}
use Rattle.std.proofs.lemmas.Bool.{ltb-true, ltb-false}
use Rattle.lrs_element.specs.declared.marks.Mark.{Mark}
use Rattle.lrs_element.specs.Line.{chainage_of}
use Rattle.lrs_element.proofs.LineLemmas.{scaled_in_order}
use Rattle.lrs_element.proofs.line.chainages_below.Goals as goal

found : (c : goal.After-partition_point) → IsPartitionPoint (λ (m : Mark). nat_lt (m.chainage * c.args.d) c.args.n ≡ true) (λ (m : Mark). nat_lt (m.chainage * c.args.d) c.args.n ≡ false) c.args.marks.now c.partition_point.result
found c = IsPartitionPoint-from_clause (λ (m : Mark). nat_lt (m.chainage * c.args.d) c.args.n) c.args.marks.now c.partition_point.result c.partition_point.ensures.partitioned
    (IsPartitionedBy-ltb (λ (m : Mark). m.chainage * c.args.d) c.args.marks.now c.args.n (scaled_in_order chainage_of (λ p q h. h.chainage) c.args.marks.now c.args.d c.requires.marks)) (λ a r q k. search rules)

pub returns : goal.returns
returns c = record {
  bound = c.partition_point.ensures.bound;
  before = λ i z h. ltb-true _ _ ((found c).0 i z (omega arith) h);
  after = λ i z h l. ltb-false _ _ ((found c).1 i z h l);
}
