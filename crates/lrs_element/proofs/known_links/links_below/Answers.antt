use Rattle.std.proofs.Common.{◌≡◌, true, false, nat_lt, arith, rules}
use Rattle.std.specs.List.Sorted.{IsPartitionPoint}
use Rattle.std.proofs.lemmas.Bool.{ltb-true, ltb-false}
use Rattle.std.proofs.lemmas.List.Sorted.{IsPartitionPoint-from_clause, IsPartitionedBy-ltb}
use Rattle.lrs_element.specs.declared.link.Link.{Link}
use Rattle.lrs_element.proofs.Finding.{numbers_rise}
use Rattle.lrs_element.proofs.known_links.links_below.Goals as goal

found : (c : goal.After-partition_point) → IsPartitionPoint (λ (l : Link). nat_lt l.number c.args.number ≡ true) (λ (l : Link). nat_lt l.number c.args.number ≡ false) c.args.links.now c.partition_point.result
found c = IsPartitionPoint-from_clause (λ (l : Link). nat_lt l.number c.args.number) c.args.links.now c.partition_point.result c.partition_point.ensures.partitioned (IsPartitionedBy-ltb (λ (l : Link). l.number) c.args.links.now c.args.number (numbers_rise c.args.links.now c.requires)) (λ a r q k. search rules)

pub returns-clause-below : goal.returns-clause-below
returns-clause-below c = λ k l h. ltb-true _ _ ((found c).0 k l (omega arith) h)

pub returns-clause-from : goal.returns-clause-from
returns-clause-from c = λ k l h in'. ltb-false _ _ ((found c).1 k l h in')
