use Rattle.lrs_position.proofs.Index.Putting.{apart_empty}
use Rattle.lrs_position.proofs.Index.Over.{nothing_over}
use Rattle.lrs_position.proofs.ground_index.GroundIndex.new.Goals as goal

pub invariant_of-result : goal.invariant_of-result
invariant_of-result c = rw c.new.ensures.empty apart_empty

pub returns-clause-nothing : goal.returns-clause-nothing
returns-clause-nothing c = rw c.new.ensures.empty nothing_over
