use Rattle.std.proofs.Common.{arith}
use Rattle.std.proofs.lemmas.Grind.{common_steps}
use Rattle.lrs_element.proofs.Walking.{range_step}
use Rattle.lrs_element.proofs.pieces.push_range.Goals as goal

pub loop-piece-preserved : goal.loop-piece-preserved
loop-piece-preserved c = record {
  fewest = c.in_ok-push_part.ensures.fewest;
  added = rw (c.saturating_sub-from.ensures, c.saturating_sub-to.ensures) (range_step _ c.loop-piece.piece-index c.loop-piece.from c.loop-piece.to c.len-len.result _ _ _ _ c.loop-piece-test.true c.len-len.ensures.len c.loop-piece.invariant.added c.in_ok-push_part.ensures.ok);
  count = omega arith;
}

pub returns-clause-ok : goal.returns-clause-ok
returns-clause-ok c = grind (arith, common_steps)

pub returns-clause-fewest : goal.returns-clause-fewest
returns-clause-fewest c = grind (arith, common_steps)

pub returns-clause-count : goal.returns-clause-count
returns-clause-count c = grind (arith, common_steps)
