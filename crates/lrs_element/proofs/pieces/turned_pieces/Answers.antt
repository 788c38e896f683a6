use Rattle.std.proofs.Common.{arith}
use Rattle.std.proofs.lemmas.Grind.{common_steps}
use Rattle.lrs_element.proofs.Counting.{IsFewest-nil}
use Rattle.lrs_element.proofs.Walking.{turned_step, turned_none}
use Rattle.lrs_element.proofs.pieces.turned_pieces.Goals as goal

pub loop-i-init : goal.loop-i-init
loop-i-init c = rw c.new-out.ensures.items (record { fewest = IsFewest-nil; turned = turned_none c.args.pieces.now _ (omega arith); count = omega arith })

pub loop-i-preserved : goal.loop-i-preserved
loop-i-preserved c = record {
  fewest = c.in_ok-push_piece.ensures.fewest;
  turned = turned_step _ _ c.loop-i.i _ _ _ _ (omega (arith, c.loop-i.auto.i)) (omega arith) c.loop-i.invariant.turned c.turned.ensures.turned c.in_ok-push_piece.ensures.ok;
  count = omega (arith, c.loop-i.invariant.count, c.in_ok-push_piece.ensures.count);
}

pub returns-clause-turned : goal.returns-clause-turned
returns-clause-turned c = grind (arith, common_steps)

pub returns-clause-fewest : goal.returns-clause-fewest
returns-clause-fewest c = grind (arith, common_steps)

pub returns-clause-count : goal.returns-clause-count
returns-clause-count c = grind (arith, common_steps)
