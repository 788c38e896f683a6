use Rattle.std.proofs.Common.{◌<◌, length, arith, rules}
use Rattle.lrs_element.proofs.Walking.{starts_more, starts_all, start_of_more, start_of_all}
use Rattle.lrs_element.proofs.pieces.starts_of.Goals as goal

pub loop-piece-init : goal.loop-piece-init
loop-piece-init c = record { count = rw c.in_ok-starts.ensures.items (search rules); start = λ k h. absurd (omega arith); len = search rules; bound = omega arith }

pub overflow_add-len : goal.overflow_add-len
overflow_add-len c = let i : c.loop-piece.piece-index < length c.args.pieces.now = c.loop-piece-test.true in omega (arith, c.loop-piece.invariant.bound, c.len-len.ensures.small, c.requires.few)

pub loop-piece-preserved : goal.loop-piece-preserved
loop-piece-preserved c = record {
  count = rw c.in_ok-push.ensures.items (starts_more _ _ _ _ c.loop-piece.invariant.count c.loop-piece.invariant.start c.loop-piece.invariant.len).count;
  start = rw c.in_ok-push.ensures.items (starts_more _ _ _ _ c.loop-piece.invariant.count c.loop-piece.invariant.start c.loop-piece.invariant.len).start;
  len = start_of_more _ _ _ _ _ c.loop-piece-test.true c.loop-piece.invariant.len c.len-len.ensures.len;
  bound = omega (arith, c.loop-piece.invariant.bound, c.len-len.ensures.small);
}

pub returns-clause-starts : goal.returns-clause-starts
returns-clause-starts c = starts_all _ _ _ c.loop-piece-test.false (omega arith) c.loop-piece.invariant.count c.loop-piece.invariant.start

pub returns-clause-len : goal.returns-clause-len
returns-clause-len c = start_of_all _ _ _ c.loop-piece-test.false c.loop-piece.invariant.len
