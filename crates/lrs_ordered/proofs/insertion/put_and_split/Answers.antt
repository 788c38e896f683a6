use Rattle.std.proofs.Common.{arith}
use Rattle.lrs_ordered.proofs.Filled.{filled_from, put_front, put_rear}
use Rattle.lrs_ordered.proofs.insertion.put_and_split.Goals as goal

pub returns-then-at-le-HALF-clause-rows : goal.returns-then-at-le-HALF-clause-rows
returns-then-at-le-HALF-clause-rows g c =
    let s = c.split_into.ensures in
    put_front c.args.chunk.now c.split_into.new.self c.split_into.new.rear c.insert.new.self 64 c.args.at c.args.row s.front s.rear c.insert.ensures (omega (arith, c.requires.full)) (omega arith)

pub returns-then-at-le-HALF-clause-filled_rear : goal.returns-then-at-le-HALF-clause-filled_rear
returns-then-at-le-HALF-clause-filled_rear g c = filled_from _ (omega (arith, c.split_into.ensures.len_rear, c.requires.full))

pub returns-else-at-le-HALF-clause-rows : goal.returns-else-at-le-HALF-clause-rows
returns-else-at-le-HALF-clause-rows g c =
    let s = c.split_into.ensures in
    put_rear c.args.chunk.now c.split_into.new.self c.split_into.new.rear c.insert-else-at-le-HALF.new.self 64 c.args.at c.args.row s.front s.rear c.insert-else-at-le-HALF.ensures (omega (arith, c.requires.full)) (omega arith)
