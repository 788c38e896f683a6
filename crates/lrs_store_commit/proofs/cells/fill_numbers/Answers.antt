use Rattle.std.proofs.Common.{rules}
use Rattle.lrs_store_commit.proofs.CellLemmas.{numbers_more}
use Rattle.lrs_store_commit.proofs.cells.fill_numbers.Goals as goal

pub loop-i-preserved : goal.loop-i-preserved
loop-i-preserved c = record {
  room = search rules;
  filled = numbers_more c.loop-i.i _ c.args.numbers.now c.loop-i.cells c.in_ok-cells.field-0 c.loop-i-test.true c.loop-i.invariant.room c.in_ok-cells.ensures c.loop-i.invariant.filled;
}
