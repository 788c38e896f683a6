use Rattle.std.specs.Prelude.{nat_le}
use Rattle.std.specs.List.{find}
use Rattle.lrs_report.proofs.Drawings.Searching.{passed}
use Rattle.lrs_report.proofs.diagrams.scale.first_from.Goals as goal

pub loop-number-preserved : goal.loop-number-preserved
loop-number-preserved c =
    passed c.args.least c.loop-number.number-index c.args.numbers.now (find (nat_le c.args.least) c.args.numbers.now) c.loop-number-test.true c.if-least-number.false c.loop-number.invariant
