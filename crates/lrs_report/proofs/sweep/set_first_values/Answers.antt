use Rattle.std.proofs.Common.{arith}
use Rattle.lrs_report.specs.Columns.{first_value}
use Rattle.lrs_report.proofs.Passing.{next_put}
use Rattle.lrs_report.proofs.sweep.set_first_values.Goals as goal

pub loop-i-preserved : goal.loop-i-preserved
loop-i-preserved g c =
    next_put first_value c.loop-i.i c.args.columns.now c.args.values.now.items c.loop-i.values.items c.index-columns-i.result c.value.result c.requires (let t = c.loop-i-test.true in omega (arith, t)) c.loop-i.invariant c.index-columns-i.is c.value.ensures
