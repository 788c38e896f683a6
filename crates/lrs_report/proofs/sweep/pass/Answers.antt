use Rattle.std.proofs.Common.{arith}
use Rattle.std.proofs.lemmas.Grind.{common_steps}
use Rattle.lrs_report.specs.Columns.{behind}
use Rattle.lrs_report.proofs.Passing.{next_changed}
use Rattle.lrs_report.proofs.sweep.pass.Goals as goal

pub loop-i-preserved : goal.loop-i-preserved
loop-i-preserved g c = next_changed (behind c.args.to) c.loop-i.i c.args.columns.now.items c.loop-i.columns.items c.index_mut.result.now c.pass.new.self (let t = c.loop-i-test.true in let e = c.len-i-end.ensures in omega (arith, t, e)) c.loop-i.invariant c.index_mut.ensures.value c.pass.ensures

pub returns : goal.returns
returns g c = grind (arith, common_steps)
