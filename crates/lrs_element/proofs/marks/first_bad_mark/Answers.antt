use Rattle.lrs_element.proofs.Lining.{search_on}
use Rattle.lrs_element.specs.Marks.{no_mark}
use Rattle.lrs_element.proofs.marks.first_bad_mark.Goals as goal

pub loop-i-preserved : goal.loop-i-preserved
loop-i-preserved c = search_on c.args.len c.loop-i.before c.args.marks.now c.loop-i.i no_mark c.is_bad.result _ c.loop-i-test.true c.if-is_bad.false c.is_bad.ensures c.loop-i.invariant
