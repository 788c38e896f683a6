use Rattle.std.proofs.Common.{sym, ◌∙◌}
use Rattle.lrs_element.proofs.Apart.{adjacent_found, adjacent_more}
use Rattle.lrs_element.proofs.checks.neighbours_meet.Goals as goal

pub returns-then-meets-clause-meet : goal.returns-then-meets-clause-meet
returns-then-meets-clause-meet c = adjacent_found c.args.pieces.now c.loop-i.i _ c.loop-i.auto.i c.loop-i-test.true (sym c.meets.ensures ∙ c.if-meets.true)

pub loop-i-preserved : goal.loop-i-preserved
loop-i-preserved c = adjacent_more c.args.pieces.now c.loop-i.i _ c.loop-i.auto.i c.loop-i-test.true c.loop-i.invariant (sym c.meets.ensures ∙ c.if-meets.false)
