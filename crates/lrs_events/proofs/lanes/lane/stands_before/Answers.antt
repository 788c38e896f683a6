use Rattle.std.proofs.Common.{sym, ◌∙◌, arith}
use Rattle.lrs_events.proofs.LaneLists.Fronts.{stands_up_to}
use Rattle.lrs_events.proofs.lanes.lane.stands_before.Goals as goal

pub returns-then-front-eq0 : goal.returns-then-front-eq0
returns-then-front-eq0 c h k d low high = absurd (omega (arith, high, c.if-front-eq0.true))

pub returns-else-front-eq0 : goal.returns-else-front-eq0
returns-else-front-eq0 c h =
    stands_up_to c.args.front c.args.rows.now c.args.other.now c.index-rows-front.result c.if-front-eq0.false c.requires.within c.requires.order c.index-rows-front.is (sym c.comes_before.ensures ∙ h)
