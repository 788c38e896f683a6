use Rattle.std.proofs.Common.{sym, ◌∙◌}
use Rattle.lrs_machine.specs.Sound.{share_nothing}
use Rattle.lrs_image_sound.proofs.Sweeping.{found, more}
use Rattle.lrs_image_sound.proofs.sweep.neighbours_share_nothing.Goals as goal

pub returns-then-not-share_nothing-clause-some : goal.returns-then-not-share_nothing-clause-some
returns-then-not-share_nothing-clause-some c = found share_nothing c.args.parts.now c.loop-i.i _ c.loop-i.auto.i c.loop-i-test.true (sym c.share_nothing.ensures ∙ c.if-not-share_nothing.true)

pub loop-i-preserved : goal.loop-i-preserved
loop-i-preserved c = more share_nothing c.args.parts.now c.loop-i.i _ c.loop-i.auto.i c.loop-i-test.true c.loop-i.invariant (sym c.share_nothing.ensures ∙ c.if-not-share_nothing.false)
