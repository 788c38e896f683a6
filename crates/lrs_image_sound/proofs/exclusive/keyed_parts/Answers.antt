use Rattle.std.proofs.Common.{ap, ◌∙◌, arith}
use Rattle.lrs_image_sound.specs.Exclusive.{is_place}
use Rattle.lrs_image_sound.proofs.Excluding.{keyed_yes_at, keyed_no_at}
use Rattle.lrs_image_sound.proofs.exclusive.keyed_parts.Goals.{in-Some+in_ok-push, in_default}
use Rattle.lrs_image_sound.proofs.exclusive.keyed_parts.Goals as goal

pub loop-part-preserved : goal.loop-part-preserved
loop-part-preserved c = elim c.match-exclusive_class.branch [
  | in-Some+in_ok-push w ↦ keyed_yes_at c.args.assets.now c.args.classes.now c.args.held.now c.loop-part.keyed.items c.match-exclusive_class.keyed.items c.loop-part.part-index w.in-Some.class _
      (omega (arith, c.loop-part-test.true)) c.requires.filled c.loop-part.invariant w.in-Some.ensures (ap (λ v. v.items) w.keyed-is ∙ w.in_ok-push.ensures.items)
  | in_default w ↦ keyed_no_at c.args.assets.now c.args.classes.now c.args.held.now c.loop-part.keyed.items c.match-exclusive_class.keyed.items c.loop-part.part-index _
      (omega (arith, c.loop-part-test.true)) c.loop-part.invariant (λ k. c.exclusive_class.ensures k ∙ ap (λ o. is_place o k) w.in_default.is) (ap (λ v. v.items) w.keyed-is)
]
