use Rattle.lrs_image_sound.proofs.Originated.{some_agrees, none_agrees}
use Rattle.lrs_image_sound.proofs.origins.agrees.Goals as goal

pub returns-in-Some : goal.returns-in-Some
returns-in-Some c = some_agrees c.args.assets.now c.args.part.now c.in-Some.asset c.in-Some.ensures

pub returns-in-None : goal.returns-in-None
returns-in-None c = none_agrees c.args.assets.now c.args.part.now c.in-None.ensures
