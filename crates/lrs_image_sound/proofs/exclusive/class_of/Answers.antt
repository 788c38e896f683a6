use Rattle.lrs_measure.specs.Texts.{same_name}
use Rattle.lrs_events.specs.declared.class.Asset.{Asset}
use Rattle.lrs_image_sound.proofs.exclusive.class_of.Goals as goal

pub returns-in-Some : goal.returns-in-Some
returns-in-Some c = λ class. c.in-Some.ensures (λ (a : Asset). same_name a.class class)

pub returns-in-None : goal.returns-in-None
returns-in-None c = λ class. c.in-None.ensures (λ (a : Asset). same_name a.class class)
