use Rattle.std.proofs.Common.{◌∙◌, slice_get}
use Rattle.lrs_image_sound.proofs.Keyed.{class_excludes, none_excludes}
use Rattle.lrs_image_sound.proofs.exclusive.exclusive_class.Goals as goal

pub returns-in-None : goal.returns-in-None
returns-in-None c = λ k. none_excludes c.args.assets.now (slice_get c.args.classes.now k) c.args.asset c.in-None.ensures

pub returns-in-Some : goal.returns-in-Some
returns-in-Some c = λ k. class_excludes c.args.assets.now (slice_get c.args.classes.now k) c.args.asset _ c.in-Some.ensures ∙ c.exclusive_place.ensures k
