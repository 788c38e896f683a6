use Rattle.lrs_image_sound.proofs.Fitting.{referents_answer}
use Rattle.lrs_image_sound.proofs.referents.are_referents.Goals as goal

pub returns : goal.returns
returns c = referents_answer c.args.routes.now c.in_ok-names.names.items c.differ.result c.in_ok-names.ensures c.differ.ensures
