use Rattle.lrs_image_sound.proofs.Originated.{number_at, number_nowhere}
use Rattle.lrs_image_sound.proofs.origins.has_number.Goals as goal

pub returns-in-Ok : goal.returns-in-Ok
returns-in-Ok c = number_at c.args.numbers.now c.args.number c.in-Ok.field-0 c.in-Ok.ensures.bound c.in-Ok.ensures.ok

pub returns-in-Err : goal.returns-in-Err
returns-in-Err c = number_nowhere c.args.numbers.now c.args.number c.in-Err.field-0 c.requires c.in-Err.ensures.position
