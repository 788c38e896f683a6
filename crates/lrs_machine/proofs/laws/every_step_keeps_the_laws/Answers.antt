use Rattle.lrs_machine.proofs.Lawful.{every_step_keeps_the_laws}
use Rattle.lrs_machine.proofs.laws.every_step_keeps_the_laws.Goals as goal

pub returns : goal.returns
returns c = every_step_keeps_the_laws
