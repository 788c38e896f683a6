use Rattle.lrs_machine.proofs.Lawful.{every_run_is_lawful}
use Rattle.lrs_machine.proofs.laws.every_run_is_lawful.Goals as goal

pub returns : goal.returns
returns c = every_run_is_lawful
