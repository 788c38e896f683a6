use Rattle.lrs_machine.proofs.Stop.Stopping.{answers_are_of_fold}
use Rattle.lrs_machine.proofs.stops.laws.answers_are_of_the_fold.Goals as goal

pub returns : goal.returns
returns c = answers_are_of_fold
