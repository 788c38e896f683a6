use Rattle.lrs_measure.proofs.Runs.{runs_are_one}
use Rattle.lrs_measure.proofs.laws.runs_are_one.Goals as goal

pub returns : goal.returns
returns g c = runs_are_one _
