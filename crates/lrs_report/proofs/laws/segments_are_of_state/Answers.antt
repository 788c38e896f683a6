use Rattle.lrs_report.proofs.States.{of_state}
use Rattle.lrs_report.proofs.laws.segments_are_of_state.Goals as goal

pub returns : goal.returns
returns c = of_state
