use Rattle.lrs_machine.proofs.Runs.{repeated_key_acts_once}
use Rattle.lrs_machine.proofs.laws.repeated_key_acts_once.Goals as goal

pub returns : goal.returns
returns c = repeated_key_acts_once
