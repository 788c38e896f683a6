use Rattle.lrs_promises.proofs.Again.{part_goes_on}
use Rattle.lrs_promises.proofs.log.a_part_goes_on_with_a_copy.Goals as goal

pub returns : goal.returns
returns c = part_goes_on
