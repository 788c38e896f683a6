use Rattle.std.proofs.Common.{refl}
use Rattle.std.specs.Fmt.{digits}
use Rattle.lrs_machine.specs.Machine.{step, attempt}
use Rattle.lrs_examples.proofs.retirements.retired_for_good.Goals as goal

pub returns : goal.returns
unfolding digits step attempt
returns c = (refl, refl, refl)
