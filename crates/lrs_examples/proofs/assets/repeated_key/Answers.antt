use Rattle.std.proofs.Common.{refl}
use Rattle.std.specs.Fmt.{digits}
use Rattle.lrs_machine.specs.Machine.{step, attempt}
use Rattle.lrs_examples.proofs.assets.repeated_key.Goals as goal

pub returns : goal.returns
unfolding digits step attempt
returns c = refl
