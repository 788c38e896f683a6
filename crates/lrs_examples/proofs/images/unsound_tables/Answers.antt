use Rattle.std.proofs.Common.{refl}
use Rattle.std.specs.Fmt.{digits}
use Rattle.lrs_machine.specs.Sound.{first_unsound}
use Rattle.lrs_examples.proofs.images.unsound_tables.Goals as goal

pub returns : goal.returns
unfolding digits first_unsound
returns c = (refl, refl, refl, refl, refl, refl, refl, refl, refl, refl)
