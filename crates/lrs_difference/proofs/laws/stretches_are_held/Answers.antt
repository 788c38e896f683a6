use Rattle.lrs_difference.proofs.HeldPlaces.{are_held}
use Rattle.lrs_difference.proofs.laws.stretches_are_held.Goals as goal

pub returns : goal.returns
returns c = are_held
