use Rattle.lrs_inventory.specs.Keys.{digest}
use Rattle.lrs_inventory.proofs.keys.digest_of.Goals as goal
use Rattle.std.proofs.Common.{rules}

pub returns : goal.returns
unfolding digest
returns c = search rules
