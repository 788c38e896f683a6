use Rattle.lrs_inventory.proofs.Keyed.{IsIndex-empty}
use Rattle.lrs_inventory.proofs.keys.KeyIndex.new.Goals as goal

pub returns : goal.returns
returns c = IsIndex-empty (record { newest = c.new.result; earlier = c.new-2.result }) c.new.ensures.empty c.new-2.ensures.empty
