use Rattle.lrs_events.proofs.Row.Fewest.{none_is_shorter}
use Rattle.lrs_events.proofs.rows.laws.none_is_shorter.Goals as goal

pub returns : goal.returns
returns c = none_is_shorter
