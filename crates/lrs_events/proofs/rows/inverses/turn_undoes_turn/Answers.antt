use Rattle.lrs_events.proofs.Row.Back.{turn_undoes_turn}
use Rattle.lrs_events.proofs.rows.inverses.turn_undoes_turn.Goals as goal

pub returns : goal.returns
returns c = turn_undoes_turn
