use Rattle.lrs_events.proofs.Row.Back.{join_undoes_cut}
use Rattle.lrs_events.proofs.rows.inverses.join_undoes_cut.Goals as goal

pub returns : goal.returns
returns c = join_undoes_cut
