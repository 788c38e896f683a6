use Rattle.lrs_position.proofs.Entries.{HasWalked}
use Rattle.lrs_position.proofs.link_position.chainage_on.Given as goal

abbrev pub invariant-loop-piece : goal.invariant-loop-piece
invariant-loop-piece l = HasWalked l.piece-items (l.link, l.mm) l.piece-index l.start
