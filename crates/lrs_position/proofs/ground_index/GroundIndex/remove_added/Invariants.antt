use Rattle.std.proofs.Common.{take}
use Rattle.lrs_position.proofs.Index.Losing.{IsWithout}
use Rattle.lrs_position.proofs.ground_index.GroundIndex.remove_added.Given as goal

abbrev pub invariant-loop-piece : goal.invariant-loop-piece
invariant-loop-piece l = IsWithout l.fn.self l.self (take l.piece-index l.pieces)
