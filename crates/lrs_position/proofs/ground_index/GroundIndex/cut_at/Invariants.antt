use Rattle.std.proofs.Common.{take}
use Rattle.lrs_position.proofs.Index.Cutting.{AreCut}
use Rattle.lrs_position.proofs.ground_index.GroundIndex.cut_at.Given as goal

abbrev pub invariant-loop-piece : goal.invariant-loop-piece
invariant-loop-piece l = AreCut l.fn.self l.self (take l.piece-index l.pieces)
