use Rattle.std.proofs.Common.{take}
use Rattle.lrs_position.proofs.Index.Handing.{AreHanded}
use Rattle.lrs_position.proofs.ground_index.GroundIndex.change_all.Given as goal

abbrev pub invariant-loop-piece : goal.invariant-loop-piece
invariant-loop-piece l = AreHanded l.fn.self l.self (take l.piece-index l.pieces) l.heir
