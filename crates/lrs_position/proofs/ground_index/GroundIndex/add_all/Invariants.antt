use Rattle.std.proofs.Common.{take}
use Rattle.lrs_position.specs.Index.Ground.{HasGained}
use Rattle.lrs_position.proofs.ground_index.GroundIndex.add_all.Given as goal

abbrev pub invariant-loop-i : goal.invariant-loop-i
invariant-loop-i l = HasGained l.fn.self l.self l.route (take l.i l.pieces)
