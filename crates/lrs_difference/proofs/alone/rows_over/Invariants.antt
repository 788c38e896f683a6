use Rattle.std.proofs.Common.{drop}
use Rattle.lrs_difference.specs.Sweep.{AreGathered}
use Rattle.lrs_difference.proofs.alone.rows_over.Given as goal

abbrev pub invariant-loop-edge : goal.invariant-loop-edge
invariant-loop-edge l = AreGathered l.left l.right l.at (drop l.edge-index l.edges) l.rows.items
