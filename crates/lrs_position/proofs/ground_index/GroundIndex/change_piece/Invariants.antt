use Rattle.std.proofs.Common.{◌≤◌, ◌≡◌, ◌⊎◌}
use Rattle.lrs_position.proofs.Index.Handing.{IsHanded}
use Rattle.lrs_position.proofs.ground_index.GroundIndex.change_piece.Given as goal

abbrev pub invariant-loop-begin : goal.invariant-loop-begin
invariant-loop-begin l = record {
  handed : IsHanded l.fn.self l.self l.piece.link l.edge l.piece.to l.heir;
  within : l.edge ≤ l.piece.to;
  reached : (l.edge ≡ l.piece.to) ⊎ (l.piece.from ≤ l.edge);
}

-- each turn goes back along the link
abbrev pub decreases-loop-begin : goal.decreases-loop-begin
decreases-loop-begin l = l.edge
