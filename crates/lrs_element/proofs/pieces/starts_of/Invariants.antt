use Rattle.std.proofs.Common.{◌≡◌, ℕ, ◌*◌, ◌≤◌, ◌<◌, length, get_or}
use Rattle.lrs_element.specs.Pieces.{start_of}
use Rattle.lrs_element.proofs.pieces.starts_of.Given as goal

abbrev pub invariant-loop-piece : goal.invariant-loop-piece
invariant-loop-piece l = record {
  count : length l.starts.items ≡ l.piece-index;
  start : (k : ℕ) → k < l.piece-index → get_or l.starts.items k 0 ≡ start_of l.pieces k;
  len : l.len ≡ start_of l.pieces l.piece-index;
  bound : l.len ≤ l.piece-index * 4_294_967_295;
}
