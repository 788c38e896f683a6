use Rattle.std.proofs.Common.{◌≡◌, ℕ, ◌+◌, ◌<◌, false, length, get_or}
use Rattle.lrs_element.specs.declared.link.Piece.{Piece}
use Rattle.lrs_element.specs.Pieces.{pieces_meet}
use Rattle.lrs_element.proofs.checks.neighbours_meet.Given as goal

abbrev pub invariant-loop-i : goal.invariant-loop-i
invariant-loop-i l = (k : ℕ) (d : Piece) → k + 1 < l.i → k + 1 < length l.pieces → pieces_meet (get_or l.pieces k d) (get_or l.pieces (k + 1) d) ≡ false
