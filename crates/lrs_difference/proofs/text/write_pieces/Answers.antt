use Rattle.std.proofs.Common.{false}
use Rattle.lrs_element.specs.declared.link.Piece.{Piece}
use Rattle.lrs_machine.specs.Lines.{piece_text}
use Rattle.lrs_difference.proofs.Words.{word_next}
use Rattle.lrs_difference.proofs.text.write_pieces.Goals as goal

pub loop-i-preserved : goal.loop-i-preserved
loop-i-preserved g c =
    let none : Piece = record { link = 0; from = 0; to = 0; forward = false } in
    word_next piece_text c.args.pieces.now c.loop-i.i none _ _ _ _ c.loop-i-test.true c.loop-i.invariant c.in_ok-write_space.ensures c.in_ok-write_piece.ensures
