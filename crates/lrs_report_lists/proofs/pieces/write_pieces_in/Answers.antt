use Rattle.std.proofs.Common.{◌≡◌, ◌+◌, ◌∙◌, ◌++◌, false, refl, ap, sym, get_or, arith}
use Rattle.std.specs.Prelude.{ℕ}
use Rattle.std.specs.List.{flat_map}
use Rattle.lrs_element.specs.Pieces.{piece_len}
use Rattle.lrs_element.specs.declared.link.Piece.{Piece}
use Rattle.lrs_report_lists.specs.Lines.{piece_line}
use Rattle.lrs_report_lists.specs.PlacedPieces.{placed_from}
use Rattle.lrs_report_lists.proofs.Placed.{filled_next, text_end, text_from, text_next}
use Rattle.lrs_report_lists.proofs.Writing.{leads_end, leads_first, leads_next}
use Rattle.lrs_report_lists.proofs.pieces.write_pieces_in.Goals as goal

abbrev no_piece : Piece
no_piece = record { link = 0; from = 0; to = 0; forward = false }

pub loop-piece-init : goal.loop-piece-init
loop-piece-init g c =
    let line = piece_line c.args.route.now in
    record {
      written = leads_first (g.W.Write.contents c.args.writer.now) (text_from line c.args.pieces.now 0 0) (flat_map line (placed_from 0 c.args.pieces.now)) refl;
      low = omega arith;
      filled = c.requires.filled;
    }

pub len-requires : goal.len-requires
len-requires g c = (filled_next c.loop-piece.piece-index c.args.pieces.now no_piece c.loop-piece-test.true c.loop-piece.invariant.filled).0

pub overflow_add-end : goal.overflow_add-end
overflow_add-end g c =
    let low = c.loop-piece.invariant.low in
    let few = c.requires.few in
    let small = c.len.ensures.small in
    omega arith

pub write_piece-requires : goal.write_piece-requires
write_piece-requires g c = record { end = ap (λ (n : ℕ). c.loop-piece.at + n) c.len.ensures.len }

pub loop-piece-preserved : goal.loop-piece-preserved
loop-piece-preserved g c =
    let line = piece_line c.args.route.now in
    let ps = c.args.pieces.now in
    let i = c.loop-piece.piece-index in
    let at = c.loop-piece.at in
    let p = get_or ps i no_piece in
    let low = c.loop-piece.invariant.low in
    let small = c.len.ensures.small in
    let end : at + piece_len p ≡ at + c.len.result = ap (λ (n : ℕ). at + n) (sym c.len.ensures.len) in
    record {
      written = leads_next (g.W.Write.contents c.args.writer.now) (g.W.Write.contents c.loop-piece.writer) (g.W.Write.contents c.write_piece.new.writer) (line (at, p)) (text_from line ps (at + c.len.result) (i + 1)) (text_from line ps at i)
          (flat_map line (placed_from 0 ps)) c.loop-piece.invariant.written (text_next line ps i at no_piece c.loop-piece-test.true ∙ ap (λ (n : ℕ). line (at, p) ++ text_from line ps n (i + 1)) end) c.in_ok-write_piece.ensures;
      low = omega arith;
      filled = (filled_next i ps no_piece c.loop-piece-test.true c.loop-piece.invariant.filled).1;
    }

pub returns : goal.returns
returns g c =
    let line = piece_line c.args.route.now in
    let ps = c.args.pieces.now in
    leads_end (g.W.Write.contents c.args.writer.now) (g.W.Write.contents c.loop-piece.writer) (text_from line ps c.loop-piece.at c.loop-piece.piece-index) (flat_map line (placed_from 0 ps)) c.loop-piece.invariant.written
    (text_end line ps c.loop-piece.piece-index c.loop-piece.at (omega arith))
