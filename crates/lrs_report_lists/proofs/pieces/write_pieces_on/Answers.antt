use Rattle.std.proofs.Common.{ap}
use Rattle.std.specs.Prelude.{List}
use Rattle.std.specs.List.{flat_map}
use Rattle.lrs_element.specs.declared.link.Piece.{Piece}
use Rattle.lrs_report_lists.specs.Lines.{piece_line}
use Rattle.lrs_report_lists.specs.PlacedPieces.{placed_from, placed_pieces}
use Rattle.lrs_report_lists.proofs.CoursePieces.{are-pieces}
use Rattle.lrs_report_lists.proofs.Placed.{few_pieces}
use Rattle.lrs_report_lists.proofs.Writing.{as_text}
use Rattle.lrs_report_lists.proofs.pieces.write_pieces_on.Goals as goal

pub write_pieces_in-requires : goal.write_pieces_in-requires
write_pieces_in-requires g c = record {
  few = few_pieces c.args.course.now c.pieces.result.now c.pieces.ensures.course c.pieces.ensures.fewest c.pieces.ensures.limits;
  filled = c.pieces.ensures.fewest.filled;
}

pub returns : goal.returns
returns g c =
    let line = piece_line c.args.route.now in
    as_text c.write_pieces_in.result _ _ _ (flat_map line (placed_pieces c.args.course.now)) c.write_pieces_in.ensures
    (ap (λ (ps : List Piece). flat_map line (placed_from 0 ps)) (are-pieces c.pieces.result.now c.args.course.now c.pieces.ensures.course c.pieces.ensures.fewest))
