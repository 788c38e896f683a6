use Rattle.std.proofs.Common.{List, ap}
use Rattle.std.specs.List.{flat_map}
use Rattle.lrs_element.specs.declared.link.Piece.{Piece}
use Rattle.lrs_report_lists.specs.PlacedPieces.{placed_from}
use Rattle.lrs_report_lists.proofs.CoursePieces.{are-pieces}
use Rattle.lrs_report_lists.proofs.Placed.{few_pieces}
use Rattle.lrs_difference.specs.Held.{held_on_piece}
use Rattle.lrs_difference.proofs.Gathered.{pushed_as}
use Rattle.lrs_difference.proofs.link_stretches.push_row.Goals as goal

pub push_on_pieces-requires : goal.push_on_pieces-requires
push_on_pieces-requires c = record {
  filled = c.pieces.ensures.fewest.filled;
  few = few_pieces c.args.course.now c.pieces.result.now c.pieces.ensures.course c.pieces.ensures.fewest c.pieces.ensures.limits;
}

pub returns : goal.returns
returns c =
    pushed_as c.push_on_pieces.result c.push_on_pieces.new.held.items c.args.held.now.items _ _ c.push_on_pieces.ensures
    (ap (λ (ps : List Piece). flat_map (held_on_piece c.args.row.now) (placed_from 0 ps)) (are-pieces c.pieces.result.now c.args.course.now c.pieces.ensures.course c.pieces.ensures.fewest))
