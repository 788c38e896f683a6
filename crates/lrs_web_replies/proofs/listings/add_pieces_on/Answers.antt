use Rattle.std.proofs.Common.{◌∷◌, [], ap, ◌∙◌}
use Rattle.std.specs.Prelude.{List, ℕ}
use Rattle.std.specs.List.{flat_map}
use Rattle.lrs_element.specs.declared.link.Piece.{Piece}
use Rattle.lrs_report_lists.specs.PlacedPieces.{placed_from, placed_pieces}
use Rattle.lrs_report_lists.proofs.CoursePieces.{are-pieces}
use Rattle.lrs_report_lists.proofs.Placed.{few_pieces}
use Rattle.lrs_web_replies.proofs.Paging.{as_items, each_alone}
use Rattle.lrs_web_replies.specs.Listings.{piece_data, pieces_on}
use Rattle.lrs_web_replies.proofs.listings.add_pieces_on.Goals as goal

pub add_pieces_in-requires : goal.add_pieces_in-requires
add_pieces_in-requires c = record {
  few = few_pieces c.args.route.now.course c.pieces.result.now c.pieces.ensures.course c.pieces.ensures.fewest c.pieces.ensures.limits;
  filled = c.pieces.ensures.fewest.filled;
}

pub returns : goal.returns
returns c =
    let route = c.args.route.now in
    let items = λ (one : ℕ × Piece). piece_data route one ∷ [] in
    as_items c.add_pieces_in.result c.args.text.now c.add_pieces_in.new.text _ (pieces_on route) c.add_pieces_in.ensures
    (ap (λ (ps : List Piece). flat_map items (placed_from 0 ps)) (are-pieces c.pieces.result.now route.course c.pieces.ensures.course c.pieces.ensures.fewest) ∙ each_alone (piece_data route) (placed_pieces route.course))
