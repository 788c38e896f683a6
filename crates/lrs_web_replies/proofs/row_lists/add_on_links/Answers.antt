use Rattle.std.proofs.Common.{Bor, ap}
use Rattle.std.specs.Prelude.{List}
use Rattle.std.specs.List.{flat_map}
use Rattle.std.specs.Option.{option_map}
use Rattle.lrs_element.specs.declared.link.Piece.{Piece}
use Rattle.lrs_events.specs.declared.class.Asset.{Asset}
use Rattle.lrs_report_lists.specs.PlacedPieces.{placed_from, placed_pieces}
use Rattle.lrs_report_lists.proofs.CoursePieces.{are-pieces}
use Rattle.lrs_report_lists.proofs.Placed.{few_pieces}
use Rattle.lrs_web_replies.proofs.Paging.{as_items}
use Rattle.lrs_web_replies.specs.Listings.{link_row_items}
use Rattle.lrs_web_replies.proofs.row_lists.add_on_links.Goals as goal

pub add_on_pieces-requires : goal.add_on_pieces-requires
add_on_pieces-requires c = record {
  filled = c.pieces.ensures.fewest.filled;
  few = few_pieces c.args.route.now.course c.pieces.result.now c.pieces.ensures.course c.pieces.ensures.fewest c.pieces.ensures.limits;
}

pub returns : goal.returns
returns c =
    let items = link_row_items (option_map (λ (a : Bor Asset). a.now) c.args.asset) c.args.route.now c.args.row.now in
    let course = c.args.route.now.course in
    as_items c.add_on_pieces.result c.args.text.now c.add_on_pieces.new.text _ (flat_map items (placed_pieces course)) c.add_on_pieces.ensures
    (ap (λ (ps : List Piece). flat_map items (placed_from 0 ps)) (are-pieces c.pieces.result.now course c.pieces.ensures.course c.pieces.ensures.fewest))
