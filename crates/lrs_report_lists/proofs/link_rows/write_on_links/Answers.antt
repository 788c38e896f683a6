use Rattle.std.proofs.Common.{Bor, ap}
use Rattle.std.specs.Prelude.{List}
use Rattle.std.specs.List.{flat_map}
use Rattle.std.specs.Option.{option_map}
use Rattle.lrs_element.specs.declared.link.Piece.{Piece}
use Rattle.lrs_events.specs.declared.class.Asset.{Asset}
use Rattle.lrs_report_lists.specs.LinkRows.{on_piece_text}
use Rattle.lrs_report_lists.specs.PlacedPieces.{placed_from, placed_pieces}
use Rattle.lrs_report_lists.proofs.CoursePieces.{are-pieces}
use Rattle.lrs_report_lists.proofs.Placed.{few_pieces}
use Rattle.lrs_report_lists.proofs.Writing.{as_text}
use Rattle.lrs_report_lists.proofs.link_rows.write_on_links.Goals as goal

pub write_on_pieces-requires : goal.write_on_pieces-requires
write_on_pieces-requires g c = record {
  filled = c.pieces.ensures.fewest.filled;
  few = few_pieces c.args.route.now.course c.pieces.result.now c.pieces.ensures.course c.pieces.ensures.fewest c.pieces.ensures.limits;
}

pub returns : goal.returns
returns g c =
    let line = on_piece_text (option_map (λ (a : Bor Asset). a.now) c.args.asset) c.args.route.now c.args.row.now in
    as_text c.write_on_pieces.result _ _ _ (flat_map line (placed_pieces c.args.route.now.course)) c.write_on_pieces.ensures
    (ap (λ (ps : List Piece). flat_map line (placed_from 0 ps)) (are-pieces c.pieces.result.now c.args.route.now.course c.pieces.ensures.course c.pieces.ensures.fewest))
