use Rattle.std.proofs.Common.{[], ◌∷◌, ap, ◌∙◌}
use Rattle.std.specs.Prelude.{ℕ}
use Rattle.std.specs.Fmt.{decimal}
use Rattle.lrs_report_lists.specs.Lines.{csv_line, direction_text, piece_line}
use Rattle.lrs_report_lists.proofs.Writing.{appends_last, piece_parts}
use Rattle.lrs_report_lists.proofs.pieces.write_piece.Goals as goal

pub returns : goal.returns
returns g c =
    let p = c.args.piece.now in
    let name = c.args.route.now in
    let at = c.args.at in
    appends_last c.write_stretch.result (g.W.Write.contents c.args.writer.now) (g.W.Write.contents c.write_chainages.new.writer) (g.W.Write.contents c.write_stretch.new.writer) _ _ (piece_line name (at, p)) c.in_ok-write_chainages.ensures c.write_stretch.ensures
    (piece_parts name (decimal at) (decimal c.args.end) (decimal p.link) (decimal p.from) (decimal p.to) (direction_text p.forward)
    ∙ ap (λ (n : ℕ). csv_line (name ∷ decimal at ∷ decimal n ∷ decimal p.link ∷ decimal p.from ∷ decimal p.to ∷ direction_text p.forward ∷ [])) c.requires.end)
