use Rattle.std.specs.List.{flat_map}
use Rattle.lrs_sheet_questions.specs.Lines.{hit_line, place_line}
use Rattle.lrs_sheet_questions.proofs.Appending.{appended}
use Rattle.lrs_sheet_questions.proofs.lines.write_at.Goals as goal

pub returns : goal.returns
returns g c =
    appended c.write_hits.result (g.W.Write.contents c.args.writer.now) (g.W.Write.contents c.write_place.new.writer) (g.W.Write.contents c.write_hits.new.writer) (place_line c.args.key c.args.route.now c.args.found.now) (flat_map (hit_line c.args.key)) c.as_slice.result.now c.args.found.now.hits
    c.in_ok-write_place.ensures c.write_hits.ensures c.as_slice.ensures
