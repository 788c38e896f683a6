use Rattle.std.proofs.Common.{◌++◌, length, refl}
use Rattle.std.specs.List.{flat_map}
use Rattle.lrs_report.specs.Drawings.Strips.{title_text, heading_text, segment_text}
use Rattle.lrs_report.proofs.Writing.{appends_last}
use Rattle.lrs_report.proofs.diagrams.strip_text.strip.Goals as goal

pub returns : goal.returns
returns g c =
    let title = title_text c.args.route.now.name c.args.side (length c.args.route.now.course) in
    let heading = heading_text c.args.wanted.now in
    let lines = flat_map segment_text c.args.segments.now in
    appends_last c.write_segments.result (g.W.Write.contents c.args.writer.now) (g.W.Write.contents c.write_front.new.writer) (g.W.Write.contents c.write_segments.new.writer) (title ++ heading) lines (title ++ heading ++ lines) (rw c.length.ensures.length at c.in_ok-write_front.ensures) c.write_segments.ensures
    refl
