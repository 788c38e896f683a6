use Rattle.std.proofs.Common.{◌++◌, refl}
use Rattle.std.specs.List.{flat_map}
use Rattle.lrs_report.specs.Drawings.Strips.{title_text, heading_text, segment_text}
use Rattle.lrs_report.proofs.Writing.{appends_last}
use Rattle.lrs_report.proofs.diagrams.strip_text.strip_of.Goals as goal

pub returns : goal.returns
returns g c =
    let title = title_text c.args.name.now c.args.side c.args.len in
    let heading = heading_text c.args.wanted.now in
    let lines = flat_map segment_text c.args.segments in
    appends_last c.write_each.result (g.W.Write.contents c.args.writer.now) (g.W.Write.contents c.write_front.new.writer) (g.W.Write.contents c.write_each.new.writer) (title ++ heading) lines (title ++ heading ++ lines) c.in_ok-write_front.ensures c.write_each.ensures
    refl
