use Rattle.std.proofs.Common.{refl}
use Rattle.std.specs.List.{flat_map}
use Rattle.lrs_sheet_questions.specs.Lines.{segment_line}
use Rattle.lrs_sheet_questions.proofs.Appending.{appended}
use Rattle.lrs_sheet_questions.proofs.lines.write_segments.Goals as goal

pub returns : goal.returns
returns g c =
    appended c.write_each.result (g.W.Write.contents c.args.writer.now) (g.W.Write.contents c.write_segment_count.new.writer) (g.W.Write.contents c.write_each.new.writer) _ (flat_map (segment_line c.args.key)) c.args.segments c.args.segments
    (rw c.requires at c.in_ok-write_segment_count.ensures) c.write_each.ensures refl
