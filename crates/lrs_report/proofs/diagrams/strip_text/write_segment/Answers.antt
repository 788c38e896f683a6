use Rattle.std.proofs.Common.{subst, map}
use Rattle.std.specs.Io.KnownBytes.{Appends}
use Rattle.std.specs.Prelude.{List, Option}
use Rattle.lrs_measure.specs.Texts.{Name}
use Rattle.lrs_measure.specs.FractionTexts.{metres_text}
use Rattle.lrs_report.specs.Drawings.Strips.{aligned, columns_text, value_text, segment_text}
use Rattle.lrs_report.proofs.Writing.{appends_more, appends_last}
use Rattle.lrs_report.proofs.Drawings.StripColumns.{segment_parts}
use Rattle.lrs_report.proofs.diagrams.strip_text.write_segment.Goals as goal

pub returns : goal.returns
returns g c =
    let s = c.args.segment.now in
    let from = aligned (metres_text s.from) in
    let to = aligned (metres_text s.to) in
    let others = columns_text (map value_text s.values) in
    let start = g.W.Write.contents c.args.writer.now in
    let first = g.W.Write.contents c.write_metres.new.writer in
    let space = g.W.Write.contents c.write_all.new.self in
    let second = g.W.Write.contents c.write_metres-2.new.writer in
    let third = g.W.Write.contents c.write_values.new.writer in
    let values = subst (λ (vs : List (Option Name)). Appends second third (columns_text (map value_text vs))) c.as_slice.ensures c.in_ok-write_values.ensures in
    let one = appends_more start first space _ _ c.in_ok-write_metres.ensures c.in_ok-write_all.ensures.bytes in
    let two = appends_more start space second _ _ one c.in_ok-write_metres-2.ensures in
    let three = appends_more start second third _ _ two values in
    appends_last c.write_all-2.result start third (g.W.Write.contents c.write_all-2.new.self) _ _ (segment_text s) three c.write_all-2.ensures.bytes (segment_parts from to others)
