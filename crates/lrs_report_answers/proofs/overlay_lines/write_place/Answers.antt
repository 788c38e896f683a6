use Rattle.std.proofs.Common.{false, subst}
use Rattle.std.specs.Fmt.{decimal}
use Rattle.std.specs.Io.KnownBytes.{Appends}
use Rattle.lrs_measure.specs.Texts.{Name}
use Rattle.lrs_report_lists.specs.Measures.{measure_field}
use Rattle.lrs_report_lists.proofs.Writing.{appends_last, appends_more}
use Rattle.lrs_report_answers.specs.Overlay.{segment_place}
use Rattle.lrs_report_answers.proofs.SideBySide.{place_parts}
use Rattle.lrs_report_answers.proofs.overlay_lines.write_place.Goals as goal

pub returns : goal.returns
returns g c =
    let route = c.args.route.now in
    let s = c.args.segment.now in
    let start = g.W.Write.contents c.args.writer.now in
    let name = g.W.Write.contents c.write_all.new.self in
    let ends = g.W.Write.contents c.write.new.self in
    let measure = g.W.Write.contents c.write_measure.new.writer in
    let named = subst (λ (text : Name). Appends start name text) c.bytes.ensures.text c.in_ok-write_all.ensures.bytes in
    let one = appends_more start name ends _ _ named c.in_ok-write.ensures.bytes in
    let two = appends_more start ends measure _ _ one c.in_ok-write_measure.ensures in
    appends_last c.write_measure-2.result start measure (g.W.Write.contents c.write_measure-2.new.writer) _ _ (segment_place route s) two c.write_measure-2.ensures
    (place_parts route.name (decimal s.from) (decimal s.to) (measure_field false route.marks s.from) (measure_field false route.marks s.to))
