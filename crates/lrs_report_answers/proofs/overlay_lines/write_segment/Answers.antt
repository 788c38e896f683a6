use Rattle.std.proofs.Common.{◌∷◌, ◌∙◌, false, map, subst}
use Rattle.std.specs.Prelude.{List, Option}
use Rattle.std.specs.Fmt.{decimal}
use Rattle.std.specs.Io.KnownBytes.{Appends}
use Rattle.lrs_measure.specs.Texts.{Name}
use Rattle.lrs_report.specs.Sweep.{run_of}
use Rattle.lrs_report_lists.specs.Lines.{link_side_text}
use Rattle.lrs_report_lists.specs.Measures.{measure_field}
use Rattle.lrs_report_lists.proofs.Writing.{appends_last, appends_more}
use Rattle.lrs_report_answers.specs.Overlay.{next_fields, overlay_line, value_field}
use Rattle.lrs_report_answers.proofs.SideBySide.{line_parts}
use Rattle.lrs_report_answers.proofs.overlay_lines.write_segment.Goals as goal

pub returns : goal.returns
returns g c =
    let route = c.args.route.now in
    let s = c.args.segment.now in
    let side = c.args.side in
    let start = g.W.Write.contents c.args.writer.now in
    let place = g.W.Write.contents c.write_place.new.writer in
    let next = g.W.Write.contents c.write_next.new.writer in
    let last = g.W.Write.contents c.write_values.new.writer in
    let values = subst (λ (vs : List (Option Name)). Appends next last (next_fields (map value_field vs))) c.as_slice.ensures c.in_ok-write_values.ensures in
    let sided = subst (λ (text : Name). Appends place next (44 ∷ text)) (c.as_bytes.ensures.value ∙ c.link_side_text.ensures) c.in_ok-write_next.ensures in
    let one = appends_more start place next _ _ c.in_ok-write_place.ensures sided in
    let two = appends_more start next last _ _ one values in
    appends_last c.write_all.result start last (g.W.Write.contents c.write_all.new.self) _ _ (overlay_line route side (run_of s)) two c.write_all.ensures.bytes
    (line_parts route.name (decimal s.from) (decimal s.to) (measure_field false route.marks s.from) (measure_field false route.marks s.to) (link_side_text side) (map value_field s.values))
