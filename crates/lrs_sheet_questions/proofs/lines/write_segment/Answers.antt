use Rattle.std.proofs.Common.{subst, refl, List, Option, []}
use Rattle.std.specs.Fmt.{decimal}
use Rattle.std.specs.Prelude.{◌∷◌, codes}
use Rattle.std.specs.Io.KnownBytes.{Appends}
use Rattle.std.specs.List.{flat_map}
use Rattle.lrs_machine.specs.Lines.{fields}
use Rattle.lrs_measure.specs.Texts.{Name}
use Rattle.lrs_report.proofs.Writing.{appends_last, appends_more}
use Rattle.lrs_sheet_questions.specs.Lines.{segment_line, value_field}
use Rattle.lrs_sheet_questions.proofs.lines.write_segment.Goals as goal

pub returns : goal.returns
returns g c =
    let s = c.args.segment.now in
    let head = fields (c.args.key ∷ codes "segment" ∷ decimal s.from ∷ decimal s.to ∷ []) in
    let others = flat_map value_field s.values in
    let start = g.W.Write.contents c.args.writer.now in
    let first = g.W.Write.contents c.write_stretch.new.writer in
    let second = g.W.Write.contents c.write_values.new.writer in
    let values = subst (λ (vs : List (Option Name)). Appends first second (flat_map value_field vs)) c.as_slice.ensures c.in_ok-write_values.ensures in
    appends_last c.write_all.result start second (g.W.Write.contents c.write_all.new.self) _ (10 ∷ []) (segment_line c.args.key s) (appends_more start first second head others c.in_ok-write_stretch.ensures values) c.write_all.ensures.bytes
    refl
