use Rattle.std.proofs.Common.{map, refl, subst}
use Rattle.std.specs.Prelude.{List, Option}
use Rattle.std.specs.Io.KnownBytes.{Appends}
use Rattle.lrs_measure.specs.Texts.{Name}
use Rattle.lrs_report_lists.proofs.Writing.{appends_last}
use Rattle.lrs_report_answers.specs.Combinations.{combination_line, fields_behind}
use Rattle.lrs_report_answers.specs.Overlay.{value_field}
use Rattle.lrs_report_answers.proofs.combination_lines.write_line.Goals as goal

pub returns : goal.returns
returns g c =
    let start = g.W.Write.contents c.args.writer.now in
    let front = g.W.Write.contents c.write_values.new.writer in
    let values = subst (λ (vs : List (Option Name)). Appends start front (fields_behind (map value_field vs))) c.as_slice.ensures c.in_ok-write_values.ensures in
    appends_last c.write_lengths.result start front (g.W.Write.contents c.write_lengths.new.writer) _ _ (combination_line c.args.row.now) values c.write_lengths.ensures refl
