use Rattle.std.specs.Prelude.{codes, ◌∷◌}
use Rattle.lrs_report.specs.Drawings.Strips.{aligned, columns_text, heading_text}
use Rattle.lrs_report.proofs.Writing.{appends_more, appends_last}
use Rattle.lrs_report.proofs.Drawings.StripColumns.{heading_parts}
use Rattle.lrs_report.proofs.diagrams.strip_text.write_heading.Goals as goal

pub returns : goal.returns
returns g c =
    let start = g.W.Write.contents c.args.writer.now in
    let first = g.W.Write.contents c.write_aligned.new.writer in
    let second = g.W.Write.contents c.write_next.new.writer in
    let third = g.W.Write.contents c.write_names.new.writer in
    let one = appends_more start first second _ _ c.in_ok-write_aligned.ensures c.in_ok-write_next.ensures in
    let two = appends_more start second third _ _ one c.in_ok-write_names.ensures in
    appends_last c.write_all.result start third (g.W.Write.contents c.write_all.new.self) _ _ (heading_text c.args.wanted.now) two c.write_all.ensures.bytes
    (heading_parts (aligned (codes "FROM")) (32 ∷ aligned (codes "TO")) (columns_text c.args.wanted.now))
