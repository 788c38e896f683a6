use Rattle.std.proofs.Common.{◌++◌, refl, subst}
use Rattle.std.specs.Prelude.{List}
use Rattle.std.specs.Io.KnownBytes.{Appends}
use Rattle.lrs_measure.specs.Texts.{Name}
use Rattle.lrs_report_lists.proofs.Writing.{appends_last}
use Rattle.lrs_report_answers.specs.Overlay.{overlay_header, overlay_text}
use Rattle.lrs_report_answers.proofs.overlay_lines.write_overlay.Goals as goal

pub returns : goal.returns
returns g c =
    let start = g.W.Write.contents c.args.writer.now in
    let front = g.W.Write.contents c.write_header.new.writer in
    let header = subst (λ (names : List Name). Appends start front (overlay_header names)) c.as_slice.ensures c.in_ok-write_header.ensures in
    appends_last c.write_on_asked.result start front (g.W.Write.contents c.write_on_asked.new.writer) _ _ (overlay_text c.args.wanted.now c.args.inventory.now) header c.write_on_asked.ensures refl
