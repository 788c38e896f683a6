use Rattle.std.proofs.Common.{ap, sym, ◌+◌}
use Rattle.std.specs.Prelude.{ℕ}
use Rattle.lrs_report.specs.Drawings.Pictures.{bands_height, diagram_text, parts_text}
use Rattle.lrs_report.proofs.Drawings.Appending.{as_text}
use Rattle.lrs_report.proofs.diagrams.picture.write_diagram.Goals as goal

pub returns : goal.returns
returns g c =
    let d = c.args.diagram.now in
    as_text c.write_parts.result (g.W.Write.contents c.args.writer.now) (g.W.Write.contents c.write_parts.new.writer) _ (diagram_text d) c.write_parts.ensures
    (ap (λ (bands : ℕ). parts_text d (400 + bands) (bands + 720) (400 + bands + (bands + 720) + 60)) c.bands_height-bands.ensures.height)
