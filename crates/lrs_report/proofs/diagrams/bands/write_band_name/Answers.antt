use Rattle.std.proofs.Common.{append_assoc}
use Rattle.lrs_report.specs.Drawings.Bands.{band_name}
use Rattle.lrs_report.proofs.Writing.{appends_last}
use Rattle.lrs_report.proofs.diagrams.bands.write_band_name.Goals as goal

pub returns : goal.returns
returns g c =
    let start = g.W.Write.contents c.args.writer.now in
    let line = g.W.Write.contents c.write.new.self in
    appends_last c.write-2.result start line (g.W.Write.contents c.write-2.new.self) _ _ (band_name c.args.class.now c.args.side c.args.top) c.in_ok-write.ensures.bytes c.write-2.ensures.bytes (simp append_assoc)
