use Rattle.std.proofs.Common.{append_assoc}
use Rattle.lrs_report.specs.Drawings.Bands.{band_group}
use Rattle.lrs_report.proofs.Drawings.Appending.{as_text}
use Rattle.lrs_report.proofs.diagrams.bands.write_band_group.Goals as goal

pub returns : goal.returns
returns g c = as_text c.write.result _ _ _ (band_group c.args.kind c.args.top) c.write.ensures.bytes (simp (append_assoc, c.style_of-style.ensures))
