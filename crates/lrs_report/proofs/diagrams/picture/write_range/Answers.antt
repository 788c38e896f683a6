use Rattle.std.proofs.Common.{append_assoc}
use Rattle.lrs_report.specs.Drawings.Pictures.{range_text}
use Rattle.lrs_report.proofs.Drawings.Appending.{as_text}
use Rattle.lrs_report.proofs.diagrams.picture.write_range.Goals as goal

pub returns : goal.returns
returns g c = as_text c.write.result _ _ _ (range_text c.args.scale) c.write.ensures.bytes (simp append_assoc)
