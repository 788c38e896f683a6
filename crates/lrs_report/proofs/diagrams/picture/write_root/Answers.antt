use Rattle.std.proofs.Common.{append_assoc}
use Rattle.lrs_report.specs.Drawings.Pictures.{root_text}
use Rattle.lrs_report.proofs.Drawings.Appending.{as_text}
use Rattle.lrs_report.proofs.diagrams.picture.write_root.Goals as goal

pub returns : goal.returns
returns g c = as_text c.write.result _ _ _ (root_text c.args.height) c.write.ensures.bytes (simp append_assoc)
