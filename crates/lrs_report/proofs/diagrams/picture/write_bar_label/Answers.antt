use Rattle.std.proofs.Common.{append_assoc}
use Rattle.lrs_report.specs.Drawings.Pictures.{bar_label}
use Rattle.lrs_report.proofs.Drawings.Appending.{as_text}
use Rattle.lrs_report.proofs.diagrams.picture.write_bar_label.Goals as goal

pub returns : goal.returns
returns g c = as_text c.write.result _ _ _ (bar_label c.args.step) c.write.ensures.bytes (simp (append_assoc, c.new-metres.ensures))
