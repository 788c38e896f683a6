use Rattle.std.proofs.Common.{append_assoc}
use Rattle.lrs_report.specs.Drawings.Shapes.{link_to}
use Rattle.lrs_report.proofs.Drawings.Appending.{as_text}
use Rattle.lrs_report.proofs.diagrams.shapes.write_link_to.Goals as goal

pub returns : goal.returns
returns g c = as_text c.write.result _ _ _ (link_to c.args.to c.args.is_forward) c.write.ensures.bytes (simp (append_assoc, c.direction_of-direction.ensures))
