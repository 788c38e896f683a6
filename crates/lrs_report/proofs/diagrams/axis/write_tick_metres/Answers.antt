use Rattle.std.proofs.Common.{append_assoc}
use Rattle.lrs_report.specs.Drawings.Axis.{tick_metres}
use Rattle.lrs_report.proofs.Drawings.Appending.{as_text}
use Rattle.lrs_report.proofs.diagrams.axis.write_tick_metres.Goals as goal

pub returns : goal.returns
returns g c = as_text c.write.result _ _ _ (tick_metres c.args.chainage) c.write.ensures.bytes (simp (append_assoc, c.new-metres.ensures))
