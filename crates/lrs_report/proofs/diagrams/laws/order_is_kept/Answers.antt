use Rattle.lrs_report.proofs.Drawings.Ordered.{kept}
use Rattle.lrs_report.proofs.diagrams.laws.order_is_kept.Goals as goal

pub returns : goal.returns
returns c = kept
