use Rattle.lrs_report.proofs.Drawings.Plain.{are_plain}
use Rattle.lrs_report.proofs.diagrams.laws.texts_are_plain.Goals as goal

pub returns : goal.returns
returns c = are_plain
