use Rattle.lrs_report_lists.proofs.Length.Unique.{are_unique}
use Rattle.lrs_report_lists.proofs.length_lists.laws.lengths_are_unique.Goals as goal

pub returns : goal.returns
returns c = are_unique
