use Rattle.lrs_report_lists.proofs.LinkLines.{sides_seen}
use Rattle.lrs_report_lists.proofs.laws.sides_are_seen_along_links.Goals as goal

pub returns : goal.returns
returns c = sides_seen
