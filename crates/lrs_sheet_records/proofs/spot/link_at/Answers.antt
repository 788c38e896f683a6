use Rattle.std.proofs.Common.{rules}
use Rattle.lrs_sheet_records.specs.Shapes.{Number}
use Rattle.lrs_sheet_records.proofs.spot.link_at.Goals as goal

pub returns-in-Some : goal.returns-in-Some
returns-in-Some c = ((c.requires, search rules), (Number c.in-Some.link, (c.requires, search rules)))
