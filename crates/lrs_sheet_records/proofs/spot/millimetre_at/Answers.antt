use Rattle.std.proofs.Common.{rules}
use Rattle.lrs_sheet_records.specs.Shapes.{Number}
use Rattle.lrs_sheet_records.proofs.spot.millimetre_at.Goals as goal

pub returns-in-Some : goal.returns-in-Some
returns-in-Some c = ((c.requires, search rules), (Number c.in-Some.mm, (c.requires, search rules)))
