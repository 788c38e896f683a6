use Rattle.std.proofs.Common.{rules}
use Rattle.lrs_sheet_records.specs.Shapes.{SideOf}
use Rattle.lrs_sheet_records.proofs.place.side_at.Goals as goal

pub returns-in-Some : goal.returns-in-Some
returns-in-Some c = (search rules, (SideOf c.in-Some.side, search rules))
