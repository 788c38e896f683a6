use Rattle.std.proofs.Common.{rules}
use Rattle.lrs_sheet_records.specs.Shapes.{Word}
use Rattle.lrs_sheet_records.proofs.shape.route_name_at.Goals as goal

pub returns-in-Some : goal.returns-in-Some
returns-in-Some c = (search rules, (Word c.in-Some.name, search rules))
