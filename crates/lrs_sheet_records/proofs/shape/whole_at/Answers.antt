use Rattle.std.proofs.Common.{rules}
use Rattle.lrs_sheet_records.specs.Shapes.{Number}
use Rattle.lrs_sheet_records.proofs.shape.whole_at.Goals as goal

pub returns-in-Some : goal.returns-in-Some
returns-in-Some c = (search rules, (Number c.in-Some.number, search rules))
