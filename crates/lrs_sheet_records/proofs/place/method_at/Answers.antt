use Rattle.std.proofs.Common.{rules}
use Rattle.lrs_sheet_records.specs.Shapes.{MethodOf}
use Rattle.lrs_sheet_records.proofs.place.method_at.Goals as goal

pub returns-in-Some : goal.returns-in-Some
returns-in-Some c = (search rules, (MethodOf c.in-Some.method, search rules))
