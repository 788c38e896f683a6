use Rattle.std.proofs.Common.{rules}
use Rattle.lrs_sheet_records.specs.Shapes.{PlaceOf}
use Rattle.lrs_sheet_records.proofs.optional.route_place_at.Goals as goal

pub returns-in-Some : goal.returns-in-Some
returns-in-Some c = (search rules, (PlaceOf c.in-Some.place, search rules))
