use Rattle.std.proofs.Common.{rules}
use Rattle.lrs_sheet_records.specs.Shapes.{PlaceOf}
use Rattle.lrs_sheet_records.proofs.spot.place_at.Goals as goal

pub returns-in-Some : goal.returns-in-Some
returns-in-Some c = ((c.requires, search rules), (PlaceOf c.in-Some.place, (c.requires, search rules)))
