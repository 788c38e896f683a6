use Rattle.std.proofs.Common.{◌≡◌, ◌∙◌, ap}
use Rattle.lrs_sheet_records.specs.Kinds.{edit_fields}
use Rattle.lrs_sheet_records.specs.Records.{place_of, text_at}
use Rattle.lrs_sheet_records.specs.Shapes.{DestinationOf, destination_text}
use Rattle.lrs_sheet_records.proofs.place.destination_at.Goals as goal

pub returns-in-Some : goal.returns-in-Some
returns-in-Some c =
    let text : c.text_at.result.now ≡ text_at (edit_fields c.args.row.now) (place_of c.args.field) = c.text_at.ensures ∙ ap (text_at (edit_fields c.args.row.now)) c.place_of.ensures in
    let said : text_at (edit_fields c.args.row.now) (place_of c.args.field) ≡ destination_text c.in-Some.to = rw (← text) c.in-Some.ensures.read.0 in
    ((said, c.in-Some.ensures.read.1), (DestinationOf c.in-Some.to, (said, c.in-Some.ensures.read.1)))
