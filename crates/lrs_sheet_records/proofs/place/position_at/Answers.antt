use Rattle.std.proofs.Common.{◌≡◌, ◌∙◌, ap}
use Rattle.lrs_sheet_records.specs.Kinds.{edit_fields}
use Rattle.lrs_position.specs.Readings.{States}
use Rattle.lrs_sheet_records.specs.Records.{place_of, text_at}
use Rattle.lrs_sheet_records.specs.Shapes.{At}
use Rattle.lrs_sheet_records.proofs.Readers.{stated-entered}
use Rattle.lrs_sheet_records.proofs.place.position_at.Goals as goal

pub unreachable-requires : goal.unreachable-requires
unreachable-requires c = c.in-None-new.ensures (stated-entered c.args.method c.text_at.result.now c.in-Some.expression c.in-Some.ensures.read)

pub returns-in-Some-new : goal.returns-in-Some-new
returns-in-Some-new c =
    let text : c.text_at.result.now ≡ text_at (edit_fields c.args.row.now) (place_of c.args.field) = c.text_at.ensures ∙ ap (text_at (edit_fields c.args.row.now)) c.place_of.ensures in
    let stated : States c.args.method (text_at (edit_fields c.args.row.now) (place_of c.args.field)) c.in-Some-new.position = rw (c.in-Some-new.ensures.1, ← text) c.in-Some.ensures.read in
    ((c.args.method, c.requires, stated), (At c.in-Some-new.position, (c.args.method, c.requires, stated)))
