use Rattle.std.proofs.Common.{◌≡◌, ◌∙◌, ap, refl}
use Rattle.std.specs.Prelude.{IsTrue}
use Rattle.lrs_sheet_records.specs.Kinds.{edit_fields}
use Rattle.lrs_machine.specs.EnteredNumbers.{are_entered_pieces}
use Rattle.lrs_sheet_records.specs.Records.{place_of, text_at, texts_of}
use Rattle.lrs_sheet_records.specs.Shapes.{PiecesOf}
use Rattle.lrs_sheet_records.specs.Words.{AreSaid, IsPieceText, words_of}
use Rattle.lrs_sheet_records.proofs.Wording.{no-pieces}
use Rattle.lrs_sheet_records.proofs.shape.pieces_at.Goals as goal

pub returns-in-Some : goal.returns-in-Some
returns-in-Some c =
    let text : c.text_at.result.now ≡ text_at (edit_fields c.args.row.now) (place_of c.args.field) = c.text_at.ensures ∙ ap (text_at (edit_fields c.args.row.now)) c.place_of.ensures in
    let found : AreSaid IsPieceText (words_of c.text_at.result.now) c.in-Ok-Some.pieces.items = rw c.in-Ok-Some.field-0-is at c.in-Ok-Some.ensures.some in
    let said : AreSaid IsPieceText (words_of (text_at (edit_fields c.args.row.now) (place_of c.args.field))) c.in-Some.list = rw (c.in-Some.ensures.1, ← text) found in
    let entered : IsTrue (are_entered_pieces c.in-Some.list) = rw c.in-Some.ensures.1 c.in-Some.ensures.0 in
    ((said, entered), (PiecesOf c.in-Some.list, (said, entered)))

pub returns-in-None : goal.returns-in-None
returns-in-None c =
    let text : c.text_at.result.now ≡ text_at (edit_fields c.args.row.now) (place_of c.args.field) = c.text_at.ensures ∙ ap (text_at (edit_fields c.args.row.now)) c.place_of.ensures in
    let found : AreSaid IsPieceText (words_of c.text_at.result.now) c.in-Ok-Some.pieces.items = rw c.in-Ok-Some.field-0-is at c.in-Ok-Some.ensures.some in
    (refl, no-pieces (texts_of (edit_fields c.args.row.now)) (text_at (edit_fields c.args.row.now) (place_of c.args.field)) c.in-Ok-Some.pieces.items (rw (← text) found) c.in-None.ensures)
