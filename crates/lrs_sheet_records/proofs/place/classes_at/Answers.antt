use Rattle.std.proofs.Common.{◌≡◌, ◌≤◌, ◌∙◌, ap, length}
use Rattle.lrs_sheet_records.specs.Kinds.{edit_fields}
use Rattle.lrs_sheet_records.specs.Records.{place_of, text_at}
use Rattle.lrs_sheet_records.specs.Shapes.{ClassesOf}
use Rattle.lrs_sheet_records.specs.Words.{AreSaid, IsClassWord, most_words, words_of}
use Rattle.lrs_sheet_records.proofs.place.classes_at.Goals as goal

pub returns-in-Ok-Some : goal.returns-in-Ok-Some
returns-in-Ok-Some c =
    let text : c.text_at.result.now ≡ text_at (edit_fields c.args.row.now) (place_of c.args.field) = c.text_at.ensures ∙ ap (text_at (edit_fields c.args.row.now)) c.place_of.ensures in
    let found : AreSaid IsClassWord (words_of c.text_at.result.now) c.in-Ok-Some.classes.items = rw c.in-Ok-Some.field-0-is at c.in-Ok-Some.ensures.some in
    let few : length c.in-Ok-Some.classes.items ≤ most_words = rw c.in-Ok-Some.field-0-is at c.in-Ok-Some.ensures.few in
    let said : AreSaid IsClassWord (words_of (text_at (edit_fields c.args.row.now) (place_of c.args.field))) c.from_vec.result = rw (c.from_vec.ensures, ← text) found in
    let less : length c.from_vec.result ≤ most_words = rw c.from_vec.ensures few in
    ((said, less), (ClassesOf c.from_vec.result, (said, less)))
