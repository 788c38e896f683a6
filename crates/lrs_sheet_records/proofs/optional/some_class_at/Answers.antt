use Rattle.std.proofs.Common.{◌≡◌, ◌∙◌, [], ap, arith, length, sym}
use Rattle.std.proofs.lemmas.Bool.Decides.{nat_tests}
use Rattle.lrs_sheet_records.specs.Kinds.{edit_fields}
use Rattle.lrs_sheet_records.specs.Records.{place_of, text_at}
use Rattle.lrs_sheet_records.specs.Shapes.{Nothing}
use Rattle.lrs_sheet_records.proofs.Readers.{empty-text}
use Rattle.lrs_sheet_records.proofs.optional.some_class_at.Goals as goal

pub returns-then-is_empty : goal.returns-then-is_empty
returns-then-is_empty c =
    let text : c.text_at.result.now ≡ text_at (edit_fields c.args.row.now) (place_of c.args.field) = c.text_at.ensures ∙ ap (text_at (edit_fields c.args.row.now)) c.place_of.ensures in
    let none : length c.text_at.result.now ≡ 0 = grind (arith, nat_tests, c.is_empty.ensures, c.if-is_empty.true) in
    let empty : text_at (edit_fields c.args.row.now) (place_of c.args.field) ≡ [] = sym text ∙ empty-text c.text_at.result.now none in
    (empty, (Nothing, empty))
