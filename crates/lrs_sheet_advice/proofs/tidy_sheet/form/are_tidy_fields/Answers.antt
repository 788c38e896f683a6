use Rattle.std.proofs.Common.{ℕ, below_more, rules}
use Rattle.std.specs.Prelude.{IsTrue}
use Rattle.lrs_sheet_records.specs.Kinds.{edit_fields}
use Rattle.lrs_sheet_records.specs.Records.{text_at}
use Rattle.lrs_sheet_advice.specs.TidySheets.{form_at, is_tidy}
use Rattle.lrs_sheet_advice.proofs.TidyForms.{tidy_here}
use Rattle.lrs_sheet_advice.proofs.tidy_sheet.form.are_tidy_fields.Goals as goal

pub loop-place-preserved : goal.loop-place-preserved
loop-place-preserved c =
    let fields = edit_fields c.args.row.now in
    let place = c.loop-place.place in
    below_more (λ (i : ℕ). IsTrue (is_tidy (form_at fields i) (text_at fields i))) place c.loop-place.invariant
    (tidy_here c.form_at.result (form_at fields place) c.text_at.result.now (text_at fields place) c.is_tidy.result c.form_at.ensures c.text_at.ensures c.is_tidy.ensures (search rules))
