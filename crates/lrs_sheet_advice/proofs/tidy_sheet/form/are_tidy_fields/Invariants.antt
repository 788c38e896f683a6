use Rattle.std.proofs.Common.{ℕ, ◌<◌}
use Rattle.std.specs.Prelude.{IsTrue}
use Rattle.lrs_sheet_records.specs.Kinds.{edit_fields}
use Rattle.lrs_sheet_records.specs.Records.{text_at}
use Rattle.lrs_sheet_advice.specs.TidySheets.{form_at, is_tidy}
use Rattle.lrs_sheet_advice.proofs.tidy_sheet.form.are_tidy_fields.Given as goal

abbrev pub invariant-loop-place : goal.invariant-loop-place
invariant-loop-place l = (i : ℕ) → i < l.place → IsTrue (is_tidy (form_at (edit_fields l.row) i) (text_at (edit_fields l.row) i))
