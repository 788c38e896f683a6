use Rattle.std.proofs.Common.{◌≡◌, ℕ, ◌<◌, length}
use Rattle.csv.specs.Records.{fields_of}
use Rattle.lrs_sheet_records.specs.Records.{text_at}
use Rattle.lrs_sheet_advice.proofs.tidy_sheet.form.is_blank.Given as goal

abbrev pub invariant-loop-place : goal.invariant-loop-place
invariant-loop-place l = (i : ℕ) → i < l.place → length (text_at (fields_of l.row) i) ≡ 0
