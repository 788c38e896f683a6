use Rattle.std.proofs.Common.{◌≡◌, ℕ, ◌≤◌, ◌<◌}
use Rattle.csv.specs.Records.{fields_of}
use Rattle.lrs_sheet_records.specs.Records.{text_at}
use Rattle.lrs_sheet_records.specs.Questions.{question_header}
use Rattle.lrs_sheet_records.proofs.header.is_question_header.Given as goal

abbrev pub invariant-loop-place : goal.invariant-loop-place
invariant-loop-place l = (i : ℕ) → 1 ≤ i → i < l.place → text_at (fields_of l.row) i ≡ text_at question_header i
