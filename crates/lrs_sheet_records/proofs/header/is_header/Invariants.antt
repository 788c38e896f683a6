use Rattle.std.proofs.Common.{◌≡◌, ℕ, ◌≤◌, ◌<◌}
use Rattle.csv.specs.Records.{fields_of}
use Rattle.lrs_sheet_records.specs.Records.{text_at}
use Rattle.lrs_sheet_records.specs.Kinds.{header_of}
use Rattle.lrs_sheet_records.proofs.header.is_header.Given as goal

abbrev pub invariant-loop-place : goal.invariant-loop-place
invariant-loop-place l = (i : ℕ) → 1 ≤ i → i < l.place → text_at (fields_of l.row) i ≡ text_at (header_of l.sheet) i
