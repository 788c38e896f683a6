use Rattle.std.proofs.Common.{◌≡◌, ℕ, ◌≤◌, ◌<◌, []}
use Rattle.lrs_sheet_records.specs.Kinds.{edit_fields}
use Rattle.lrs_sheet_records.specs.Records.{place_of, text_at}
use Rattle.lrs_sheet_records.proofs.arguments.nothing_from.Given as goal

abbrev pub invariant-loop-i : goal.invariant-loop-i
invariant-loop-i l = (k : ℕ) → place_of l.fn.first ≤ k → k < l.i → text_at (edit_fields l.row) k ≡ []
