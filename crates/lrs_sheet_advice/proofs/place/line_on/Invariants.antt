use Rattle.std.proofs.Common.{◌≡◌}
use Rattle.lrs_sheet_advice.specs.Columns.{line_at}
use Rattle.lrs_sheet_advice.proofs.place.line_on.Given as goal

abbrev pub invariant-loop-place : goal.invariant-loop-place
invariant-loop-place l = l.line ≡ line_at l.sheet l.place
