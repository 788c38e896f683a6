use Rattle.std.proofs.Common.{◌≡◌, take, map}
use Rattle.lrs_sheet_log.specs.Log.{edit_of_row}
use Rattle.lrs_sheet_log.specs.Sums.{sum_of}
use Rattle.lrs_sheet_log.proofs.sums.sum_of.Given as goal

abbrev pub invariant-loop-place : goal.invariant-loop-place
invariant-loop-place l = l.sum ≡ sum_of (map edit_of_row (take l.place l.edits))
