use Rattle.std.proofs.Common.{◌≡◌, ◌++◌, map}
use Rattle.lrs_drafts.specs.Holdings.{told}
use Rattle.lrs_drafts.proofs.holdings.all_told.Given as goal

abbrev pub invariant-loop-row : goal.invariant-loop-row
invariant-loop-row l = l.all.items ++ map told l.row-iterator ≡ map told l.rows.rows
