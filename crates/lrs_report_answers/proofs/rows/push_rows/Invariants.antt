use Rattle.std.proofs.Common.{◌≡◌, ◌++◌, map, take}
use Rattle.lrs_report_answers.specs.AssetStretches.{row_of_span}
use Rattle.lrs_report_answers.proofs.rows.push_rows.Given as goal

abbrev pub invariant-loop-row : goal.invariant-loop-row
invariant-loop-row l = l.found.items ≡ l.fn.found.items ++ map (row_of_span l.route) (take l.row-index l.rows)
