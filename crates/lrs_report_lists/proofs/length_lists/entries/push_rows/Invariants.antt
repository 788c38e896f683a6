use Rattle.std.proofs.Common.{◌≡◌, ◌++◌, take}
use Rattle.lrs_report_lists.specs.Length.Parts.{entries_on}
use Rattle.lrs_report_lists.proofs.length_lists.entries.push_rows.Given as goal

abbrev pub invariant-loop-row : goal.invariant-loop-row
invariant-loop-row l = l.entries.items ≡ l.fn.entries.items ++ entries_on l.assets.rows l.start (take l.row-index l.rows)
