use Rattle.std.proofs.Common.{◌↔◌}
use Rattle.lrs_sheet_log.specs.Differences.{AreEach}
use Rattle.lrs_sheet_log.proofs.difference.are_each_in_chunks.Given as goal

abbrev pub invariant-loop-row : goal.invariant-loop-row
invariant-loop-row g l = AreEach (g.T.Compared.same l.table) l.row-iterator l.others ↔ AreEach (g.T.Compared.same l.table) l.first.rows l.second.rows
