use Rattle.std.proofs.Common.{take}
use Rattle.lrs_sheet_log.specs.Differences.{AreEach}
use Rattle.lrs_sheet_log.proofs.difference.are_each.Given as goal

abbrev pub invariant-loop-place : goal.invariant-loop-place
invariant-loop-place g l = AreEach (g.T.Compared.same l.table) (take l.place l.first) (take l.place l.second)
