use Rattle.std.proofs.Common.{length}
use Rattle.lrs_report_lists.proofs.Length.Groups.{Leads}
use Rattle.lrs_report_lists.proofs.length_lists.table.table_of.Given as goal

abbrev pub invariant-loop-rest : goal.invariant-loop-rest
invariant-loop-rest l = Leads l.fn.entries l.rest l.lengths.items

abbrev pub decreases-loop-rest : goal.decreases-loop-rest
decreases-loop-rest l = length l.rest
