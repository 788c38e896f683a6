use Rattle.std.proofs.Common.{length}
use Rattle.lrs_report_answers.proofs.Combined.Groups.{Leads}
use Rattle.lrs_report_answers.proofs.combinations.table.table_of.Given as goal

abbrev pub invariant-loop-rest : goal.invariant-loop-rest
invariant-loop-rest l = Leads l.fn.entries l.rest l.rows.items

abbrev pub decreases-loop-rest : goal.decreases-loop-rest
decreases-loop-rest l = length l.rest
