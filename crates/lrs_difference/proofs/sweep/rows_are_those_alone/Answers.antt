use Rattle.lrs_difference.proofs.SweptEdges.{rows_begin, rows_end, rows_go_on}
use Rattle.lrs_difference.proofs.sweep.rows_are_those_alone.Goals as goal

pub returns-clause-begin : goal.returns-clause-begin
returns-clause-begin c = rows_begin

pub returns-clause-go_on : goal.returns-clause-go_on
returns-clause-go_on c = rows_go_on

pub returns-clause-end : goal.returns-clause-end
returns-clause-end c = rows_end
