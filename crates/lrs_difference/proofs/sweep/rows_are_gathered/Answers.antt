use Rattle.lrs_difference.proofs.Swept.{last_grown, none_added, one_added}
use Rattle.lrs_difference.proofs.sweep.rows_are_gathered.Goals as goal

pub returns-clause-none : goal.returns-clause-none
returns-clause-none c = none_added

pub returns-clause-one : goal.returns-clause-one
returns-clause-one c = one_added

pub returns-clause-grown : goal.returns-clause-grown
returns-clause-grown c = last_grown
