use Rattle.lrs_difference.proofs.Agreeing.{no_line}
use Rattle.lrs_difference.proofs.laws.no_line_where_they_agree.Goals as goal

pub returns : goal.returns
returns c = no_line
