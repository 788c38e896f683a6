use Rattle.lrs_difference.proofs.Ordered.{in_their_order}
use Rattle.lrs_difference.proofs.laws.lines_are_in_order.Goals as goal

pub returns : goal.returns
returns c = in_their_order
