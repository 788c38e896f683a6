use Rattle.lrs_difference.proofs.Listed.{all_groups}
use Rattle.lrs_difference.proofs.groups.a_difference_is_its_groups.Goals as goal

pub returns : goal.returns
returns c = all_groups
