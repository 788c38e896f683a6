use Rattle.lrs_report_lists.proofs.Length.Sides.{of_two_sides}
use Rattle.lrs_report_lists.proofs.length_lists.laws.lengths_are_of_two_sides.Goals as goal

pub returns : goal.returns
returns c = of_two_sides
