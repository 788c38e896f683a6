use Rattle.lrs_report_answers.proofs.Parted.{of_slices}
use Rattle.lrs_report_answers.proofs.entered_parts.parts_of_edit.Goals as goal

pub returns : goal.returns
returns c = of_slices c.args.parts.now c.args.edit c.parts_before.result c.parts_up_to.result c.parts_before.ensures.point c.parts_up_to.ensures.point
