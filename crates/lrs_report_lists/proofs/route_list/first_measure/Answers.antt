use Rattle.std.proofs.Common.{ap, ◌∙◌}
use Rattle.lrs_element.specs.declared.marks.Mark.{Mark}
use Rattle.lrs_element.specs.Marks.{first_mark, no_mark}
use Rattle.lrs_report_lists.proofs.Writing.{first_mark_is}
use Rattle.lrs_report_lists.proofs.route_list.first_measure.Goals as goal

pub returns-in-len1-up : goal.returns-in-len1-up
returns-in-len1-up c = ap (λ (m : Mark). m.measure) (first_mark_is c.list.result.now no_mark c.in-len1-up.len_at_least) ∙ ap (λ marks. (first_mark marks).measure) c.list.ensures.list
