use Rattle.std.proofs.Common.{ap, sym, ◌∙◌, ◌-◌, ◌+◌, ◌≡◌, length, arith}
use Rattle.lrs_element.specs.declared.marks.Mark.{Mark}
use Rattle.lrs_element.specs.Marks.{last_mark, no_mark}
use Rattle.lrs_element.proofs.LineLemmas.{last_mark-get_or}
use Rattle.lrs_report_lists.proofs.route_list.last_measure.Goals as goal

pub returns-in-len1-up : goal.returns-in-len1-up
returns-in-len1-up c =
    let some = c.in-len1-up.len_at_least in
    let marks = c.list.result.now in
    let last : length marks - 1 + 1 ≡ length marks = omega arith in
    ap (λ (m : Mark). m.measure) (sym (last_mark-get_or marks (length marks - 1) no_mark last)) ∙ ap (λ marks. (last_mark marks).measure) c.list.ensures.list
