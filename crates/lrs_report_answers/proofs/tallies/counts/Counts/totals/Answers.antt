use Rattle.std.proofs.Common.{map, ap, ◌∙◌}
use Rattle.lrs_report_answers.specs.Tally.Counts.{total_counted}
use Rattle.lrs_report_answers.proofs.Tally.Summed.{totals_counted}
use Rattle.lrs_report_answers.proofs.tallies.counts.Counts.totals.Goals as goal

pub returns-in-Ok : goal.returns-in-Ok
returns-in-Ok c = λ i sound counted. c.from_vec.ensures ∙ c.in-Ok.ensures ∙ ap (map total_counted) (c.deref.ensures.value ∙ counted.classes) ∙ totals_counted i sound
