use Rattle.std.proofs.Common.{drop}
use Rattle.lrs_report_answers.specs.Tally.Counts.{names_of, with_entered}
use Rattle.lrs_report_answers.proofs.Tally.Counted.{Adding}
use Rattle.lrs_report_answers.proofs.tallies.tally.add_entered.Given as goal

abbrev pub invariant-loop-part : goal.invariant-loop-part
invariant-loop-part l = Adding (names_of l.counts.items) (names_of l.fn.counts.items) (with_entered l.assets.rows (drop l.part-index l.entered) l.counts.items) (with_entered l.assets.rows l.entered l.fn.counts.items)
