use Rattle.std.proofs.Common.{drop}
use Rattle.lrs_report_answers.specs.Tally.Counts.{names_of, with_gone}
use Rattle.lrs_report_answers.proofs.Tally.Counted.{Adding}
use Rattle.lrs_report_answers.proofs.tallies.tally.add_gone.Given as goal

abbrev pub invariant-loop-row : goal.invariant-loop-row
invariant-loop-row l = Adding (names_of l.counts.items) (names_of l.fn.counts.items) (with_gone l.assets.rows (drop l.row-index l.gone) l.counts.items) (with_gone l.assets.rows l.gone l.fn.counts.items)
