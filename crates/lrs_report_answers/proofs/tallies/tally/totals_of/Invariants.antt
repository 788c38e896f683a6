use Rattle.std.proofs.Common.{◌≡◌, map, take}
use Rattle.lrs_report_answers.specs.Tally.Counts.{total_counted}
use Rattle.lrs_report_answers.proofs.tallies.tally.totals_of.Given as goal

abbrev pub invariant-loop-count : goal.invariant-loop-count
invariant-loop-count l = l.totals.items ≡ map total_counted (take l.count-index l.counts)
