use Rattle.std.proofs.Common.{◌≡◌, ◌++◌, map}
use Rattle.lrs_report_answers.specs.Tally.Counts.{no_count}
use Rattle.lrs_report_answers.proofs.tallies.tally.no_counts.Given as goal

abbrev pub invariant-loop-class : goal.invariant-loop-class
invariant-loop-class l = l.counts.items ++ map no_count l.class-iterator ≡ map no_count l.classes.rows
