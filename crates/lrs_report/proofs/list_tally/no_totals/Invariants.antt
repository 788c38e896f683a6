use Rattle.std.proofs.Common.{◌≡◌, map, take}
use Rattle.lrs_report.specs.ListTally.{no_total}
use Rattle.lrs_report.proofs.list_tally.no_totals.Given as goal

abbrev pub invariant-loop-class : goal.invariant-loop-class
invariant-loop-class l = l.totals.items ≡ map no_total (take l.class-index l.classes)
