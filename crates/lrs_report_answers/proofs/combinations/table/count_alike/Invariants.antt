use Rattle.std.proofs.Common.{◌≡◌, ℕ, ◌<◌, true, get_or}
use Rattle.lrs_report_answers.specs.declared.combinations.Combination.{Combination}
use Rattle.lrs_report_answers.specs.CombinationParts.{has_values}
use Rattle.lrs_report_answers.proofs.combinations.table.count_alike.Given as goal

abbrev pub invariant-loop-i : goal.invariant-loop-i
invariant-loop-i l = (k : ℕ) (d : Combination) → k < l.i → has_values l.first.values (get_or l.entries k d) ≡ true
