use Rattle.std.proofs.Common.{◌≡◌, ◌<◌, ◌^◌, take, sum_by}
use Rattle.lrs_report_answers.specs.CombinationParts.{part_of}
use Rattle.lrs_report_answers.proofs.combinations.table.total.Given as goal

abbrev pub invariant-loop-entry : goal.invariant-loop-entry
invariant-loop-entry l = sum_by (part_of l.part) (take l.entry-index l.entries) < 2 ^ 64 → l.total ≡ sum_by (part_of l.part) (take l.entry-index l.entries)
