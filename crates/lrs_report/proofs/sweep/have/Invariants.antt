use Rattle.std.proofs.Common.{◌≡◌, map, drop}
use Rattle.lrs_machine.specs.Segments.{same_values}
use Rattle.lrs_report.specs.Columns.{first_value}
use Rattle.lrs_report.proofs.sweep.have.Given as goal

abbrev pub invariant-loop-i : goal.invariant-loop-i
invariant-loop-i g l = same_values (drop l.i l.values) (map first_value (drop l.i l.columns)) ≡ same_values l.values (map first_value l.columns)
