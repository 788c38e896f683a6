use Rattle.std.proofs.Common.{◌≡◌, drop}
use Rattle.std.specs.Prelude.{nat_le}
use Rattle.std.specs.List.{find}
use Rattle.lrs_report.proofs.diagrams.scale.first_from.Given as goal

abbrev pub invariant-loop-number : goal.invariant-loop-number
invariant-loop-number l = find (nat_le l.least) (drop l.number-index l.numbers) ≡ find (nat_le l.least) l.numbers
