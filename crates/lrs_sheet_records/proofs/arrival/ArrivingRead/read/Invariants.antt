use Rattle.std.proofs.Common.{◌≡◌}
use Rattle.lrs_sheet_records.proofs.arrival.ArrivingRead.read.Given as goal

abbrev pub invariant-loop-byte : goal.invariant-loop-byte
invariant-loop-byte g l = l.self.reader ≡ l.initial.self.reader
