use Rattle.std.proofs.Common.{length, ◌+◌, ◌≤◌}
use Rattle.lrs_sheet_records.specs.Words.{parts_of}
use Rattle.lrs_cli_tasks.proofs.Picking.{HasPassed}
use Rattle.lrs_cli_tasks.proofs.columns.place_among.Given as goal

abbrev pub invariant-names : goal.invariant-names
invariant-names l = record {
  passed : HasPassed (parts_of 44 l.names) l.name (parts_of 44 l.rest) l.place;
  room : l.place + length l.rest ≤ length l.names;
}

abbrev pub decreases-names : goal.decreases-names
decreases-names l = length l.rest
