use Rattle.std.proofs.Common.{◌≡◌, [], drop}
use Rattle.lrs_events.specs.Ledger.Runs.{runs_from}
use Rattle.lrs_events.proofs.ledgers.run.runs_on.Given as goal

abbrev pub invariant-loop-row : goal.invariant-loop-row
invariant-loop-row l = runs_from l.side l.runs.items (drop l.row-index l.rows) ≡ runs_from l.side [] l.rows
