use Rattle.std.proofs.Common.{◌≡◌, drop}
use Rattle.lrs_cli_tasks.specs.Columns.{is_among}
use Rattle.lrs_cli_tasks.proofs.columns.is_among.Given as goal

abbrev pub invariant-loop-other : goal.invariant-loop-other
invariant-loop-other l = is_among l.place l.places ≡ is_among l.place (drop l.other-index l.places)
