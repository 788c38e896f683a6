use Rattle.std.proofs.Common.{drop}
use Rattle.lrs_cli_tasks.proofs.Picking.{HasPassed}
use Rattle.lrs_cli_tasks.proofs.columns.class_place.Given as goal

abbrev pub invariant-loop-place : goal.invariant-loop-place
invariant-loop-place l = HasPassed l.classes l.name (drop l.place l.classes) l.place
