use Rattle.std.proofs.Common.{length}
use Rattle.lrs_cli_tasks.specs.Columns.{columns_of}
use Rattle.lrs_cli_tasks.proofs.Picking.{HasFound}
use Rattle.lrs_cli_tasks.proofs.columns.places_of.Given as goal

abbrev pub invariant-names : goal.invariant-names
invariant-names l = HasFound (columns_of l.question) l.names l.rest l.places.items

abbrev pub decreases-names : goal.decreases-names
decreases-names l = length l.rest
