use Rattle.std.proofs.Common.{subst}
use Rattle.lrs_promises.specs.Rows.{HasFewestRows}
use Rattle.lrs_promises.proofs.Fewest.{has_fewest_rows}
use Rattle.lrs_promises.proofs.canonical_rows.rows.Goals as goal

pub returns : goal.returns
returns g c = subst HasFewestRows c.inventory.ensures (has_fewest_rows c.inventory.result.now c.prove_sound.ensures)
