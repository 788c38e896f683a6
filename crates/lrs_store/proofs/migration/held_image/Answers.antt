use Rattle.std.proofs.Common.{subst}
use Rattle.sqlite.specs.Held.{state}
use Rattle.lrs_store_tables.specs.Rows.{Tells}
use Rattle.lrs_store_tables.specs.Rows.{tables_of}
use Rattle.lrs_store.proofs.TableKeeper.OpeningLemmas.{told_image, told_unsound}
use Rattle.lrs_store.proofs.migration.held_image.Goals as goal

pub returns-clause-image : goal.returns-clause-image
returns-clause-image g c = told_image (state g.S.Store c.read_alone.new.conn) (tables_of c.in-Ok.rows) c.in-Ok.ensures.rows c.read.result c.read.ensures

pub returns-clause-unsound : goal.returns-clause-unsound
returns-clause-unsound g c = told_unsound (state g.S.Store c.read_alone.new.conn) (tables_of c.in-Ok.rows) c.in-Ok.ensures.rows c.read.result c.read.ensures

pub returns-clause-failed : goal.returns-clause-failed
returns-clause-failed g c is clean = absurd (subst (λ r. Tells r (tables_of c.in-Ok.rows)) is c.read.ensures)
