use Rattle.sqlite.specs.Held.{state}
use Rattle.lrs_store_tables.proofs.RowLemmas.{leaves_then}
use Rattle.lrs_store.proofs.TableKeeper.FailedLemmas.{reason_behind}
use Rattle.lrs_store.proofs.image.read_checked.Goals as goal

pub returns-in-Ok-clause-cause : goal.returns-in-Ok-clause-cause
returns-in-Ok-clause-cause g c = reason_behind (state g.S.Store c.args.conn.now) (state g.S.Store c.check_open.new.conn) (state g.S.Store c.read_open.new.conn) c.read_open.result c.check_open.ensures.survives c.read_open.ensures.survives c.read_open.ensures.cause

pub returns-in-Ok-clause-survives : goal.returns-in-Ok-clause-survives
returns-in-Ok-clause-survives g c = leaves_then (state g.S.Store c.args.conn.now) (state g.S.Store c.check_open.new.conn) (state g.S.Store c.read_open.new.conn) c.check_open.ensures.survives c.read_open.ensures.survives
