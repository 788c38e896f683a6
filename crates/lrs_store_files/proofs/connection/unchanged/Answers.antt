use Rattle.sqlite.specs.Held.{state}
use Rattle.lrs_store_files.proofs.OpenLemmas.{left_unchanged}
use Rattle.lrs_store_files.proofs.connection.unchanged.Goals as goal

pub returns-clause-left : goal.returns-clause-left
returns-clause-left g c = left_unchanged (state g.S.Store c.args.conn) c.requires.found (g.met.S.Store.settled c.args.conn.store)
