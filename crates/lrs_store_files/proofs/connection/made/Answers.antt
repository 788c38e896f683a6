use Rattle.std.proofs.Common.{inl, sym, subst}
use Rattle.sqlite_trees.specs.Tree.{Trees}
use Rattle.lrs_store_tables.specs.Contents.Tables.{AreSame}
use Rattle.lrs_store_tables.specs.StoredRows.{stored}
use Rattle.lrs_store_tables.specs.NewStores.{new_rows}
use Rattle.sqlite.specs.Held.{state}
use Rattle.lrs_store_files.proofs.OpenLemmas.{taken_nothing, left_begun}
use Rattle.lrs_store_files.proofs.RefusedLemmas.{store_failed}
use Rattle.lrs_store_files.proofs.connection.made.Goals as goal

pub returns-in-Ok-clause-ready : goal.returns-in-Ok-clause-ready
returns-in-Ok-clause-ready g c clean opened = (c.in-Ok.ensures.made clean).rest

pub returns-in-Ok-clause-rows : goal.returns-in-Ok-clause-rows
returns-in-Ok-clause-rows g c = taken_nothing (state g.S.Store c.args.conn) (state g.S.Store c.make_store.new.conn) c.requires.nothing (λ clean db left.
    let new = c.in-Ok.ensures.made clean in
    subst (λ (d : Trees). AreSame new_rows (stored d)) (sym (g.met.S.Store.settled c.make_store.new.conn.store db new.is_open left)) new.rows)

pub returns-in-Err-clause-left : goal.returns-in-Err-clause-left
returns-in-Err-clause-left g c =
    left_begun (state g.S.Store c.args.conn) (state g.S.Store c.make_store.new.conn) (λ db. AreSame new_rows (stored db)) c.requires.found c.make_store.ensures.crash (g.met.S.Store.settled c.args.conn.store)
    (λ db same. inl (c.requires.nothing, same))

pub returns-in-Err-clause-failed : goal.returns-in-Err-clause-failed
returns-in-Err-clause-failed g c is clean =
    store_failed c.fault_of.result c.in-Err.error (state g.S.Store c.args.conn) (state g.S.Store c.make_store.new.conn) c.fault_of.ensures.memory is (c.in-Err.ensures.cause clean)
