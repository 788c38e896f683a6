use Rattle.sqlite.specs.Held.{state}
use Rattle.lrs_store_tables.specs.Contents.Tables.{AreSame}
use Rattle.lrs_store_tables.specs.StoredRows.{stored}
use Rattle.lrs_store_tables.specs.Rows.{tables_of}
use Rattle.lrs_store.proofs.TableKeeper.ReadLemmas.{left_before}
use Rattle.lrs_store_tables.proofs.FailLemmas.{reason_after}
use Rattle.lrs_store_tables.specs.Failures.{HasReason}
use Rattle.lrs_store_tables.proofs.RowLemmas.{err_told}
use Rattle.lrs_store_tables.proofs.RowLemmas.{leaves_then}
use Rattle.lrs_store.proofs.image.read_open.Goals as goal

pub returns-clause-rows : goal.returns-clause-rows
returns-clause-rows g c = left_before (state g.S.Store c.read_alone.new.conn) (state g.S.Store c.check_open.new.conn) c.check_open.ensures.survives (λ db. AreSame (stored db) (tables_of c.in_ok-rows.rows)) c.in_ok-rows.ensures.rows

pub returns-in_err-check_open-clause-cause : goal.returns-in_err-check_open-clause-cause
returns-in_err-check_open-clause-cause g c clean =
    let h = reason_after (state g.S.Store c.args.conn.now) (state g.S.Store c.read_alone.new.conn) (state g.S.Store c.check_open.new.conn) c.in_err-check_open.field-0.0
    c.read_alone.ensures.survives c.check_open.ensures.survives clean (c.in_err-check_open.ensures.cause clean) in
    err_told (HasReason (state g.S.Store c.args.conn.now) (state g.S.Store c.check_open.new.conn)) c.from_residual-in_err-check_open.result c.from_residual-in_err-check_open.ensures.1 h

pub returns-in_err-rows-clause-survives : goal.returns-in_err-rows-clause-survives
returns-in_err-rows-clause-survives g c = c.read_alone.ensures.survives

pub returns-in_err-rows-clause-cause : goal.returns-in_err-rows-clause-cause
returns-in_err-rows-clause-cause g c clean = err_told (HasReason (state g.S.Store c.args.conn.now) (state g.S.Store c.read_alone.new.conn)) c.from_residual.result c.from_residual.ensures.1 (c.in_err-rows.ensures.cause clean)

pub returns-in_err-check_open-clause-survives : goal.returns-in_err-check_open-clause-survives
returns-in_err-check_open-clause-survives g c = leaves_then (state g.S.Store c.args.conn.now) (state g.S.Store c.read_alone.new.conn) (state g.S.Store c.check_open.new.conn) c.read_alone.ensures.survives c.check_open.ensures.survives

pub returns-clause-survives : goal.returns-clause-survives
returns-clause-survives g c = leaves_then (state g.S.Store c.args.conn.now) (state g.S.Store c.read_alone.new.conn) (state g.S.Store c.check_open.new.conn) c.read_alone.ensures.survives c.check_open.ensures.survives

pub returns-clause-cause : goal.returns-clause-cause
returns-clause-cause g c clean = tt

pub returns-in_err-rows-clause-ready : goal.returns-in_err-rows-clause-ready
returns-in_err-rows-clause-ready g c = c.read_alone.ensures.undone c.requires.open

pub returns-in_err-check_open-clause-ready : goal.returns-in_err-check_open-clause-ready
returns-in_err-check_open-clause-ready g c = c.check_open.ensures.ready

pub returns-clause-ready : goal.returns-clause-ready
returns-clause-ready g c = c.check_open.ensures.ready
