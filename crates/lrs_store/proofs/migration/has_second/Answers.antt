use Rattle.std.proofs.Common.{map, sym, ap, ◌∙◌}
use Rattle.std.proofs.lemmas.Bool.{false≢true}
use Rattle.sqlite.specs.Held.{state}
use Rattle.lrs_store_tables.specs.StoredRows.{stored, version_in}
use Rattle.lrs_store.specs.TableKeeper.Openings.{HasVersions}
use Rattle.lrs_store_tables.proofs.RowLemmas.{leaves_then}
use Rattle.lrs_store.proofs.TableKeeper.OpeningLemmas.{second_read, other_read}
use Rattle.lrs_store.proofs.TableKeeper.ReadLemmas.{left_before}
use Rattle.lrs_store_tables.proofs.FailLemmas.{reason_after}
use Rattle.lrs_store_tables.specs.Failures.{HasReason}
use Rattle.lrs_store_tables.proofs.RowLemmas.{err_told}
use Rattle.lrs_store.proofs.migration.has_second.Goals as goal

pub returns-clause-second : goal.returns-clause-second
returns-clause-second g c is =
    let read = left_before (state g.S.Store c.read_versions_alone.new.conn) (state g.S.Store c.check_open.new.conn) c.check_open.ensures.survives (λ db. HasVersions c.in_ok-rows.rows.items (stored db)) c.in_ok-rows.ensures.rows in
    second_read (state g.S.Store c.check_open.new.conn) c.in_ok-rows.rows.items (ap (map version_in) (sym c.as_slice.ensures.value) ∙ c.is_second.ensures.0 is) read

pub returns-clause-other : goal.returns-clause-other
returns-clause-other g c is =
    let read = left_before (state g.S.Store c.read_versions_alone.new.conn) (state g.S.Store c.check_open.new.conn) c.check_open.ensures.survives (λ db. HasVersions c.in_ok-rows.rows.items (stored db)) c.in_ok-rows.ensures.rows in
    other_read (state g.S.Store c.check_open.new.conn) c.in_ok-rows.rows.items (λ second. absurd (false≢true (sym is ∙ c.is_second.ensures.1 (ap (map version_in) c.as_slice.ensures.value ∙ second)))) read

pub returns-in_err-check_open-clause-cause : goal.returns-in_err-check_open-clause-cause
returns-in_err-check_open-clause-cause g c clean =
    let h = reason_after (state g.S.Store c.args.conn.now) (state g.S.Store c.read_versions_alone.new.conn) (state g.S.Store c.check_open.new.conn) c.in_err-check_open.field-0.0
    c.read_versions_alone.ensures.survives c.check_open.ensures.survives clean (c.in_err-check_open.ensures.cause clean) in
    err_told (HasReason (state g.S.Store c.args.conn.now) (state g.S.Store c.check_open.new.conn)) c.from_residual-in_err-check_open.result c.from_residual-in_err-check_open.ensures.1 h

pub returns-in_err-rows-clause-survives : goal.returns-in_err-rows-clause-survives
returns-in_err-rows-clause-survives g c = c.read_versions_alone.ensures.survives

pub returns-in_err-rows-clause-cause : goal.returns-in_err-rows-clause-cause
returns-in_err-rows-clause-cause g c clean = err_told (HasReason (state g.S.Store c.args.conn.now) (state g.S.Store c.read_versions_alone.new.conn)) c.from_residual.result c.from_residual.ensures.1 (c.in_err-rows.ensures.cause clean)

pub returns-in_err-check_open-clause-survives : goal.returns-in_err-check_open-clause-survives
returns-in_err-check_open-clause-survives g c = leaves_then (state g.S.Store c.args.conn.now) (state g.S.Store c.read_versions_alone.new.conn) (state g.S.Store c.check_open.new.conn) c.read_versions_alone.ensures.survives c.check_open.ensures.survives

pub returns-clause-survives : goal.returns-clause-survives
returns-clause-survives g c = leaves_then (state g.S.Store c.args.conn.now) (state g.S.Store c.read_versions_alone.new.conn) (state g.S.Store c.check_open.new.conn) c.read_versions_alone.ensures.survives c.check_open.ensures.survives

pub returns-clause-cause : goal.returns-clause-cause
returns-clause-cause g c clean = tt
