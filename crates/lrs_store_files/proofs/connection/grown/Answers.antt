use Rattle.std.proofs.Common.{inr, sym, ap, subst, ◌∙◌, arith}
use Rattle.sqlite_trees.specs.Tree.{Trees}
use Rattle.sqlite.specs.Effect.{Database}
use Rattle.sqlite.specs.Held.{state}
use Rattle.sqlite.specs.State.{HasCleanDisk}
use Rattle.lrs_store_tables.specs.Contents.Tables.{AreSame}
use Rattle.lrs_store_tables.specs.StoredRows.{stored}
use Rattle.lrs_store_tables.specs.TableCreation.{first_rows}
use Rattle.lrs_store_tables.proofs.MakeLemmas.{rows_of_first}
use Rattle.lrs_store_files.proofs.OpenLemmas.{taken_some, at_rest, grown_numbers, left_begun}
use Rattle.lrs_store_files.proofs.RefusedLemmas.{store_failed}
use Rattle.lrs_store_files.proofs.connection.grown.Goals as goal

pub returns-in-Ok-clause-ready : goal.returns-in-Ok-clause-ready
returns-in-Ok-clause-ready g c clean opened =
    let old = state g.S.Store c.args.conn in
    let new = state g.S.Store c.grow.new.conn in
    let early : HasCleanDisk old = omega (arith, c.grow.ensures.survives.clean) in
    let it = c.in-Ok.ensures.grown clean in
    at_rest new (c.schema-live.ensures.live opened).0 it.schema (grown_numbers c.args.first old new c.requires.first (c.requires.found early).1 it.schema it.rows) it.settled

pub returns-in-Ok-clause-rows : goal.returns-in-Ok-clause-rows
returns-in-Ok-clause-rows g c = taken_some (state g.S.Store c.args.conn) (state g.S.Store c.grow.new.conn) c.args.first c.requires.some (omega (arith, c.requires.few)) c.requires.first (λ clean db left.
    let old = state g.S.Store c.args.conn in
    let new = state g.S.Store c.grow.new.conn in
    let it = c.in-Ok.ensures.grown clean in
    let is = g.met.S.Store.settled c.grow.new.conn.store db it.is_open left ∙ ap (λ (d : Database). d.trees) (sym it.settled) in
    subst (λ (d : Trees). AreSame (first_rows c.args.first (stored old.now.trees)) (stored d)) (sym is) (rows_of_first c.args.first old.now.trees new.now.trees it.rows))

pub returns-in-Err-clause-left : goal.returns-in-Err-clause-left
returns-in-Err-clause-left g c =
    let old = state g.S.Store c.args.conn in
    left_begun old (state g.S.Store c.grow.new.conn) (λ db. AreSame (first_rows c.args.first (stored old.now.trees)) (stored db)) c.requires.found c.grow.ensures.survives (g.met.S.Store.settled c.args.conn.store)
    (λ db same. inr (c.args.first, c.requires.some, c.requires.few, c.requires.first, same))

pub returns-in-Err-clause-failed : goal.returns-in-Err-clause-failed
returns-in-Err-clause-failed g c is clean =
    store_failed c.fault_of.result c.in-Err.error (state g.S.Store c.args.conn) (state g.S.Store c.grow.new.conn) c.fault_of.ensures.memory is (c.in-Err.ensures.cause clean)
