use Rattle.std.proofs.Common.{rules, [], ◌∷◌, codes, inl, inr, arith}
use Rattle.std.proofs.lemmas.Bool.{cases_Bool}
use Rattle.sqlite.specs.State.{HasCleanDisk}
use Rattle.sqlite.specs.Held.{state}
use Rattle.lrs_store_tables.specs.Schema.{select_version}
use Rattle.lrs_store_tables.specs.Failures.{HasReason}
use Rattle.lrs_store_tables.proofs.SelectStatements.{version_shows, select_version_is}
use Rattle.lrs_store_tables.proofs.AloneStatements.{version_alone, version_typed}
use Rattle.lrs_store_tables.proofs.FailLemmas.{not_run_for}
use Rattle.lrs_store.proofs.TableKeeper.ReadLemmas.{rests_still, rests_unprepared}
use Rattle.lrs_store.proofs.image.check_open.Goals as goal

pub returns-clause-ready : goal.returns-clause-ready
returns-clause-ready g c = rests_still (state g.S.Store c.args.conn.now) (state g.S.Store c.prepare.new.self) c.prepare.ensures.survives c.requires.ready (λ clean. (c.in_ok-prepare.ensures.ok clean).1)

pub returns-clause-open : goal.returns-clause-open
returns-clause-open g c clean = (c.in_ok-prepare.ensures.ok clean).1.0.is_open

pub returns-clause-was_open : goal.returns-clause-was_open
returns-clause-was_open g c clean = (c.in_ok-prepare.ensures.ok clean).1.0.was_open

pub returns-in_err-prepare-clause-cause : goal.returns-in_err-prepare-clause-cause
returns-in_err-prepare-clause-cause g c clean =
    let old = state g.S.Store c.args.conn.now in
    let new = state g.S.Store c.prepare.new.self in
    let e = c.in_err-prepare.field-0.0 in
    let early : HasCleanDisk old = omega (arith, clean, c.prepare.ensures.survives.clean) in
    let h : HasReason old new e = elim (cases_Bool old.is_open) [
      | inl opened ↦ not_run_for select_version (codes "v" ∷ []) 0 version_shows select_version_is version_alone version_typed old new e (c.requires.ready early opened).schema (c.in_err-prepare.ensures.err clean [])
      | inr shut ↦ inr (inr (inl shut))
    ] in
    search rules

pub returns-in_err-prepare-clause-ready : goal.returns-in_err-prepare-clause-ready
returns-in_err-prepare-clause-ready g c =
    rests_unprepared (state g.S.Store c.args.conn.now) (state g.S.Store c.prepare.new.self) select_version c.in_err-prepare.field-0.0 c.prepare.ensures.survives c.requires.ready (λ clean. c.in_err-prepare.ensures.err clean [])
