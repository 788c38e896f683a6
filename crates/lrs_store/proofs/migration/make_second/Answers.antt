use Rattle.std.proofs.Common.{inl, inr, ◌∙◌, arith}
use Rattle.sqlite.specs.State.{HasCleanDisk}
use Rattle.sqlite.specs.Held.{state}
use Rattle.lrs_store_tables.proofs.RowLemmas.{leaves_then}
use Rattle.lrs_store.proofs.TableKeeper.OpeningLemmas.{found_before, second_still}
use Rattle.lrs_store.proofs.TableKeeper.FailedLemmas.{not_both, failed_behind}
use Rattle.lrs_store.proofs.migration.make_second.Goals as goal

pub returns-in-Ok-false-clause-content : goal.returns-in-Ok-false-clause-content
returns-in-Ok-false-clause-content g c x h = found_before (state g.S.Store c.args.conn.now) (state g.S.Store c.has_second.new.conn) c.has_second.ensures.survives x (c.rewrite.ensures.content x h)

pub returns-in-Ok-false-clause-still : goal.returns-in-Ok-false-clause-still
returns-in-Ok-false-clause-still g c t e = leaves_then (state g.S.Store c.args.conn.now) (state g.S.Store c.has_second.new.conn) (state g.S.Store c.rewrite.new.conn) c.has_second.ensures.survives (c.rewrite.ensures.still t e)

pub returns-in-Ok-false-clause-untouched : goal.returns-in-Ok-false-clause-untouched
returns-in-Ok-false-clause-untouched g c second =
    let a = state g.S.Store c.args.conn.now in
    let b = state g.S.Store c.has_second.new.conn in
    leaves_then a b (state g.S.Store c.rewrite.new.conn) c.has_second.ensures.survives (c.rewrite.ensures.untouched (second_still a b c.has_second.ensures.survives second))

pub returns-in-Ok-false-clause-failed : goal.returns-in-Ok-false-clause-failed
returns-in-Ok-false-clause-failed g c second is clean =
    let b = state g.S.Store c.has_second.new.conn in
    let early = c.rewrite.ensures.clean clean in
    absurd (not_both g.S.Store g.met.S.Store.stays c.has_second.new.conn early (c.in-Ok-false.ensures.open early) (second_still (state g.S.Store c.args.conn.now) b c.has_second.ensures.survives second) (c.in-Ok-false.ensures.other c.in-Ok-false.field-0-test))

pub returns-in-Ok-false-clause-cause : goal.returns-in-Ok-false-clause-cause
returns-in-Ok-false-clause-cause g c is clean =
    let b = state g.S.Store c.has_second.new.conn in
    elim (c.rewrite.ensures.cause is clean) [
      | inl failed ↦ inl (failed_behind (state g.S.Store c.args.conn.now) b (state g.S.Store c.rewrite.new.conn) c.has_second.ensures.survives (c.in-Ok-false.ensures.open (c.rewrite.ensures.clean clean)) failed)
      | inr holds ↦ inr holds
    ]

pub returns-in-Ok-false-clause-autocommit : goal.returns-in-Ok-false-clause-autocommit
returns-in-Ok-false-clause-autocommit g c = c.rewrite.ensures.autocommit

pub returns-in-Ok-false-clause-clean : goal.returns-in-Ok-false-clause-clean
returns-in-Ok-false-clause-clean g c clean = let late : HasCleanDisk (state g.S.Store c.has_second.new.conn) = c.rewrite.ensures.clean clean in omega (arith, late, c.has_second.ensures.survives.clean)

pub returns-in-Ok-false-clause-ready : goal.returns-in-Ok-false-clause-ready
returns-in-Ok-false-clause-ready g c = c.rewrite.ensures.ready

pub returns-in-Ok-false-clause-open : goal.returns-in-Ok-false-clause-open
returns-in-Ok-false-clause-open g c = c.rewrite.ensures.open

pub returns-in-Ok-false-clause-second : goal.returns-in-Ok-false-clause-second
returns-in-Ok-false-clause-second g c = c.rewrite.ensures.second

pub returns-in-Ok-false-clause-unsound : goal.returns-in-Ok-false-clause-unsound
returns-in-Ok-false-clause-unsound g c = c.rewrite.ensures.unsound

pub returns-in-Ok-false-clause-limit : goal.returns-in-Ok-false-clause-limit
returns-in-Ok-false-clause-limit g c = c.rewrite.ensures.limit ∙ c.has_second.ensures.survives.limit

pub returns-in-Ok-true-clause-autocommit : goal.returns-in-Ok-true-clause-autocommit
returns-in-Ok-true-clause-autocommit g c = c.has_second.ensures.autocommit

pub returns-in-Ok-true-clause-clean : goal.returns-in-Ok-true-clause-clean
returns-in-Ok-true-clause-clean g c clean = omega (arith, clean, c.has_second.ensures.survives.clean)

pub returns-in-Ok-true-clause-content : goal.returns-in-Ok-true-clause-content
returns-in-Ok-true-clause-content g c = found_before (state g.S.Store c.args.conn.now) (state g.S.Store c.has_second.new.conn) c.has_second.ensures.survives

pub returns-in-Ok-true-clause-still : goal.returns-in-Ok-true-clause-still
returns-in-Ok-true-clause-still g c t e = c.has_second.ensures.survives

pub returns-in-Ok-true-clause-untouched : goal.returns-in-Ok-true-clause-untouched
returns-in-Ok-true-clause-untouched g c second = c.has_second.ensures.survives

pub returns-in-Ok-true-clause-limit : goal.returns-in-Ok-true-clause-limit
returns-in-Ok-true-clause-limit g c = c.has_second.ensures.survives.limit

pub returns-in-Err-clause-autocommit : goal.returns-in-Err-clause-autocommit
returns-in-Err-clause-autocommit g c = c.has_second.ensures.autocommit

pub returns-in-Err-clause-clean : goal.returns-in-Err-clause-clean
returns-in-Err-clause-clean g c clean = omega (arith, clean, c.has_second.ensures.survives.clean)

pub returns-in-Err-clause-content : goal.returns-in-Err-clause-content
returns-in-Err-clause-content g c = found_before (state g.S.Store c.args.conn.now) (state g.S.Store c.has_second.new.conn) c.has_second.ensures.survives

pub returns-in-Err-clause-still : goal.returns-in-Err-clause-still
returns-in-Err-clause-still g c t e = c.has_second.ensures.survives

pub returns-in-Err-clause-untouched : goal.returns-in-Err-clause-untouched
returns-in-Err-clause-untouched g c second = c.has_second.ensures.survives

pub returns-in-Err-clause-limit : goal.returns-in-Err-clause-limit
returns-in-Err-clause-limit g c = c.has_second.ensures.survives.limit
