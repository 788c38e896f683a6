use Rattle.std.proofs.Common.{rules, refl, arith}
use Rattle.sqlite.specs.State.{HasCleanDisk}
use Rattle.sqlite.specs.Held.{state}
use Rattle.lrs_store_tables.proofs.StartLemmas.{made_writing, started}
use Rattle.lrs_store_tables.proofs.FailLemmas.{reason_after}
use Rattle.lrs_store_tables.proofs.new_store.start.Goals as goal

pub returns-clause-started : goal.returns-clause-started
returns-clause-started g c clean making =
    let s0 = state g.S.Store c.args.tx.now.conn.now in
    let s1 = state g.S.Store c.make_tables.new.tx.conn.now in
    let s2 = state g.S.Store c.put_version.new.tx.conn.now in
    let m1 : HasCleanDisk s1 = omega (arith, c.put_version.ensures.changes.survives.clean) in
    let made = c.in_ok-make_tables.ensures.made m1 making in
    started s0 s1 s2 (c.in_ok-put_version.ensures.is_open clean (made_writing s0 s1 made)) made (c.in_ok-put_version.ensures.changes.does clean (made_writing s0 s1 made))

pub returns-in_err-put_version-clause-cause : goal.returns-in_err-put_version-clause-cause
returns-in_err-put_version-clause-cause g c making clean =
    let s0 = state g.S.Store c.args.tx.now.conn.now in
    let s1 = state g.S.Store c.make_tables.new.tx.conn.now in
    let s2 = state g.S.Store c.put_version.new.tx.conn.now in
    let m1 : HasCleanDisk s1 = omega (arith, clean, c.put_version.ensures.changes.survives.clean) in
    let made = c.in_ok-make_tables.ensures.made m1 making in
    let h = reason_after s0 s1 s2 c.in_err-put_version.field-0.0 c.make_tables.ensures.survives c.put_version.ensures.changes.survives clean
    (c.in_err-put_version.ensures.cause refl (λ opened k low. (made.rows opened).empty k (omega arith) low) (made_writing s0 s1 made) clean) in
    search rules
