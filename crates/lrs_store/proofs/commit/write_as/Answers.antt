use Rattle.std.proofs.Common.{arith, ap, Result, Ok, Err}
use Rattle.sqlite.specs.State.{HasCleanDisk}
use Rattle.sqlite.specs.Held.{state}
use Rattle.lrs_store.proofs.TableKeeper.CommitLemmas.{counted, counted_second, changed, old_or_changed, held_before, as_before}
use Rattle.lrs_image.specs.declared.keeper.CommitFault.{CommitFault}
use Rattle.lrs_image.specs.declared.keeper.CommitFault.TheVariants.{Memory}
use Rattle.lrs_store.proofs.commit.write_as.Goals as goal

abbrev fault_in : {A : Type 0} → Result A CommitFault → CommitFault
fault_in (Ok x) = Memory
fault_in (Err fault) = fault

pub returns-in-Ok-clause-edits : goal.returns-in-Ok-clause-edits
returns-in-Ok-clause-edits g c =
    let early : HasCleanDisk (state g.S.Store c.write_changes.new.conn) → HasCleanDisk (state g.S.Store c.args.conn.now) = λ clean. omega (arith, clean, c.write_changes.ensures.crash.clean) in
    counted g.S.Store g.met.S.Store.stays g.met.S.Store.settled c.args.conn.now c.args.n c.args.edits c.args.changes.now c.requires.ready c.requires.next c.requires.edits c.requires.can c.prove_all_texts.ensures
    c.write_changes.new.conn early c.in-Ok.ensures.is_open c.in-Ok.ensures.written

pub returns-in-Ok-clause-ok : goal.returns-in-Ok-clause-ok
returns-in-Ok-clause-ok g c =
    let early : HasCleanDisk (state g.S.Store c.write_changes.new.conn) → HasCleanDisk (state g.S.Store c.args.conn.now) = λ clean. omega (arith, clean, c.write_changes.ensures.crash.clean) in
    changed g.S.Store g.met.S.Store.stays g.met.S.Store.settled c.args.conn.now c.args.n c.args.edits c.args.changes.now c.requires.ready c.requires.next c.requires.edits c.requires.can c.prove_all_texts.ensures
    c.write_changes.new.conn early c.in-Ok.ensures.is_open c.in-Ok.ensures.written

pub returns-in-Err-clause-memory : goal.returns-in-Err-clause-memory
returns-in-Err-clause-memory g c e =
    let early : HasCleanDisk (state g.S.Store c.write_changes.new.conn) → HasCleanDisk (state g.S.Store c.args.conn.now) = λ clean. omega (arith, clean, c.write_changes.ensures.crash.clean) in
    as_before g.S.Store g.met.S.Store.stays g.met.S.Store.settled c.args.conn.now c.write_changes.new.conn c.fault_of.new.conn c.args.edits c.requires.open c.requires.edits
    early c.in-Err.ensures.undone (c.fault_of.ensures.memory (ap fault_in e)) c.fault_of.ensures.survives

pub returns-in-Err-clause-store : goal.returns-in-Err-clause-store
returns-in-Err-clause-store g c e x h =
    let early : HasCleanDisk (state g.S.Store c.write_changes.new.conn) → HasCleanDisk (state g.S.Store c.args.conn.now) = λ clean. omega (arith, clean, c.write_changes.ensures.crash.clean) in
    old_or_changed g.S.Store g.met.S.Store.stays g.met.S.Store.settled c.args.conn.now c.args.n c.args.edits c.args.changes.now c.requires.ready c.requires.next c.requires.edits c.requires.can c.prove_all_texts.ensures
    c.write_changes.new.conn early c.write_changes.ensures.crash.crash x (held_before _ _ c.fault_of.ensures.survives x h)

pub returns-in-Ok-clause-second : goal.returns-in-Ok-clause-second
returns-in-Ok-clause-second g c = counted_second (state g.S.Store c.write_changes.new.conn) _ (returns-in-Ok-clause-edits g c)
