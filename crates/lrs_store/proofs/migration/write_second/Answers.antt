use Rattle.std.proofs.Common.{arith}
use Rattle.sqlite.specs.State.{HasCleanDisk}
use Rattle.sqlite.specs.Held.{state}
use Rattle.lrs_store.proofs.TableKeeper.OpeningLemmas.{kept, second, nothing_written, holds_again}
use Rattle.lrs_store.proofs.migration.write_second.Goals as goal

pub returns-in-Ok-clause-second : goal.returns-in-Ok-clause-second
returns-in-Ok-clause-second g c =
    let early : HasCleanDisk (state g.S.Store c.bring_up.new.conn) → HasCleanDisk (state g.S.Store c.args.conn.now) = λ clean. omega (arith, clean, c.bring_up.ensures.crash.clean) in
    second g.S.Store g.met.S.Store.stays g.met.S.Store.settled c.args.conn.now c.bring_up.new.conn c.args.image.now c.as_slice.result.now c.as_slice.ensures c.requires.ready c.requires.image early c.in-Ok.ensures.is_open c.in-Ok.ensures.brought_up

pub returns-in-Ok-clause-content : goal.returns-in-Ok-clause-content
returns-in-Ok-clause-content g c =
    let early : HasCleanDisk (state g.S.Store c.bring_up.new.conn) → HasCleanDisk (state g.S.Store c.args.conn.now) = λ clean. omega (arith, clean, c.bring_up.ensures.crash.clean) in
    kept g.S.Store g.met.S.Store.stays g.met.S.Store.settled c.args.conn.now c.bring_up.new.conn c.args.image.now c.as_slice.result.now c.as_slice.ensures c.requires.ready c.requires.image early c.bring_up.ensures.crash.crash

pub returns-in-Err-clause-content : goal.returns-in-Err-clause-content
returns-in-Err-clause-content g c =
    let early : HasCleanDisk (state g.S.Store c.bring_up.new.conn) → HasCleanDisk (state g.S.Store c.args.conn.now) = λ clean. omega (arith, clean, c.bring_up.ensures.crash.clean) in
    kept g.S.Store g.met.S.Store.stays g.met.S.Store.settled c.args.conn.now c.bring_up.new.conn c.args.image.now c.as_slice.result.now c.as_slice.ensures c.requires.ready c.requires.image early c.bring_up.ensures.crash.crash

pub returns-in-Ok-clause-untouched : goal.returns-in-Ok-clause-untouched
returns-in-Ok-clause-untouched g c = nothing_written g.S.Store g.met.S.Store.stays c.args.conn.now (state g.S.Store c.bring_up.new.conn) _ (λ db made. made.0) c.bring_up.ensures.crash

pub returns-in-Err-clause-untouched : goal.returns-in-Err-clause-untouched
returns-in-Err-clause-untouched g c = nothing_written g.S.Store g.met.S.Store.stays c.args.conn.now (state g.S.Store c.bring_up.new.conn) _ (λ db made. made.0) c.bring_up.ensures.crash

pub returns-in-Ok-clause-still : goal.returns-in-Ok-clause-still
returns-in-Ok-clause-still g c = holds_again (state g.S.Store c.args.conn.now) (state g.S.Store c.bring_up.new.conn) c.args.image.now c.requires.image (returns-in-Ok-clause-content g c)

pub returns-in-Err-clause-still : goal.returns-in-Err-clause-still
returns-in-Err-clause-still g c = holds_again (state g.S.Store c.args.conn.now) (state g.S.Store c.bring_up.new.conn) c.args.image.now c.requires.image (returns-in-Err-clause-content g c)
