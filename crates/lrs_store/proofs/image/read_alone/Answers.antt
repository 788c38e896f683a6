use Rattle.sqlite.specs.Held.{state}
use Rattle.lrs_store.proofs.TableKeeper.LoadLemmas.{rests_read}
use Rattle.lrs_store.proofs.image.read_alone.Goals as goal

pub returns-clause-undone : goal.returns-clause-undone
returns-clause-undone g c =
    let read = c.read_in_one-rows.ensures in
    rests_read (state g.S.Store c.args.conn.now) (state g.S.Store c.read_in_one-rows.new.conn) c.requires.ready c.schema.ensures.live c.schema-2.ensures.live read.survives read.back
