use Rattle.std.proofs.Common.{arith}
use Rattle.sqlite.specs.Held.{state}
use Rattle.lrs_store_commit.proofs.UndoneLemmas.{all_undone}
use Rattle.lrs_store_commit.proofs.commit.write_changes.Goals as goal

pub returns-clause-undone : goal.returns-clause-undone
returns-clause-undone g c =
    all_undone c.write_in_one-written.result (state g.S.Store c.args.conn.now) (state g.S.Store c.write_in_one-written.new.conn) c.requires.ready c.schema.ensures.live c.schema-2.ensures.live
    (λ clean. omega (arith, clean, c.write_in_one-written.ensures.crash.clean)) c.write_in_one-written.ensures.back
