use Rattle.std.proofs.Common.{rules}
use Rattle.sqlite.specs.Held.{state}
use Rattle.lrs_store_commit.proofs.BringLemmas.{crash}
use Rattle.lrs_store_commit.proofs.migration.bring_up.Goals as goal

pub returns-clause-crash : goal.returns-clause-crash
returns-clause-crash g c =
    let h = crash g.S.Store c.args.conn.now c.transaction-tx.result.conn.now c.write_second.new.tx.conn.now (state g.S.Store c.commit.new.self.0) c.args.assets.now c.transaction-tx.ensures.begun c.requires.ready
    c.write_second.ensures.survives c.in_ok-write_second.ensures.does c.commit.ensures.survives in
    search rules
