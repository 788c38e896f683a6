use Rattle.std.proofs.Common.{rules}
use Rattle.sqlite.specs.Held.{state}
use Rattle.lrs_store_files.proofs.OpenLemmas.{crash}
use Rattle.lrs_store_tables.proofs.Transactions.{making_fails, committing_fails}
use Rattle.lrs_store_files.proofs.connection.grow.Goals as goal

pub returns-clause-survives : goal.returns-clause-survives
returns-clause-survives g c =
    let h = crash g.S.Store c.args.first c.requires.few c.args.conn.now c.transaction-tx.result.conn.now c.make_tables.new.tx.conn.now (state g.S.Store c.commit.new.self.0) c.transaction-tx.ensures.begun c.requires.first
    c.make_tables.ensures.survives c.in_ok-make_tables.ensures.made c.commit.ensures.survives in
    search rules

pub returns-in_err-make_tables-clause-cause : goal.returns-in_err-make_tables-clause-cause
returns-in_err-make_tables-clause-cause g c =
    let h = making_fails g.S.Store c.args.first c.args.conn.now c.transaction-tx.result.conn.now c.make_tables.new.tx.conn.now (state g.S.Store c.drop-tx.new.self.0) c.transaction-tx.ensures.begun c.requires.first c.make_tables.result
    c.make_tables.ensures.survives c.make_tables.ensures.cause c.drop-tx.ensures.survives in
    search rules

pub returns-clause-cause : goal.returns-clause-cause
returns-clause-cause g c =
    let h = committing_fails g.S.Store c.args.first c.args.conn.now c.transaction-tx.result.conn.now c.make_tables.new.tx.conn.now (state g.S.Store c.commit.new.self.0) c.transaction-tx.ensures.begun c.requires.first c.commit.result
    c.make_tables.ensures.survives (λ m begun. (c.in_ok-make_tables.ensures.made m begun).begun) c.commit.ensures.survives c.commit.ensures.err in
    search rules
