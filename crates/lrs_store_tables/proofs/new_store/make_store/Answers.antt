use Rattle.std.proofs.Common.{rules, sym, ◌∙◌}
use Rattle.sqlite.specs.Held.{state}
use Rattle.lrs_store_tables.proofs.StartLemmas.{crash}
use Rattle.lrs_store_tables.proofs.MakeLemmas.{none_made}
use Rattle.lrs_store_tables.proofs.Transactions.{making_fails, committing_fails}
use Rattle.lrs_store_tables.proofs.new_store.make_store.Goals as goal

pub returns-clause-crash : goal.returns-clause-crash
returns-clause-crash g c =
    let h = crash g.S.Store c.args.conn.now c.transaction-tx.result.conn.now c.start.new.tx.conn.now (state g.S.Store c.commit.new.self.0) c.transaction-tx.ensures.begun c.requires.blank
    c.start.ensures.survives c.in_ok-start.ensures.started c.commit.ensures.survives in
    search rules

pub returns-in_err-start-clause-cause : goal.returns-in_err-start-clause-cause
returns-in_err-start-clause-cause g c =
    let h = making_fails g.S.Store 0 c.args.conn.now c.transaction-tx.result.conn.now c.start.new.tx.conn.now (state g.S.Store c.drop-tx.new.self.0) c.transaction-tx.ensures.begun (λ early opened. c.requires.blank early opened ∙ sym none_made) c.start.result
    c.start.ensures.survives c.start.ensures.cause c.drop-tx.ensures.survives in
    search rules

pub returns-clause-cause : goal.returns-clause-cause
returns-clause-cause g c =
    let h = committing_fails g.S.Store 0 c.args.conn.now c.transaction-tx.result.conn.now c.start.new.tx.conn.now (state g.S.Store c.commit.new.self.0) c.transaction-tx.ensures.begun (λ early opened. c.requires.blank early opened ∙ sym none_made) c.commit.result
    c.start.ensures.survives (λ m begun. (c.in_ok-start.ensures.started m begun).writing.begun) c.commit.ensures.survives c.commit.ensures.err in
    search rules
