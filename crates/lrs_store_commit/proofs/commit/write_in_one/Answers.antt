use Rattle.std.proofs.Common.{rules, arith}
use Rattle.sqlite.specs.Held.{state}
use Rattle.sqlite.specs.State.{HasCleanDisk}
use Rattle.lrs_store_commit.proofs.CommitLemmas.{crash, has_begun}
use Rattle.lrs_store_commit.proofs.UndoneLemmas.{on_error, commit_back, rolled_back}
use Rattle.lrs_store_commit.proofs.commit.write_in_one.Goals as goal

pub returns-clause-crash : goal.returns-clause-crash
returns-clause-crash g c =
    let h = crash g.S.Store c.args.conn.now c.transaction-tx.result.conn.now c.write_each.new.tx.conn.now (state g.S.Store c.commit.new.self.0) c.args.n c.args.changes.now c.requires.some c.transaction-tx.ensures.begun c.requires.ready
    c.write_each.ensures.survives c.in_ok-write_each.ensures.does c.commit.ensures.survives in
    search rules

pub returns-clause-back : goal.returns-clause-back
returns-clause-back g c =
    let ready = c.requires.ready in
    let early : HasCleanDisk (state g.S.Store c.commit.new.self.0) → HasCleanDisk (state g.S.Store c.write_each.new.tx.conn.now) = λ clean. omega (arith, clean, c.commit.ensures.survives.clean) in
    let first = c.write_each.ensures.survives in
    let h = commit_back g.S.Store g.met.S.Store.stays g.met.S.Store.settled c.args.conn.now c.transaction-tx.result.conn.now c.write_each.new.tx.conn.now c.transaction-tx.ensures.begun first
    c.commit.result c.commit.new.self.0 (has_begun g.S.Store c.args.conn.now c.transaction-tx.result.conn.now c.write_each.new.tx.conn.now c.args.n c.args.changes.now c.transaction-tx.ensures.begun ready first c.in_ok-write_each.ensures.does) early c.commit.ensures.err in
    search rules

pub returns-in_err-write_each-clause-back : goal.returns-in_err-write_each-clause-back
returns-in_err-write_each-clause-back g c =
    let h = on_error c.from_residual.result
    (rolled_back g.S.Store g.met.S.Store.stays g.met.S.Store.settled c.args.conn.now c.transaction-tx.result.conn.now c.write_each.new.tx.conn.now c.transaction-tx.ensures.begun c.write_each.ensures.survives
    c.drop-tx.new.self.0 c.drop-tx.ensures.survives c.drop-tx.ensures.undone) in
    search rules
