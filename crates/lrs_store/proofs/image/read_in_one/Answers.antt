use Rattle.std.proofs.Common.{rules}
use Rattle.sqlite.specs.Held.{state}
use Rattle.lrs_store_tables.specs.Contents.Tables.{AreSame}
use Rattle.lrs_store_tables.specs.Rows.{tables_of}
use Rattle.lrs_store_commit.proofs.UndoneLemmas.{rolled_back}
use Rattle.lrs_store.proofs.TableKeeper.ReadLemmas.{told_if, rests_if}
use Rattle.lrs_store.proofs.TableKeeper.FailedLemmas.{fails_alone}
use Rattle.lrs_store.proofs.image.read_in_one.Goals as goal

pub returns-clause-ready : goal.returns-clause-ready
returns-clause-ready g c =
    let h = rests_if g.S.Store c.args.conn.now c.transaction-tx.result.conn.now c.read_rows-rows.new.tx.conn.now (state g.S.Store c.rollback.new.self.0) (λ x t. AreSame t (tables_of x)) c.read_rows-rows.result
    c.transaction-tx.ensures.begun c.requires.ready c.read_rows-rows.ensures.survives c.read_rows-rows.ensures.read c.rollback.ensures.survives c.rollback.ensures.undone in
    search rules

pub returns-clause-rows : goal.returns-clause-rows
returns-clause-rows g c =
    let h = told_if g.S.Store g.met.S.Store.settled c.args.conn.now c.transaction-tx.result.conn.now c.read_rows-rows.new.tx.conn.now (state g.S.Store c.rollback.new.self.0) (λ x t. AreSame t (tables_of x)) c.read_rows-rows.result
    c.transaction-tx.ensures.begun c.requires.ready c.read_rows-rows.ensures.survives c.read_rows-rows.ensures.read c.rollback.ensures.survives in
    search rules

pub returns-clause-cause : goal.returns-clause-cause
returns-clause-cause g c =
    let h = fails_alone g.S.Store c.args.conn.now c.transaction-tx.result.conn.now c.read_rows-rows.new.tx.conn.now (state g.S.Store c.rollback.new.self.0) c.read_rows-rows.result
    c.transaction-tx.ensures.begun c.requires.ready c.read_rows-rows.ensures.survives c.read_rows-rows.ensures.cause c.rollback.ensures.survives in
    search rules

pub returns-clause-back : goal.returns-clause-back
returns-clause-back g c =
    let h = rolled_back g.S.Store g.met.S.Store.stays g.met.S.Store.settled c.args.conn.now c.transaction-tx.result.conn.now c.read_rows-rows.new.tx.conn.now c.transaction-tx.ensures.begun c.read_rows-rows.ensures.survives
    c.rollback.new.self.0 c.rollback.ensures.survives c.rollback.ensures.undone in
    search rules
