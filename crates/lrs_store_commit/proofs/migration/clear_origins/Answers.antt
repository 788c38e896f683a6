use Rattle.sqlite.specs.Held.{state}
use Rattle.lrs_store_commit.proofs.Clearing.{origins_cleared}
use Rattle.lrs_store_commit.proofs.migration.clear_origins.Goals as goal

pub returns-clause-changes : goal.returns-clause-changes
returns-clause-changes g c = record {
  same_reference = c.execute.ensures.same_reference;
  does = λ clean writing.
      origins_cleared (state g.S.Store c.args.tx.now.conn.now) (state g.S.Store c.execute.new.self.conn.now) c.in_ok-execute.field-0 writing (c.in_ok-execute.ensures.runs clean writing.begun);
  survives = c.execute.ensures.survives;
}

pub returns-clause-is_open : goal.returns-clause-is_open
returns-clause-is_open g c clean writing = (c.in_ok-execute.ensures.runs clean writing.begun).1.was_open
