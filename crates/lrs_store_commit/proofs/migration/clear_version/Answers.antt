use Rattle.sqlite.specs.Held.{state}
use Rattle.lrs_store_commit.proofs.Clearing.{versions_cleared}
use Rattle.lrs_store_commit.proofs.migration.clear_version.Goals as goal

pub returns : goal.returns
returns g c = record {
  same_reference = c.execute.ensures.same_reference;
  does = λ clean writing.
      versions_cleared (state g.S.Store c.args.tx.now.conn.now) (state g.S.Store c.execute.new.self.conn.now) c.in_ok-execute.field-0 writing (c.in_ok-execute.ensures.runs clean writing.begun);
  survives = c.execute.ensures.survives;
}
