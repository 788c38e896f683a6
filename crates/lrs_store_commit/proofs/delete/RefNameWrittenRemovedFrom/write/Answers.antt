use Rattle.sqlite.specs.Held.{state}
use Rattle.lrs_store_commit.proofs.Deleted.{ref_taken}
use Rattle.lrs_store_commit.proofs.delete.RefNameWrittenRemovedFrom.write.Goals as goal

pub returns : goal.returns
returns g c = record {
  same_reference = c.execute.ensures.same_reference;
  does = λ clean writing.
      ref_taken c.args.self.now (state g.S.Store c.args.tx.now.conn.now) (state g.S.Store c.execute.new.self.conn.now) c.in_ok-execute.field-0 writing
      (rw (c.bytes.ensures.text) at (c.in_ok-execute.ensures.runs clean writing.begun));
  survives = c.execute.ensures.survives;
}
