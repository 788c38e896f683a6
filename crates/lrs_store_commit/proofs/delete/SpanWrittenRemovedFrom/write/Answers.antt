use Rattle.sqlite.specs.Held.{state}
use Rattle.lrs_store_commit.proofs.Deleted.{span_taken}
use Rattle.lrs_store_commit.proofs.delete.SpanWrittenRemovedFrom.write.Goals as goal

pub returns : goal.returns
returns g c = record {
  same_reference = c.execute.ensures.same_reference;
  does = λ clean writing.
      span_taken c.args.of.now.route c.args.self.now (state g.S.Store c.args.tx.now.conn.now) (state g.S.Store c.execute.new.self.conn.now) c.in_ok-execute.field-0 writing
      (rw (c.in_ok-asset.ensures, c.bytes.ensures.text, c.in_ok-from.ensures) at (c.in_ok-execute.ensures.runs clean writing.begun));
  survives = c.execute.ensures.survives;
}
