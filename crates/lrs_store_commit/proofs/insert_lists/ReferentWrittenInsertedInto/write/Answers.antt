use Rattle.sqlite.specs.Held.{state}
use Rattle.lrs_store_tables.specs.Contents.Encoders.{ref_row}
use Rattle.lrs_store_tables.proofs.Inserted.{ref_added}
use Rattle.lrs_store_commit.proofs.insert_lists.ReferentWrittenInsertedInto.write.Goals as goal

pub returns : goal.returns
returns g c = record {
  same_reference = c.execute.ensures.same_reference;
  does = λ clean writing.
      ref_added (ref_row c.args.of.now.route c.args.self.now) (state g.S.Store c.args.tx.now.conn.now) (state g.S.Store c.execute.new.self.conn.now) c.in_ok-execute.field-0 writing
      (rw (c.bytes.ensures.text, c.bytes-2.ensures.text, c.in_ok-at.ensures) at (c.in_ok-execute.ensures.runs clean writing.begun));
  survives = c.execute.ensures.survives;
}
