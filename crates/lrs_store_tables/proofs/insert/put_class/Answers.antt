use Rattle.sqlite.specs.Held.{state}
use Rattle.lrs_store_tables.specs.Contents.Encoders.{class_row}
use Rattle.lrs_store_tables.proofs.Inserted.{class_added}
use Rattle.lrs_store_tables.proofs.insert.put_class.Goals as goal

pub returns : goal.returns
returns g c = record {
  same_reference = c.execute.ensures.same_reference;
  does = λ clean writing.
      class_added (class_row c.args.class.now) (state g.S.Store c.args.tx.now.conn.now) (state g.S.Store c.execute.new.self.conn.now) c.in_ok-execute.field-0 writing
      (rw (c.bytes.ensures.text, c.in_ok-kind.ensures, c.kind_number.ensures) at (c.in_ok-execute.ensures.runs clean writing.begun));
  survives = c.execute.ensures.survives;
}
