use Rattle.sqlite.specs.Held.{state}
use Rattle.lrs_store_tables.specs.Contents.Encoders.{edit_row}
use Rattle.lrs_store_tables.proofs.Inserted.{edit_added}
use Rattle.lrs_store_tables.proofs.insert.put_edit.Goals as goal

pub returns-clause-changes : goal.returns-clause-changes
returns-clause-changes g c = record {
  same_reference = c.execute.ensures.same_reference;
  does = λ clean writing.
      edit_added (edit_row c.args.n c.args.edit.now) (state g.S.Store c.args.tx.now.conn.now) (state g.S.Store c.execute.new.self.conn.now) c.in_ok-execute.field-0 writing
      (rw (c.in_ok-own.ensures, c.bytes.ensures.text, c.as_bytes.ensures.value, c.as_str.ensures) at (c.in_ok-execute.ensures.runs clean writing.begun));
  survives = c.execute.ensures.survives;
}

pub returns-clause-is_open : goal.returns-clause-is_open
returns-clause-is_open g c clean writing = (c.in_ok-execute.ensures.runs clean writing.begun).1.was_open
