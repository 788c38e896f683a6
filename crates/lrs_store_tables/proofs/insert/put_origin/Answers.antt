use Rattle.sqlite.specs.Held.{state}
use Rattle.lrs_store_tables.specs.Contents.Laws.{origin_row}
use Rattle.lrs_store_tables.proofs.Inserted.{origin_added}
use Rattle.lrs_store_tables.proofs.insert.put_origin.Goals as goal

pub returns : goal.returns
returns g c = record {
  same_reference = c.execute.ensures.same_reference;
  does = λ clean writing.
      origin_added (origin_row c.args.asset.now) (state g.S.Store c.args.tx.now.conn.now) (state g.S.Store c.execute.new.self.conn.now) c.in_ok-execute.field-0 writing
      (rw (c.in_ok-own.ensures, c.in_ok-edit.ensures) at (c.in_ok-execute.ensures.runs clean writing.begun));
  survives = c.execute.ensures.survives;
}
