use Rattle.std.proofs.Common.{Ok, subst}
use Rattle.sqlite_value.specs.Order.{Row}
use Rattle.sqlite.specs.State.{ExecutesInside}
use Rattle.sqlite.specs.Held.{state}
use Rattle.lrs_store_tables.specs.Contents.Encoders.{mark_row}
use Rattle.lrs_store_tables.specs.Schema.{insert_mark}
use Rattle.lrs_store_tables.proofs.Inserted.{mark_added}
use Rattle.lrs_store_commit.proofs.CellLemmas.{behind_text}
use Rattle.lrs_store_commit.proofs.insert_lists.MarkWrittenInsertedInto.write.Goals as goal

pub returns : goal.returns
returns g c = record {
  same_reference = c.execute.ensures.same_reference;
  does = λ clean writing.
      let old = state g.S.Store c.args.tx.now.conn.now in
      let new = state g.S.Store c.execute.new.self.conn.now in
      let x = c.args.self.now in
      let given = behind_text _ _ c.fill_numbers.new.cells _ c.bytes.ensures.text (c.in_ok-fill_numbers.ensures.filled) in
      mark_added (mark_row c.args.of.now.route c.args.n x) old new c.in_ok-execute.field-0 writing
      (subst (λ (params : Row). ExecutesInside 0 insert_mark params old new (Ok c.in_ok-execute.field-0)) given (c.in_ok-execute.ensures.runs clean writing.begun));
  survives = c.execute.ensures.survives;
}
