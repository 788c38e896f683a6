use Rattle.std.proofs.Common.{Ok, subst}
use Rattle.sqlite_value.specs.Order.{Row}
use Rattle.sqlite.specs.State.{ExecutesInside}
use Rattle.sqlite.specs.Held.{state}
use Rattle.lrs_store_tables.specs.Contents.Encoders.{span_row}
use Rattle.lrs_store_tables.specs.Schema.{insert_span}
use Rattle.lrs_store_tables.proofs.Inserted.{span_added}
use Rattle.lrs_store_commit.proofs.insert_lists.SpanWrittenInsertedInto.write.Goals as goal

pub returns : goal.returns
returns g c = record {
  same_reference = c.execute.ensures.same_reference;
  does = λ clean writing.
      let old = state g.S.Store c.args.tx.now.conn.now in
      let new = state g.S.Store c.execute.new.self.conn.now in
      span_added (span_row c.args.of.now.route c.args.self.now) old new c.in_ok-execute.field-0 writing
      (subst (λ (params : Row). ExecutesInside 0 insert_span params old new (Ok c.in_ok-execute.field-0)) c.in_ok-fill_span.ensures.filled (c.in_ok-execute.ensures.runs clean writing.begun));
  survives = c.execute.ensures.survives;
}
