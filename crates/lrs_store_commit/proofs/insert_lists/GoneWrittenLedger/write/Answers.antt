use Rattle.std.proofs.Common.{Ok, subst}
use Rattle.sqlite_value.specs.Order.{Row}
use Rattle.sqlite.specs.State.{ExecutesInside}
use Rattle.sqlite.specs.Held.{state}
use Rattle.lrs_store_tables.specs.Contents.Encoders.{gone_row}
use Rattle.lrs_store_tables.specs.Schema.{insert_gone}
use Rattle.lrs_store_tables.proofs.Inserted.{gone_added}
use Rattle.lrs_store_commit.proofs.insert_lists.GoneWrittenLedger.write.Goals as goal

pub returns : goal.returns
returns g c = record {
  same_reference = c.execute.ensures.same_reference;
  does = λ clean writing.
      let old = state g.S.Store c.args.tx.now.conn.now in
      let new = state g.S.Store c.execute.new.self.conn.now in
      gone_added (gone_row c.args.self.now) old new c.in_ok-execute.field-0 writing
      (subst (λ (params : Row). ExecutesInside 0 insert_gone params old new (Ok c.in_ok-execute.field-0)) c.in_ok-fill_gone.ensures.filled (c.in_ok-execute.ensures.runs clean writing.begun));
  survives = c.execute.ensures.survives;
}
