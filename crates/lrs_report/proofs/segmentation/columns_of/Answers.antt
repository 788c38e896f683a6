use Rattle.std.proofs.Common.{arith}
use Rattle.std.proofs.lemmas.Grind.{common_steps}
use Rattle.lrs_machine.specs.Segments.{value_of}
use Rattle.lrs_report.specs.SideValues.{is_holder, HasOneHolder}
use Rattle.lrs_report.specs.Columns.{IsColumn, value_at}
use Rattle.lrs_report.proofs.Passing.{next_all, next_left, next_read}
use Rattle.lrs_report.proofs.segmentation.columns_of.Goals as goal

pub loop-class-preserved : goal.loop-class-preserved
loop-class-preserved g c =
    let at = c.loop-class.class-index in
    let wanted = c.args.wanted.now in
    let old = c.loop-class.columns.items in
    let new = c.push.new.self.items in
    let column = c.column_of.result in
    record {
      columns = next_all (IsColumn 0 c.args.len) old new column c.loop-class.invariant.columns c.column_of.ensures.column c.in_ok-push.ensures.items;
      values = λ j h. next_read (value_of (g.A.KnownRows.rows c.args.assets.now) (is_holder c.args.spans.now c.args.side j)) (λ (column : _). value_at column j) at wanted old new c.class-item.result column c.loop-class-test.true
          (c.loop-class.invariant.values j h) c.class-item.is (c.column_of.ensures.values j h) c.in_ok-push.ensures.items;
      left = next_left (HasOneHolder c.args.spans.now) at wanted c.loop-class.invariant.left;
    }

pub returns-clause-columns : goal.returns-clause-columns
returns-clause-columns g c = grind (arith, common_steps)

pub returns-clause-values : goal.returns-clause-values
returns-clause-values g c = grind (arith, common_steps)
