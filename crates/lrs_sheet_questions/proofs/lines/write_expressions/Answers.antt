use Rattle.lrs_report.proofs.Drawings.Appending.{appends_next}
use Rattle.lrs_sheet_questions.specs.Lines.{expression_line}
use Rattle.lrs_sheet_questions.proofs.lines.write_expressions.Goals as goal

pub loop-expression-preserved : goal.loop-expression-preserved
loop-expression-preserved g c =
    appends_next (expression_line c.args.key c.args.route.now) c.loop-expression.expression-index c.args.expressions.now c.expression-item.result _ _ _ c.loop-expression-test.true c.expression-item.is c.loop-expression.invariant c.in_ok-write_expression.ensures
