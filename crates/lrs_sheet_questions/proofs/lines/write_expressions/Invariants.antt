use Rattle.std.proofs.Common.{take}
use Rattle.std.specs.List.{flat_map}
use Rattle.std.specs.Io.KnownBytes.{Appends}
use Rattle.lrs_sheet_questions.specs.Lines.{expression_line}
use Rattle.lrs_sheet_questions.proofs.lines.write_expressions.Given as goal

abbrev pub invariant-loop-expression : goal.invariant-loop-expression
invariant-loop-expression g l = Appends (g.W.Write.contents l.fn.writer) (g.W.Write.contents l.writer) (flat_map (expression_line l.fn.key l.route) (take l.expression-index l.expressions))
