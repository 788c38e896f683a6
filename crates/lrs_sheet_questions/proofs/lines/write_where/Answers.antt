use Rattle.std.proofs.Common.{◌∷◌, [], ◌++◌, ℕ, List}
use Rattle.std.specs.Fmt.{decimal}
use Rattle.std.specs.List.{flat_map}
use Rattle.std.specs.Prelude.{codes}
use Rattle.lrs_position.specs.declared.expression.Expr.{Expr}
use Rattle.lrs_report.proofs.Writing.{appends_last, appends_more}
use Rattle.lrs_sheet_questions.specs.Lines.{at_lines, expression_line, fields_line, where_lines}
use Rattle.lrs_sheet_questions.proofs.lines.write_where.Goals as goal

pub returns : goal.returns
returns g c =
    let w = c.args.found.now in
    let key = c.args.key in
    let start = g.W.Write.contents c.args.writer.now in
    let first = g.W.Write.contents c.write_at.new.writer in
    let second = g.W.Write.contents c.write_position_count.new.writer in
    let head = at_lines key w.route w.found in
    let count : ℕ → List ℕ = λ n. fields_line (key ∷ codes "positions" ∷ decimal n ∷ []) in
    let lines : List Expr → List ℕ = λ es. flat_map (expression_line key w.route) es in
    let two = appends_more start first second head (count c.len.result) c.in_ok-write_at.ensures c.in_ok-write_position_count.ensures in
    appends_last c.write_expressions.result start second (g.W.Write.contents c.write_expressions.new.writer) (head ++ count c.len.result) (lines c.as_slice.result.now) (where_lines key w) two c.write_expressions.ensures
    (λ i. head ++ count (c.len.ensures i) ++ lines (c.as_slice.ensures i))
