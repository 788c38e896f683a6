use Rattle.std.proofs.Common.{ap, ◌++◌, List}
use Rattle.std.specs.List.{flat_map}
use Rattle.lrs_position.specs.declared.expression.Expr.{Expr}
use Rattle.lrs_report.proofs.Writing.{appends_last}
use Rattle.lrs_cli_tasks.specs.Lines.{at_text, position_line, whereabouts_text}
use Rattle.lrs_cli_tasks.proofs.lines.write_whereabouts.Goals as goal

pub returns : goal.returns
returns g c =
    let w = c.args.found.now in
    appends_last c.write_positions.result (g.W.Write.contents c.args.writer.now) (g.W.Write.contents c.write_at.new.writer) (g.W.Write.contents c.write_positions.new.writer) (at_text w.route w.found) (flat_map position_line c.as_slice.result.now)
    (whereabouts_text w) c.in_ok-write_at.ensures c.write_positions.ensures (ap (λ (positions : List Expr). at_text w.route w.found ++ flat_map position_line positions) c.as_slice.ensures)
