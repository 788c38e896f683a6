use Rattle.std.proofs.Common.{ap}
use Rattle.std.specs.List.{flat_map}
use Rattle.lrs_report_lists.proofs.Writing.{as_text}
use Rattle.lrs_difference.specs.Lines.{line_text}
use Rattle.lrs_difference.proofs.HeldByKey.{rows_between, rows_by_key}
use Rattle.lrs_difference.proofs.held_rows.write_rows.Goals as goal

pub write_between-requires-clause-by_key : goal.write_between-requires-clause-by_key
write_between-requires-clause-by_key g c = rows_by_key

pub returns : goal.returns
returns g c = as_text c.write_between.result _ _ _ _ c.write_between.ensures (ap (flat_map line_text) (rows_between c.args.left.now.rows c.args.right.now.rows))
