use Rattle.std.specs.List.{flat_map}
use Rattle.lrs_report_lists.specs.Lists.{rows_of}
use Rattle.lrs_report_lists.proofs.Writing.{Leads}
use Rattle.lrs_report_lists.proofs.row_list.write_each_row.Given as goal

abbrev pub invariant-loop-route_row : goal.invariant-loop-route_row
invariant-loop-route_row g l = Leads (g.W.Write.contents l.fn.writer) (g.W.Write.contents l.writer) (flat_map (rows_of l.wanted l.assets.rows) l.route_row-iterator) (flat_map (rows_of l.wanted l.assets.rows) l.routes.rows)
