use Rattle.std.specs.List.{flat_map}
use Rattle.lrs_web_replies.proofs.Paging.{Leads}
use Rattle.lrs_web_replies.specs.Listings.{rows_of}
use Rattle.lrs_web_replies.proofs.row_lists.add_each_row.Given as goal

abbrev pub invariant-loop-route_row : goal.invariant-loop-route_row
invariant-loop-route_row l = Leads l.fn.text l.text (flat_map (rows_of l.wanted l.assets.rows) l.route_row-iterator) (flat_map (rows_of l.wanted l.assets.rows) l.routes.rows)
