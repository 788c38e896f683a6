use Rattle.std.specs.List.{flat_map}
use Rattle.lrs_web_replies.proofs.Paging.{Leads}
use Rattle.lrs_web_replies.proofs.listings.add_all.Given as goal

abbrev pub invariant-loop-route_row : goal.invariant-loop-route_row
invariant-loop-route_row g l =
    let items = flat_map (λ e. g.T.Listed.items e.route) in
    Leads l.fn.text l.text (items l.route_row-iterator) (items l.routes.rows)
