use Rattle.std.specs.List.{flat_map}
use Rattle.lrs_report_answers.proofs.SideBySide.{AreAmong}
use Rattle.lrs_web_replies.proofs.Paging.{Leads}
use Rattle.lrs_web_replies.specs.Overlay.{overlay_items}
use Rattle.lrs_web_replies.proofs.overlay.add_each_route.Given as goal

abbrev pub invariant-loop-route_row : goal.invariant-loop-route_row
invariant-loop-route_row l =
    AreAmong l.route_row-iterator l.inventory.routes
    × Leads l.fn.text l.text (flat_map (overlay_items l.inventory l.wanted) l.route_row-iterator) (flat_map (overlay_items l.inventory l.wanted) l.inventory.routes)
