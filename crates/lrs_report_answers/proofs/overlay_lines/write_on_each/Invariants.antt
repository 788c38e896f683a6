use Rattle.std.specs.List.{flat_map}
use Rattle.lrs_report_lists.proofs.Writing.{Leads}
use Rattle.lrs_report_answers.specs.Overlay.{overlay_of}
use Rattle.lrs_report_answers.proofs.SideBySide.{AreAmong}
use Rattle.lrs_report_answers.proofs.overlay_lines.write_on_each.Given as goal

abbrev pub invariant-loop-route_row : goal.invariant-loop-route_row
invariant-loop-route_row g l =
    AreAmong l.route_row-iterator l.inventory.routes
    × Leads (g.W.Write.contents l.fn.writer) (g.W.Write.contents l.writer) (flat_map (overlay_of l.inventory l.wanted) l.route_row-iterator) (flat_map (overlay_of l.inventory l.wanted) l.inventory.routes)
