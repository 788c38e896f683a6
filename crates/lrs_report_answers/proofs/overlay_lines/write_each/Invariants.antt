use Rattle.std.proofs.Common.{length}
use Rattle.lrs_report.proofs.Taking.{Leads}
use Rattle.lrs_report_answers.specs.Overlay.{line_if_wanted}
use Rattle.lrs_report_answers.proofs.overlay_lines.write_each.Given as goal

abbrev pub invariant-loop-segment : goal.invariant-loop-segment
invariant-loop-segment g l = Leads (line_if_wanted l.wanted l.route l.side) (g.W.Write.contents l.fn.writer) (g.W.Write.contents l.writer) l.segments l.fn.segments

abbrev pub decreases-loop-segment : goal.decreases-loop-segment
decreases-loop-segment g l = length l.segments
