use Rattle.std.specs.List.{flat_map}
use Rattle.lrs_report_lists.specs.Lines.{link_line}
use Rattle.lrs_report_lists.proofs.Writing.{Leads}
use Rattle.lrs_report_lists.proofs.links.write_each_link.Given as goal

abbrev pub invariant-loop-link : goal.invariant-loop-link
invariant-loop-link g l = Leads (g.W.Write.contents l.fn.writer) (g.W.Write.contents l.writer) (flat_map link_line l.link-iterator) (flat_map link_line l.links.rows)
