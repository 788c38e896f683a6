use Rattle.std.proofs.Common.{ap}
use Rattle.std.specs.List.{flat_map}
use Rattle.lrs_report_lists.specs.Lines.{link_line}
use Rattle.lrs_report_lists.proofs.Writing.{leads_end, leads_next}
use Rattle.lrs_report_lists.proofs.links.write_each_link.Goals as goal

pub loop-link-preserved : goal.loop-link-preserved
loop-link-preserved g c =
    leads_next (g.W.Write.contents c.args.writer.now) (g.W.Write.contents c.loop-link.writer) (g.W.Write.contents c.write_link.new.writer) _ (flat_map link_line c.next.new.self) (flat_map link_line c.loop-link.link-iterator)
    (flat_map link_line c.args.links.now.rows) c.loop-link.invariant (ap (flat_map link_line) c.in-Some.ensures.steps) c.in_ok-write_link.ensures

pub returns : goal.returns
returns g c =
    leads_end (g.W.Write.contents c.args.writer.now) (g.W.Write.contents c.loop-link.writer) (flat_map link_line c.loop-link.link-iterator) (flat_map link_line c.args.links.now.rows) c.loop-link.invariant (ap (flat_map link_line) c.in-None.ensures.steps.0)
