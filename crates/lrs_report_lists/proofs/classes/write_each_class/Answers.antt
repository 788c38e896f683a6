use Rattle.std.proofs.Common.{ap}
use Rattle.std.specs.List.{flat_map}
use Rattle.lrs_report_lists.specs.Lines.{class_line}
use Rattle.lrs_report_lists.proofs.Writing.{leads_end, leads_next}
use Rattle.lrs_report_lists.proofs.classes.write_each_class.Goals as goal

pub loop-class-preserved : goal.loop-class-preserved
loop-class-preserved g c =
    leads_next (g.W.Write.contents c.args.writer.now) (g.W.Write.contents c.loop-class.writer) (g.W.Write.contents c.write_class.new.writer) _ (flat_map class_line c.next.new.self) (flat_map class_line c.loop-class.class-iterator)
    (flat_map class_line c.args.classes.now.rows) c.loop-class.invariant (ap (flat_map class_line) c.in-Some.ensures.steps) c.in_ok-write_class.ensures

pub returns : goal.returns
returns g c =
    leads_end (g.W.Write.contents c.args.writer.now) (g.W.Write.contents c.loop-class.writer) (flat_map class_line c.loop-class.class-iterator) (flat_map class_line c.args.classes.now.rows) c.loop-class.invariant (ap (flat_map class_line) c.in-None.ensures.steps.0)
