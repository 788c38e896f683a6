use Rattle.std.specs.List.{flat_map}
use Rattle.lrs_report_lists.specs.Lines.{class_line}
use Rattle.lrs_report_lists.proofs.Writing.{Leads}
use Rattle.lrs_report_lists.proofs.classes.write_each_class.Given as goal

abbrev pub invariant-loop-class : goal.invariant-loop-class
invariant-loop-class g l = Leads (g.W.Write.contents l.fn.writer) (g.W.Write.contents l.writer) (flat_map class_line l.class-iterator) (flat_map class_line l.classes.rows)
