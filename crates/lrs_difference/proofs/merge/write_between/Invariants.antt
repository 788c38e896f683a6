use Rattle.std.proofs.Common.{◌≡◌, true}
use Rattle.std.specs.List.{flat_map}
use Rattle.lrs_measure.specs.Lists.{each_two}
use Rattle.lrs_report_lists.proofs.Writing.{Leads}
use Rattle.lrs_difference.specs.Merging.{lines_between}
use Rattle.lrs_difference.specs.Lines.{line_text}
use Rattle.lrs_difference.proofs.merge.write_between.Given as goal

abbrev pub invariant-loop-entry : goal.invariant-loop-entry
invariant-loop-entry g l = record {
  written : Leads (g.W.Write.contents l.fn.writer) (g.W.Write.contents l.writer) (flat_map line_text (lines_between g.T.Entry.same g.T.Entry.item l.entry-iterator l.rest))
      (flat_map line_text (lines_between g.T.Entry.same g.T.Entry.item l.left.rows l.right.rows));
  left : each_two g.T.Ordered.before l.entry-iterator ≡ true;
  right : each_two g.T.Ordered.before l.rest ≡ true;
}
