use Rattle.std.proofs.Common.{length}
use Rattle.std.specs.List.{flat_map}
use Rattle.lrs_report_lists.proofs.Writing.{Leads}
use Rattle.lrs_difference.specs.declared.line.Sign.TheVariants.{Added}
use Rattle.lrs_difference.specs.Lines.{line_text}
use Rattle.lrs_difference.proofs.merge.write_added.Given as goal

abbrev pub invariant-loop-first : goal.invariant-loop-first
invariant-loop-first g l =
    Leads (g.W.Write.contents l.fn.writer) (g.W.Write.contents l.writer) (flat_map (λ y. line_text (record { sign = Added; item = g.T.Entry.item y })) l.rest)
    (flat_map (λ y. line_text (record { sign = Added; item = g.T.Entry.item y })) l.fn.rest)

abbrev pub decreases-loop-first : goal.decreases-loop-first
decreases-loop-first g l = length l.rest
