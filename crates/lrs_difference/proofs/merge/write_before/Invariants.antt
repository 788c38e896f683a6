use Rattle.std.proofs.Common.{◌≡◌, length}
use Rattle.std.specs.List.{flat_map}
use Rattle.lrs_report_lists.proofs.Writing.{Leads}
use Rattle.lrs_difference.specs.declared.line.Sign.TheVariants.{Added}
use Rattle.lrs_difference.specs.Lines.{line_text}
use Rattle.lrs_difference.proofs.Steps.{behind, front}
use Rattle.lrs_difference.proofs.merge.write_before.Given as goal

abbrev pub invariant-loop-first : goal.invariant-loop-first
invariant-loop-first g l = record {
  written : Leads (g.W.Write.contents l.fn.writer) (g.W.Write.contents l.writer)
      (flat_map (λ y. line_text (record { sign = Added; item = g.T.Entry.item y })) (front (λ y. g.T.Ordered.before y l.entry) l.rest))
      (flat_map (λ y. line_text (record { sign = Added; item = g.T.Entry.item y })) (front (λ y. g.T.Ordered.before y l.entry) l.fn.rest));
  rest : behind (λ y. g.T.Ordered.before y l.entry) l.rest ≡ behind (λ y. g.T.Ordered.before y l.entry) l.fn.rest;
}

abbrev pub decreases-loop-first : goal.decreases-loop-first
decreases-loop-first g l = length l.rest
