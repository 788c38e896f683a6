use Rattle.std.proofs.Common.{sym, ◌∙◌}
use Rattle.lrs_report.proofs.Faults.{holders_are_one}
use Rattle.lrs_report.proofs.segmentation.sweep_segments.Goals as goal

pub segments_on-requires-clause-one : goal.segments_on-requires-clause-one
segments_on-requires-clause-one g c = holders_are_one (g.C.KnownRows.rows c.args.classes.now) c.args.spans.now c.args.wanted.now c.args.side c.requires.exclusive (sym c.fault_of.ensures ∙ c.in_default.is)
