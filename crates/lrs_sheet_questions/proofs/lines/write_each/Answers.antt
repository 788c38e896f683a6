use Rattle.std.proofs.Common.{ap, sym, ◌∙◌}
use Rattle.std.specs.Option.{option_copied}
use Rattle.lrs_report.proofs.Taking.{leads_next, leads_end}
use Rattle.lrs_sheet_questions.specs.Lines.{segment_line}
use Rattle.lrs_sheet_questions.proofs.lines.write_each.Goals as goal

pub loop-segment-preserved : goal.loop-segment-preserved
loop-segment-preserved g c =
    leads_next (segment_line c.args.key) (g.W.Write.contents c.args.writer.now) c.args.segments c.in-Some.segment.now c.loop-segment.segments c.pass.new.self (g.W.Write.contents c.loop-segment.writer) (g.W.Write.contents c.write_segment.new.writer) c.loop-segment.invariant
    (sym c.first.ensures ∙ ap option_copied c.in-Some.is) c.pass.ensures c.in_ok-write_segment.ensures

pub returns : goal.returns
returns g c =
    leads_end (segment_line c.args.key) (g.W.Write.contents c.args.writer.now) c.args.segments c.loop-segment.segments (g.W.Write.contents c.loop-segment.writer) c.loop-segment.invariant (sym c.first.ensures ∙ ap option_copied c.in_default.is)
