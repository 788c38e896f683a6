use Rattle.std.proofs.Common.{ap, sym, ◌∙◌}
use Rattle.std.specs.Option.{option_copied}
use Rattle.lrs_report.proofs.Taking.{leads_next, leads_end}
use Rattle.lrs_report_answers.specs.Overlay.{line_if_wanted}
use Rattle.lrs_report_answers.proofs.overlay_lines.write_each.Goals as goal

pub loop-segment-preserved : goal.loop-segment-preserved
loop-segment-preserved g c =
    leads_next (line_if_wanted c.args.wanted.now c.args.route.now c.args.side) (g.W.Write.contents c.args.writer.now) c.args.segments c.in-Some.segment.now c.loop-segment.segments c.pass.new.self (g.W.Write.contents c.loop-segment.writer) (g.W.Write.contents c.write_if_wanted.new.writer)
    c.loop-segment.invariant (sym c.first.ensures ∙ ap option_copied c.in-Some.is) c.pass.ensures c.in_ok-write_if_wanted.ensures

pub returns : goal.returns
returns g c =
    leads_end (line_if_wanted c.args.wanted.now c.args.route.now c.args.side) (g.W.Write.contents c.args.writer.now) c.args.segments c.loop-segment.segments (g.W.Write.contents c.loop-segment.writer) c.loop-segment.invariant (sym c.first.ensures ∙ ap option_copied c.in_default.is)
