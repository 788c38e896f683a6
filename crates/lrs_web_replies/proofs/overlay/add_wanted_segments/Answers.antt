use Rattle.std.proofs.Common.{ap, sym, ◌∙◌}
use Rattle.std.specs.Option.{option_copied}
use Rattle.lrs_web_replies.proofs.Paging.{passes_end, passes_next}
use Rattle.lrs_web_replies.specs.Overlay.{segment_items}
use Rattle.lrs_web_replies.proofs.overlay.add_wanted_segments.Goals as goal

pub loop-segment-preserved : goal.loop-segment-preserved
loop-segment-preserved c =
    passes_next (segment_items c.args.wanted.now c.args.route.now c.args.side) c.args.text.now c.loop-segment.text c.add_wanted_segment.new.text c.in-Some.segment.now c.loop-segment.segments c.pass.new.self c.args.segments
    c.loop-segment.invariant (sym c.first.ensures ∙ ap option_copied c.in-Some.is) c.pass.ensures c.in_ok-add_wanted_segment.ensures

pub returns : goal.returns
returns c =
    passes_end (segment_items c.args.wanted.now c.args.route.now c.args.side) c.args.text.now c.loop-segment.text c.loop-segment.segments c.args.segments c.loop-segment.invariant (sym c.first.ensures ∙ ap option_copied c.in_default.is)
