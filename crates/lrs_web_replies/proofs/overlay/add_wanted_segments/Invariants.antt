use Rattle.std.proofs.Common.{length}
use Rattle.std.specs.List.{flat_map}
use Rattle.lrs_web_replies.proofs.Paging.{Leads}
use Rattle.lrs_web_replies.specs.Overlay.{segment_items}
use Rattle.lrs_web_replies.proofs.overlay.add_wanted_segments.Given as goal

abbrev pub invariant-loop-segment : goal.invariant-loop-segment
invariant-loop-segment l = Leads l.fn.text l.text (flat_map (segment_items l.wanted l.route l.side) l.segments) (flat_map (segment_items l.wanted l.route l.side) l.fn.segments)

abbrev pub decreases-loop-segment : goal.decreases-loop-segment
decreases-loop-segment l = length l.segments
