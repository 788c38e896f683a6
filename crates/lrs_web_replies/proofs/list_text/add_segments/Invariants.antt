use Rattle.std.proofs.Common.{Some, length}
use Rattle.lrs_report.proofs.Taking.{Leads}
use Rattle.lrs_web_replies.specs.Answers.{segment_data}
use Rattle.lrs_web_replies.specs.Parts.{item_text}
use Rattle.lrs_web_replies.proofs.list_text.add_segments.Given as goal

abbrev pub invariant-loop-segment : goal.invariant-loop-segment
invariant-loop-segment l = Leads (λ one. item_text (segment_data one)) (Some l.fn.bytes.items) (Some l.bytes.items) l.segments l.fn.segments

abbrev pub decreases-loop-segment : goal.decreases-loop-segment
decreases-loop-segment l = length l.segments
