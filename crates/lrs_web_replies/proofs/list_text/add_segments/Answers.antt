use Rattle.std.proofs.Common.{Some, ap, sym, ◌∙◌}
use Rattle.std.specs.Option.{option_copied}
use Rattle.lrs_report.proofs.Taking.{leads_next, leads_end}
use Rattle.lrs_web_replies.specs.Answers.{segment_data}
use Rattle.lrs_web_replies.specs.Parts.{item_text}
use Rattle.lrs_web_replies.proofs.Whole.{segment_whole}
use Rattle.lrs_web_replies.proofs.list_text.add_segments.Goals as goal

pub add_one-requires : goal.add_one-requires
add_one-requires c = record { whole = segment_whole c.in-Some.segment.now }

pub loop-segment-preserved : goal.loop-segment-preserved
loop-segment-preserved c =
    leads_next (λ one. item_text (segment_data one)) (Some c.args.bytes.now.items) c.args.segments c.in-Some.segment.now c.loop-segment.segments c.pass.new.self (Some c.loop-segment.bytes.items) (Some c.add_one.new.bytes.items) c.loop-segment.invariant
    (sym c.first.ensures ∙ ap option_copied c.in-Some.is) c.pass.ensures c.in_ok-add_one.ensures

pub returns : goal.returns
returns c =
    leads_end (λ one. item_text (segment_data one)) (Some c.args.bytes.now.items) c.args.segments c.loop-segment.segments (Some c.loop-segment.bytes.items) c.loop-segment.invariant (sym c.first.ensures ∙ ap option_copied c.in_default.is)
