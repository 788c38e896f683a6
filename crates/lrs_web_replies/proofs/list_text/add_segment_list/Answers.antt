use Rattle.std.proofs.Common.{arith}
use Rattle.lrs_web_replies.specs.Answers.{segment_data}
use Rattle.lrs_web_replies.proofs.Listing.{added}
use Rattle.lrs_web_replies.proofs.list_text.add_segment_list.Goals as goal

pub returns : goal.returns
returns c =
    added c.close_list.result c.args.bytes.now.items c.add_segments.new.bytes.items c.close_list.new.bytes.items c.len-start.result segment_data c.args.segments c.close_list.ensures (omega arith) c.in_ok-add_segments.ensures
