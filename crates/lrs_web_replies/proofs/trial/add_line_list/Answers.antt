use Rattle.std.proofs.Common.{arith}
use Rattle.std.specs.Str.Lines.{lines}
use Rattle.serde_json.specs.Data.{string}
use Rattle.lrs_web_replies.proofs.Listing.{added}
use Rattle.lrs_web_replies.proofs.trial.add_line_list.Goals as goal

pub returns : goal.returns
returns c =
    added c.close_list.result c.args.bytes.now.items c.add_lines.new.bytes.items c.close_list.new.bytes.items c.len-start.result string (lines c.args.text.now) c.close_list.ensures (omega arith) c.in_ok-add_lines.ensures
