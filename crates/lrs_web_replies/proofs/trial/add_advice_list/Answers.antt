use Rattle.std.proofs.Common.{arith}
use Rattle.lrs_web_replies.specs.Trials.{advice_data}
use Rattle.lrs_web_replies.proofs.Listing.{added}
use Rattle.lrs_web_replies.proofs.trial.add_advice_list.Goals as goal

pub returns : goal.returns
returns c =
    added c.close_list.result c.args.bytes.now.items c.add_each_advice.new.bytes.items c.close_list.new.bytes.items c.len-start.result advice_data c.args.advice.now c.close_list.ensures (omega arith) c.in_ok-add_each_advice.ensures
