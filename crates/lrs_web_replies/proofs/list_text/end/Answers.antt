use Rattle.lrs_web_replies.proofs.Listing.{ended}
use Rattle.lrs_web_replies.proofs.list_text.end.Goals as goal

pub returns : goal.returns
returns c = λ front items at is. ended front items c.close_list.new.bytes.items c.push.new.self.items (c.in_ok-close_list.ensures front items at is) c.in_ok-push.ensures.items
