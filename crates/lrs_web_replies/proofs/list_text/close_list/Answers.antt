use Rattle.lrs_web_replies.proofs.Listing.{closed}
use Rattle.lrs_web_replies.proofs.list_text.close_list.Goals as goal

pub returns : goal.returns
returns c = λ front items at is. closed front items c.open_list.new.bytes.items c.push.new.self.items (c.in_ok-open_list.ensures front items at is) c.in_ok-push.ensures.items
