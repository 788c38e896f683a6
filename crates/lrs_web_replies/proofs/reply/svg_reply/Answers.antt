use Rattle.lrs_web_replies.proofs.reply.svg_reply.Goals as goal

pub returns : goal.returns
returns c = c.reply_with.ensures
