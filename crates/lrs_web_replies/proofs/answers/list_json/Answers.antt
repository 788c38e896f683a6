use Rattle.lrs_web_replies.proofs.Whole.{list_whole}
use Rattle.lrs_web_replies.proofs.answers.list_json.Goals as goal

pub bytes_of-requires : goal.bytes_of-requires
bytes_of-requires g c = list_whole _ c.args.name.now g.T.Shown.shown c.args.list.now c.requires.whole c.in_ok-value.ensures
