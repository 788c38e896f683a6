use Rattle.std.proofs.Common.{ap, ◌∙◌}
use Rattle.serde_json.specs.Written.{has_float}
use Rattle.lrs_web_replies.proofs.Whole.{gone_whole}
use Rattle.lrs_web_replies.proofs.ledgers.add_gone_of.Goals as goal

pub add_item-requires : goal.add_item-requires
add_item-requires c = ap has_float c.in_ok-value.ensures ∙ gone_whole _ _ c.args.gone.now
