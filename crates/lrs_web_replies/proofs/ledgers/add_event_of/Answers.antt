use Rattle.std.proofs.Common.{ap, ◌∙◌}
use Rattle.serde_json.specs.Written.{has_float}
use Rattle.lrs_web_replies.proofs.Whole.{event_whole}
use Rattle.lrs_web_replies.proofs.ledgers.add_event_of.Goals as goal

pub add_item-requires : goal.add_item-requires
add_item-requires c = ap has_float c.in_ok-value.ensures ∙ event_whole _ c.args.event.now c.args.part.now
