use Rattle.std.proofs.Common.{ap, ◌∙◌}
use Rattle.serde_json.specs.Written.{has_float}
use Rattle.lrs_web_replies.proofs.Whole.{combination_whole}
use Rattle.lrs_web_replies.proofs.combinations.add_combination.Goals as goal

pub add_item-requires : goal.add_item-requires
add_item-requires c = ap has_float c.in_ok-value.ensures ∙ combination_whole c.args.combination.now
