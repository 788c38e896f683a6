use Rattle.std.proofs.Common.{ap, ◌∙◌}
use Rattle.serde_json.specs.Written.{has_float}
use Rattle.lrs_web_replies.proofs.Whole.{link_row_whole}
use Rattle.lrs_web_replies.proofs.row_lists.add_stretch.Goals as goal

pub add-requires : goal.add-requires
add-requires c = ap has_float c.in_ok-value.ensures ∙ link_row_whole _ c.args.route.now c.args.row.now c.args.stretch
