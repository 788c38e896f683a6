use Rattle.std.proofs.Common.{ap, ◌∙◌}
use Rattle.serde_json.specs.Written.{has_float}
use Rattle.lrs_report.specs.Sweep.{run_of}
use Rattle.lrs_web_replies.proofs.Whole.{overlay_whole}
use Rattle.lrs_web_replies.proofs.overlay.add_segment.Goals as goal

pub add-requires : goal.add-requires
add-requires c = ap has_float c.in_ok-value.ensures ∙ overlay_whole c.args.route.now c.args.side (run_of c.args.segment.now)
