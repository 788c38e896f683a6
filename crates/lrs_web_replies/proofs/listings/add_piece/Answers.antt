use Rattle.std.proofs.Common.{ap}
use Rattle.serde_json.specs.Written.{has_float}
use Rattle.lrs_web_replies.proofs.listings.add_piece.Goals as goal

pub add-requires : goal.add-requires
add-requires c = ap has_float c.in_ok-value.ensures
