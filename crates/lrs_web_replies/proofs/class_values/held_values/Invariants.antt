use Rattle.std.proofs.Common.{◌≡◌, map, take}
use Rattle.serde_json.specs.View.{view}
use Rattle.lrs_web_replies.specs.Overlay.{held_data}
use Rattle.lrs_web_replies.proofs.class_values.held_values.Given as goal

-- the values are those of what was gone through
abbrev pub invariant-loop-one : goal.invariant-loop-one
invariant-loop-one l = map view l.values.items ≡ map held_data (take l.one-index l.held)
