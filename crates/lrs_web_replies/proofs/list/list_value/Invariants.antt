use Rattle.std.proofs.Common.{◌≡◌, map, take}
use Rattle.serde_json.specs.View.{view}
use Rattle.lrs_web_replies.proofs.list.list_value.Given as goal

-- the values are those of what was gone through
abbrev pub invariant-loop-one : goal.invariant-loop-one
invariant-loop-one g l = map view l.values.items ≡ map g.T.Shown.shown (take l.one-index l.list)
