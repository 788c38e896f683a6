use Rattle.serde_json.specs.View.{view}
use Rattle.lrs_web_replies.proofs.PageKeys.{Decides}
use Rattle.lrs_web_replies.proofs.pages.is_behind.Given as goal

-- what is left of the key decides
abbrev pub invariant-loop-field : goal.invariant-loop-field
invariant-loop-field l = Decides (view l.entry) l.field-index l.key
