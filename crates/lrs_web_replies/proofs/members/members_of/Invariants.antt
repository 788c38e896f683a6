use Rattle.std.proofs.Common.{◌≡◌, take, fold}
use Rattle.serde_json.specs.Data.{no_members}
use Rattle.serde_json.specs.View.{members_view}
use Rattle.lrs_web_replies.specs.Members.{with_member}
use Rattle.lrs_web_replies.proofs.members.members_of.Given as goal

-- the map has the members that were gone through
abbrev pub invariant-loop-member : goal.invariant-loop-member
invariant-loop-member l = members_view l.map.entries ≡ fold with_member no_members (take l.member-index l.members)
