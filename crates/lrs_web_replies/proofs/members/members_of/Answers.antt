use Rattle.std.proofs.lemmas.List.Sums.{fold_more}
use Rattle.serde_json.specs.Data.{no_members}
use Rattle.lrs_web_replies.specs.Members.{with_member}
use Rattle.lrs_web_replies.proofs.members.members_of.Goals as goal

pub loop-member-preserved : goal.loop-member-preserved
loop-member-preserved c =
    let more = fold_more with_member no_members c.args.members.now c.loop-member.member-index c.member-item.result c.loop-member-test.true in
    cc (more, c.member-item.is, c.loop-member.invariant, c.in_ok-put_member.ensures)
