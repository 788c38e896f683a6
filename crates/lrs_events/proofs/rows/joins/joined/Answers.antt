use Rattle.std.proofs.Common.{subst, sym}
use Rattle.lrs_measure.specs.Lists.{In}
use Rattle.lrs_measure.proofs.Places.{member_at}
use Rattle.lrs_events.proofs.Row.Seams.{two_from, moved_free, joined_more, IsJoined, joined_whole}
use Rattle.lrs_events.proofs.rows.joins.joined.Goals as goal

pub push_seam-requires-clause-free : goal.push_seam-requires-clause-free
push_seam-requires-clause-free c =
    let t = two_from c.args.shift c.args.first.now c.args.second.now c.requires.first_rows c.requires.second_rows c.requires.ends c.requires.room c.requires.one_class in
    moved_free c.args.shift c.args.first.now c.args.second.now c.row-item.result t (subst (λ z. In z c.args.second.now) (sym c.row-item.is) (member_at c.args.second.now c.loop-row.row-index c.row-item.result c.loop-row-test.true))

pub loop-row-preserved : goal.loop-row-preserved
loop-row-preserved c =
    let t = two_from c.args.shift c.args.first.now c.args.second.now c.requires.first_rows c.requires.second_rows c.requires.ends c.requires.room c.requires.one_class in
    joined_more c.args.shift c.args.first.now c.args.second.now c.loop-row.row-index c.row-item.result c.loop-row.change.gone.items c.loop-row.change.come.items c.push_seam.new.change.gone.items c.push_seam.new.change.come.items
    t c.loop-row-test.true c.row-item.is c.loop-row.invariant c.in_ok-push_seam.ensures

done : (c : goal.After-loop-row) → IsJoined c.args.shift c.args.first.now c.args.second.now c.loop-row.change.gone.items c.loop-row.change.come.items
done c =
    let t = two_from c.args.shift c.args.first.now c.args.second.now c.requires.first_rows c.requires.second_rows c.requires.ends c.requires.room c.requires.one_class in
    joined_whole c.args.shift c.args.first.now c.args.second.now c.loop-row.row-index c.loop-row.change.gone.items c.loop-row.change.come.items t c.loop-row-test.false c.loop-row.invariant

pub returns-clause-kept : goal.returns-clause-kept
returns-clause-kept c = (done c).kept

pub returns-clause-change : goal.returns-clause-change
returns-clause-change c = (done c).change

pub returns-clause-joined : goal.returns-clause-joined
returns-clause-joined c = (done c).joined

pub returns-clause-in_order : goal.returns-clause-in_order
returns-clause-in_order c = (done c).in_order
