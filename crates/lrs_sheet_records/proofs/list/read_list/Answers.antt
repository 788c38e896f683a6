use Rattle.std.proofs.Common.{rules}
use Rattle.lrs_sheet_records.proofs.Wording.{all-taken, few-taken, first-word, more-taken, nothing-said, start-taken, too-many}
use Rattle.lrs_sheet_records.proofs.list.read_list.Goals as goal

pub loop-turn-init : goal.loop-turn-init
loop-turn-init g c = start-taken g.T.Word.says c.args.text.now _ (search rules)

pub returns-in_default-clause-none : goal.returns-in_default-clause-none
returns-in_default-clause-none g c xs said few =
    let (more, cut) = first-word (λ rest. rest.now) c.cut_at.result.1 _ c.cut_at.result.0.now c.cut_at.ensures.last c.cut_at.ensures.more in
    nothing-said g.T.Word.says c.args.text.now c.loop-turn.rest.now c.cut_at.result.0.now more c.loop-turn.list.items xs c.loop-turn._turn c.loop-turn.invariant cut c.in_default.ensures.none said

pub returns-in-None-clause-some : goal.returns-in-None-clause-some
returns-in-None-clause-some g c =
    all-taken g.T.Word.says c.args.text.now c.loop-turn.rest.now c.cut_at.result.0.now c.loop-turn.list.items c.push.new.self.items c.in-Some.item c.loop-turn._turn c.loop-turn.invariant c.in_ok-push.ensures.items (rw c.in-None.is at c.cut_at.ensures.last) c.in-Some.ensures.some

pub returns-in-None-clause-few : goal.returns-in-None-clause-few
returns-in-None-clause-few g c =
    few-taken g.T.Word.says c.args.text.now c.loop-turn.rest.now c.loop-turn.list.items c.push.new.self.items c.in-Some.item c.loop-turn._turn c.loop-turn.invariant c.in_ok-push.ensures.items (search rules)

pub loop-turn-preserved : goal.loop-turn-preserved
loop-turn-preserved g c =
    more-taken g.T.Word.says c.args.text.now c.loop-turn.rest.now c.in-Some-behind.text.now c.cut_at.result.0.now c.loop-turn.list.items c.push.new.self.items c.in-Some.item c.loop-turn._turn c.loop-turn.invariant c.in_ok-push.ensures.items (rw c.in-Some-behind.is at c.cut_at.ensures.more) c.in-Some.ensures.some

pub returns-clause-none : goal.returns-clause-none
returns-clause-none g c xs said few = too-many g.T.Word.says c.args.text.now c.loop-turn.rest.now c.loop-turn.list.items xs c.loop-turn._turn c.loop-turn.invariant said (search rules)
