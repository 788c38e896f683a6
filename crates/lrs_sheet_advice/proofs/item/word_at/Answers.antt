use Rattle.std.proofs.Common.{rules}
use Rattle.lrs_sheet_advice.proofs.ListWords.{at_start, found_here, nearer, none_behind}
use Rattle.lrs_sheet_advice.proofs.item.word_at.Goals as goal

pub loop-turn-init : goal.loop-turn-init
loop-turn-init c = at_start c.args.byte c.args.text.now c.args.place

pub returns-in-None-clause-none : goal.returns-in-None-clause-none
returns-in-None-clause-none c =
    none_behind c.args.byte c.args.text.now c.loop-turn.rest.now c.cut_at.result.0.now c.args.place c.loop-turn.turn (search rules) (rw c.in-None.is at c.cut_at.ensures.last) c.loop-turn.invariant

pub loop-turn-preserved : goal.loop-turn-preserved
loop-turn-preserved c =
    nearer c.args.byte c.args.text.now c.loop-turn.rest.now c.cut_at.result.0.now c.in-Some.left.now c.args.place c.loop-turn.turn (search rules) (rw c.in-Some.is at c.cut_at.ensures.more) c.loop-turn.invariant

pub returns-clause-some : goal.returns-clause-some
returns-clause-some c = found_here c.args.byte c.args.text.now c.loop-turn.rest.now c.args.place c.loop-turn.turn c.first_word.result.now (search rules) c.first_word.ensures c.loop-turn.invariant
