use Rattle.lrs_drafts.specs.Words.{SaysRoute}
use Rattle.lrs_drafts.proofs.Worded.{one_more_said}
use Rattle.lrs_drafts.proofs.words.routes_of.Goals as goal

pub loop-word-preserved : goal.loop-word-preserved
loop-word-preserved c =
    one_more_said SaysRoute c.args.words.now c.loop-word.word-index _ c.loop-word.routes.items c.push.new.self.items c.in-Some.route c.loop-word-test.true c.loop-word.invariant c.in_ok-push.ensures.items c.in-Some.ensures
