use Rattle.lrs_web_requests.proofs.BodyLemmas.{filled_on}
use Rattle.lrs_web_requests.proofs.body.fill.Goals as goal

pub loop-filled-preserved : goal.loop-filled-preserved
loop-filled-preserved g c = filled_on _ _ _ _ _ _ _ _ _ c.loop-filled.invariant c.in_ok-count.ensures c.read_on.auto.buffer
