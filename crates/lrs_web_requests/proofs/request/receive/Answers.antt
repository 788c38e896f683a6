use Rattle.lrs_web_requests.proofs.RequestLemmas.{received}
use Rattle.lrs_web_requests.proofs.request.receive.Goals as goal

pub returns-in-Complete-clause-asked : goal.returns-in-Complete-clause-asked
returns-in-Complete-clause-asked g c = received c.read_on_from.result _ _ _ _ c.in_ok-reading.ensures.consumed c.read_on_from.ensures.asked
