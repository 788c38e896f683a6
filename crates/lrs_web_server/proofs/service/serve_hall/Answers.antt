use Rattle.lrs_web_server.proofs.Together.{ended_so, stopped_so}
use Rattle.lrs_web_server.proofs.service.serve_hall.Goals as goal

pub returns-clause-visited : goal.returns-clause-visited
returns-clause-visited g c = ended_so _ _ _ _ _ _ _ _ _ _ c.serve_each-outcome.result c.serve_each-outcome.ensures.visited

pub returns-clause-stopped : goal.returns-clause-stopped
returns-clause-stopped g c = stopped_so _ _ _ _ _ _ _ _ _ _ c.serve_each-outcome.result c.serve_each-outcome.ensures.stopped
