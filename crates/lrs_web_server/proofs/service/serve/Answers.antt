use Rattle.std.proofs.Common.{[], None, refl}
use Rattle.lrs_web.specs.Visits.{nobody}
use Rattle.lrs_web_server.proofs.service.serve.Goals as goal

-- nobody was served

pub returns-in_default-clause-stopped : goal.returns-in_default-clause-stopped
returns-in_default-clause-stopped g c = (0, 0, (None, [], refl, nobody _))

pub returns-in_default-open-clause-stopped : goal.returns-in_default-open-clause-stopped
returns-in_default-open-clause-stopped g c = (0, 0, (None, [], refl, nobody _))

pub returns-then-is_err-clause-stopped : goal.returns-then-is_err-clause-stopped
returns-then-is_err-clause-stopped g c = (0, 0, (None, [], refl, nobody _))
