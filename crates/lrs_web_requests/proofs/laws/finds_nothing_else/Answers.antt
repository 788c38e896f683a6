use Rattle.lrs_web_requests.proofs.PathLemmas.{finds_nothing_else}
use Rattle.lrs_web_requests.proofs.laws.finds_nothing_else.Goals as goal

pub returns : goal.returns
returns c = finds_nothing_else
