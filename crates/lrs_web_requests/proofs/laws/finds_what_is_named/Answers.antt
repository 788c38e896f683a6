use Rattle.lrs_web_requests.proofs.PathLemmas.{finds_what_is_named}
use Rattle.lrs_web_requests.proofs.laws.finds_what_is_named.Goals as goal

pub returns : goal.returns
returns c = finds_what_is_named
