use Rattle.lrs_report_answers.proofs.Place.Exact.{located_is_exact}
use Rattle.lrs_report_answers.proofs.places.laws.located_is_exact.Goals as goal

pub returns : goal.returns
returns c = located_is_exact
