use Rattle.lrs_report_answers.proofs.Place.Links.{leads_back}
use Rattle.lrs_report_answers.proofs.places.laws.links_lead_back.Goals as goal

pub returns : goal.returns
returns c = leads_back
